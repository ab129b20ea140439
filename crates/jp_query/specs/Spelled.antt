-- What is kept of a query or a filter's expression that was read, and what is said of texts that spell
-- none.
use Rattle.std.specs.Prelude.{ℕ}
use Rattle.jp_reading.specs.Texts.{Text, Spans}
use Rattle.jp_tree.specs.declared.tree.Expr.{Expr}
use Rattle.jp_tree.specs.declared.tree.Query.{Query}
use Rattle.jp_tree.specs.Tree.{ExprTree, QueryTree}
use Rattle.jp_query.specs.Grammar.{Spells, SpellsFilter}

-- which texts spell which trees within some levels, and with which spans of their components
abbrev pub Spelling : Type 0 → Type 1
Spelling A = ℕ → A → Spans → Text → Type 0

-- the text spells no tree
abbrev pub SpellsNone : {A : Type 0} → Spelling A → ℕ → Text → Type 0
SpellsNone {A} Spelt n text = (x : A) (s : Spans) → Spelt n x s text → ⊥

-- a query and the spans of its components, in the components' order
pub record Spanned : Type 0 where
  pub query : Query
  pub spans : Spans

-- some text spells the tree with these spans (RFC 9535 section 2.1.1)
abbrev pub IsSpelled : ℕ → QueryTree → Spans → Type 0
IsSpelled n q s = (text : Text) × Spells n q s text

-- the text spells no tree (RFC 9535 section 2.1.1)
abbrev pub SpellsNothing : ℕ → Text → Type 0
SpellsNothing = SpellsNone Spells

-- the expression of a filter and the spans of its components, in the components' order
pub record SpannedFilter : Type 0 where
  pub expr : Expr
  pub spans : Spans

-- some text spells the expression with these spans (section 2.3.5.1)
abbrev pub IsFilterSpelled : ℕ → ExprTree → Spans → Type 0
IsFilterSpelled n e s = (text : Text) × SpellsFilter n e s text

-- the text spells no expression of a filter (section 2.3.5.1)
abbrev pub SpellsNoFilter : ℕ → Text → Type 0
SpellsNoFilter = SpellsNone SpellsFilter
