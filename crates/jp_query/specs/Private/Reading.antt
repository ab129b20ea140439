-- What the reader of queries does, at each number of levels, and with a whole text.
use Rattle.std.specs.Prelude.{ℕ, Bool, true, zero, suc, if◌then◌else◌}
use Rattle.jp_reading.specs.Outcome.{State, Outcome, took, stuck, deep, ◌>>=◌, skip, is_end}
use Rattle.jp_reading.specs.Rule.{Look, here, beyond}
use Rattle.jp_reading.specs.RuleReading.{InnerReader, nothing, read}
use Rattle.jp_tree.specs.Tree.{QueryTree, ExprTree}
use Rattle.jp_reading.specs.Characters.{opening_parenthesis}
use Rattle.jp_query.specs.Private.Rules.{nesting, QueryRule, expression_after, CallRest, any_call}
use Rattle.jp_query.specs.Private.Rules.{closed}
use Rattle.jp_query.specs.Private.Rules.{opened, query, filter_text}

-- how what opens a level is read inside n levels. With no level left, one more would be needed at
-- the opening.
abbrev pub inside : ℕ → InnerReader nesting
inside zero o p = deep p
inside (suc n) o p = read (inside n) (opened o) p

-- what a rule reads, where nothing is nested in it
abbrev pub read_flat : {u : Bool} {a b : Look} {A : Type 0} → QueryRule u a b A → State → Outcome A
read_flat r p = read (nothing nesting) r p

-- what a rule reads inside n levels
abbrev pub read_inside : {u : Bool} {a b : Look} {A : Type 0} → ℕ → QueryRule u a b A → State
    → Outcome A
read_inside n r p = read (inside n) r p

-- how the rest of a function expression is read inside n levels
abbrev pub call_inside : ℕ → State → Outcome CallRest
call_inside zero p = deep p
call_inside (suc n) p = read (inside n) any_call p

-- paren-expr (RFC 9535 section 2.3.5.1), without its `!`
abbrev pub parenthesis_at : ℕ → State → Outcome ExprTree
parenthesis_at n p = inside n (expression_after opening_parenthesis) p >>= λ e q. read_inside n (closed e) q

-- what was read ends with the text; at what else comes there reading is stuck, past the blanks
abbrev pub at_text_end : {A : Type 0} → A → State → Outcome A
at_text_end x r = if is_end r then took x r else stuck (skip r)

-- a whole text of the rule
abbrev pub whole_at : {A : Type 0} → QueryRule true here beyond A → ℕ → State → Outcome A
whole_at rule n p = read (inside n) rule p >>= at_text_end

-- a whole query
unfoldable pub query_at : ℕ → State → Outcome QueryTree
query_at = whole_at query

-- the whole text of a filter's expression
unfoldable pub filter_at : ℕ → State → Outcome ExprTree
filter_at = whole_at filter_text
