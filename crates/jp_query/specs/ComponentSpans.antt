-- Where the components of a query are in its text.
use Rattle.std.specs.Prelude.{◌≡◌, ℕ, ◌+◌, ◌<◌, ◌⊎◌, pos, List, [], ◌∷◌, ◌++◌, Option, Some, None}
use Rattle.jp_tree.specs.declared.tree.Numeral.TheVariants.{Whole}
use Rattle.jp_reading.specs.Texts.{Text, Spans, bytes}
use Rattle.jp_reading.specs.declared.span.Span.{Span}
use Rattle.jp_query.specs.Grammar.{InnerQuery, FunctionCall, Logical, Inside, Spells, SpellsFilter}
use Rattle.jp_query.specs.Ints.{Int}
use Rattle.jp_query.specs.Components.{QueryComponent, as_step, int, constant, inner, called}
use Rattle.jp_query.specs.Components.{logical}
use Rattle.jp_query.specs.Components.{components_of, expr_components}
use Rattle.jp_query.specs.Literals.{Literal}
use Rattle.jp_tree.specs.Tree.{ExprTree, QueryTree}

-- a text that starts at byte o spells the component: a number (RFC 9535 section 2.3.3.1), a literal, a
-- query inside another, with its `$` or `@` (section 2.3.5.1), a function expression with its name,
-- or a logical expression (section 2.4)
abbrev pub SpellsComponent : QueryComponent → ℕ → Text → Type 0
SpellsComponent (int n _) o t = Int n [] o t
SpellsComponent (constant l _) o t = Literal l [] o t
SpellsComponent (inner q _) o t = (n : ℕ) × (s : Spans) × InnerQuery (Inside n) q s o t
SpellsComponent (called c _) o t = (n : ℕ) × (s : Spans) × FunctionCall (Inside n) c s o t
SpellsComponent (logical e _) o t = (n : ℕ) × (s : Spans) × Logical (Inside n) e s o t

-- the component has this span in the text: the text within the span spells the component, and the
-- span starts after as many bytes as there are before that text
pub record IsSpanOf (text : Text) (component : QueryComponent) (span : Span) : Type 0 where
  pub before : Text
  pub own : Text
  pub after : Text
  pub parts : text ≡ before ++ own ++ after
  pub start : span.start ≡ bytes before
  pub end : span.end ≡ span.start + bytes own
  pub spells : SpellsComponent component span.start own

-- only an omitted step, which is 1, has no span (section 2.3.4.1)
abbrev pub IsPlaceOf : Text → QueryComponent → Option Span → Type 0
IsPlaceOf text component (Some span) = IsSpanOf text component span
IsPlaceOf text component None = component ≡ int (Whole (pos 1)) as_step

-- each component in turn has its span, and there are no others
abbrev pub EachSpanned : Text → List QueryComponent → Spans → Type 0
EachSpanned text [] [] = Unit {0}
EachSpanned text (component ∷ components) (span ∷ spans) =
    IsPlaceOf text component span × EachSpanned text components spans
EachSpanned text _ _ = ⊥

-- the one starts after the other, or where the other does, and then it is the shorter
abbrev pub ComesAfter : Span → Span → Type 0
ComesAfter span other =
    (other.start < span.start) ⊎ ((other.start ≡ span.start) × (span.end < other.end))

-- each span comes after this one
abbrev pub AllComeAfter : Span → Spans → Type 0
AllComeAfter other [] = Unit {0}
AllComeAfter other (None ∷ spans) = AllComeAfter other spans
AllComeAfter other (Some span ∷ spans) = ComesAfter span other × AllComeAfter other spans

-- the spans are in the order of their starts, and of several with one start the longer is first
abbrev pub Rise : Spans → Type 0
Rise [] = Unit {0}
Rise (None ∷ spans) = Rise spans
Rise (Some span ∷ spans) = AllComeAfter span spans × Rise spans

-- these are the spans of the components in the text
pub record AreSpansOf (text : Text) (components : List QueryComponent) (spans : Spans) : Type 0 where
  pub each : EachSpanned text components spans
  pub rise : Rise spans

-- some text spells the tree within n levels, and these are the spans of its components there
abbrev pub IsSpelledWithSpans : ℕ → QueryTree → Spans → Type 0
IsSpelledWithSpans n q spans =
    (text : Text) × Spells n q spans text × AreSpansOf text (components_of q) spans

-- the same of the expression of a filter
abbrev pub IsFilterWithSpans : ℕ → ExprTree → Spans → Type 0
IsFilterWithSpans n e spans =
    (text : Text) × SpellsFilter n e spans text × AreSpansOf text (expr_components e) spans
