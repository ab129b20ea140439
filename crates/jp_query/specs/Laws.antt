-- Laws of the grammar (RFC 9535 section 2.1.1).
use Rattle.std.specs.Prelude.{◌≡◌, ◌≤◌, ◌⊎◌, ℕ}
use Rattle.jp_reading.specs.Texts.{Text, Spans}
use Rattle.jp_tree.specs.Tree.{QueryTree}
use Rattle.jp_query.specs.Grammar.{Spells}
use Rattle.jp_query.specs.Components.{components_of}
use Rattle.jp_query.specs.ComponentSpans.{AreSpansOf}
use Rattle.jp_query.specs.Spelled.{SpellsNothing}
use Rattle.jp_query.specs.ViablePrefix.{IsSyntaxAt, IsTooDeepAt}
use Rattle.jp_query.specs.declared.refusal.RefusalKind.{RefusalKind}
use Rattle.jp_query.specs.declared.refusal.RefusalKind.TheVariants.{Syntax, TooDeep}

-- no text spells two trees, or one tree with two lists of spans, whatever the levels
abbrev pub OneReading : Type 0
OneReading =
    (n m : ℕ) (q u : QueryTree) (s t : Spans) (text : Text) → Spells n q s text → Spells m u t text
    → (q ≡ u) × (s ≡ t)

-- a text that spells a tree within some levels spells it within more, with the same spans
abbrev pub LevelsOnlyAdd : Type 0
LevelsOnlyAdd =
    (n m : ℕ) (q : QueryTree) (s : Spans) (text : Text) → n ≤ m → Spells n q s text
    → Spells m q s text

-- the spans of a text that spells a tree are those of its components, whatever the levels
abbrev pub SpansOfComponents : Type 0
SpansOfComponents =
    (n : ℕ) (q : QueryTree) (s : Spans) (text : Text) → Spells n q s text
    → AreSpansOf text (components_of q) s

-- the parser refuses the text with that kind, at that place
abbrev pub IsParseRefusal : ℕ → Text → RefusalKind → ℕ → Type 0
IsParseRefusal n text kind place =
    ((kind ≡ Syntax) × IsSyntaxAt n text place) ⊎ ((kind ≡ TooDeep) × IsTooDeepAt n text place)

-- a text spells a tree, or is refused, with one kind and at one place; and not both
pub record IsRefusedOnce (n : ℕ) (text : Text) : Type 0 where
  pub answered : ((q : QueryTree) × (s : Spans) × Spells n q s text)
      ⊎ ((kind : RefusalKind) × (place : ℕ) × IsParseRefusal n text kind place)
  pub once : (kind other : RefusalKind) (place elsewhere : ℕ) → IsParseRefusal n text kind place
      → IsParseRefusal n text other elsewhere
      → (kind ≡ other) × (place ≡ elsewhere)
  pub only : (kind : RefusalKind) (place : ℕ) → IsParseRefusal n text kind place
      → SpellsNothing n text

-- whatever the text, and the levels
abbrev pub OneRefusal : Type 0
OneRefusal = (n : ℕ) (text : Text) → IsRefusedOnce n text
