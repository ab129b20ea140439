-- The pattern of a text as a function, and the laws that say that it is what the text spells.
use Rattle.std.specs.Prelude.{◌≡◌, ◌↔◌, [], Option, Some, None}
use Rattle.jp_reading.specs.Texts.{Text}
use Rattle.jp_reading.specs.Outcome.{Outcome, took, stuck, deep}
use Rattle.jp_iregexp.specs.Grammar.{SpellsPattern}
use Rattle.jp_iregexp.specs.Groups.{group_limit}
use Rattle.jp_iregexp.specs.Private.Reading.{pattern_at}
use Rattle.jp_iregexp.specs.Spelled.{SpellsNone}
use Rattle.jp_iregexp.specs.Tree.{Tree}

-- the value that a rule takes, if it takes one
abbrev pub taken : {A : Type 0} → Outcome A → Option A
taken (took x p) = Some x
taken (stuck p) = None
taken (deep p) = None

-- the pattern that a text spells within the limit of groups, if it does (RFC 9485 section 3), as
-- what the reader of patterns takes; `SpeltIsFound` and `OthersHaveNone` pin it by the grammar
unfoldable pub pattern_of : Text → Option Tree
pattern_of text = taken (pattern_at group_limit (record { at = 0; rest = text; found = [] }))

-- a pattern is the pattern of a text exactly if the text spells it
abbrev pub SpeltIsFound : Type 0
SpeltIsFound = (text : Text) (a : Tree)
    → (pattern_of text ≡ Some a) ↔ SpellsPattern group_limit a text

-- a text has no pattern exactly if it spells none
abbrev pub OthersHaveNone : Type 0
OthersHaveNone = (text : Text) → (pattern_of text ≡ None) ↔ SpellsNone group_limit text
