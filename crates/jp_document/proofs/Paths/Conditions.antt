-- That the rules of paths are alive, and apart from one another and from what follows them: found
-- by computing, once `all_rules` says what a rule is made of.
use Rattle.std.proofs.Common.{◌≡◌, ℕ, true, List, [], ◌∷◌, ◌++◌, refl, arith}
use Rattle.std.specs.Prelude.{codes}
use Rattle.std.proofs.lemmas.Bool.Decides.{nat_tests}
use Rattle.jp_reading.specs.Numbers.{is_digit}
use Rattle.jp_reading.proofs.Rules.Ranges.{Range, on_from, ranges}
use Rattle.jp_reading.proofs.Rules.Classes.{Known, known, have_first, AreSame, ◌&◌, Classes}
use Rattle.jp_reading.proofs.Rules.Classes.{classes_of, Marks, marks as marks_of}
use Rattle.jp_reading.proofs.Rules.Form.{Alive}
use Rattle.jp_reading.proofs.Rules.Follow.{Follow, any, at_end, Apart}
use Rattle.jp_document.specs.Private.PathRules.{nesting, is_plain, is_letter, is_low_digit}
use Rattle.jp_document.specs.Private.PathRules.{is_hex_digit, is_inside}
use Rattle.jp_reading.specs.Numbers.{is_leading_digit}
use Rattle.jp_document.specs.Private.PathRules as rule

-- the first character of each range and its last, in turn
abbrev table : List Known
table =
    known is_plain (ranges (codes " &([") ++ on_from 93 ∷ [])
    ∷ known is_letter (ranges (codes "bbttnnffrr''\\\\"))
    ∷ known is_low_digit (ranges (codes "07bbef"))
    ∷ known is_hex_digit (ranges (codes "09af"))
    ∷ known is_inside (ranges (0 ∷ codes "&") ++ on_from 40 ∷ [])
    ∷ known is_digit (ranges (codes "09"))
    ∷ known is_leading_digit (ranges (codes "19"))
    ∷ []

has-first : have_first table ≡ true
unfolding is_plain is_letter is_low_digit is_hex_digit is_digit
has-first = refl

is-same : (c : ℕ) → AreSame table c
unfolding is_plain is_letter is_low_digit is_hex_digit is_digit
is-same c =
    (grind (arith, nat_tests)) & (grind (arith, nat_tests)) & (grind (arith, nat_tests))
    & (grind (arith, nat_tests)) & (grind (arith, nat_tests)) & (grind (arith, nat_tests))
    & (grind (arith, nat_tests)) & tt

abbrev named : Classes table
named = classes_of table has-first is-same

-- and those of one character
abbrev marks : Marks (codes "'[")
marks = marks_of (codes "'[")

-- what each rule is made of
all_rules : Unit {0}
unfolding rule.hexchar rule.escape rule.name_character rule.name_characters rule.name rule.size
    rule.index rule.normal_selector rule.step rule.steps rule.path
all_rules = tt

pub path-alive : Alive rule.path
unfolding all_rules
path-alive = assumption (named, marks)

-- nothing is nested
abbrev pub none_starts : ⊥ → List Range
none_starts o = []

abbrev pub none_closes : ⊥ → Follow
none_closes o = any

pub path-apart : Apart {N = nesting} none_starts none_closes rule.path path-alive at_end
unfolding all_rules path-alive
path-apart = assumption
