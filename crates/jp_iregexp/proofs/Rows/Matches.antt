-- Matches of texts with patterns that are texts.
use Rattle.std.proofs.Common.{◌≡◌, true, false, refl}
use Rattle.std.specs.Prelude.{codes}
use Rattle.jp_reading.specs.Numbers.{is_digit}
use Rattle.jp_reading.specs.NumberReading.{digits_at}
use Rattle.jp_reading.specs.Outcome.{loop}
use Rattle.jp_iregexp.specs.Characters.{is_normal, is_plain}
use Rattle.jp_iregexp.specs.Class.{class_holds, element_holds}
use Rattle.jp_iregexp.specs.MatchTests.{is_match, has_match}
use Rattle.jp_iregexp.specs.Membership.{is_word, has_word}
use Rattle.jp_iregexp.specs.PatternOf.{pattern_of}
use Rattle.jp_iregexp.specs.Private.Reading.{pattern_at, branches_at, branch_at, piece_at, atom_at}
use Rattle.jp_iregexp.specs.Private.Reading.{group_at, inside_at, quantifier_at}
use Rattle.jp_iregexp.specs.Private.Reading.{braces_at, number_at}
use Rattle.jp_iregexp.specs.Private.Reading.{most_at, class_at, all_elements_at, element_at, range_at}
use Rattle.jp_iregexp.specs.Private.Reading.{character_at}

-- the empty text and `aaa` match `(a?){2,5}`, and `b` does not
repeats : (is_match (codes "") (codes "(a?){2,5}") ≡ true) ×
    (is_match (codes "aaa") (codes "(a?){2,5}") ≡ true) ×
    (is_match (codes "b") (codes "(a?){2,5}") ≡ false)
unfolding is_match is_word pattern_of pattern_at branches_at branch_at piece_at atom_at group_at
    inside_at quantifier_at braces_at number_at most_at digits_at is_digit loop is_normal
    class_holds element_holds
repeats = (refl, refl, refl)

-- `b` matches `[^-a]`, and `a` does not; no text matches `[^]`, which does not conform
classes : (is_match (codes "b") (codes "[^-a]") ≡ true) ×
    (is_match (codes "a") (codes "[^-a]") ≡ false) ×
    (is_match (codes "b") (codes "[^]") ≡ false)
unfolding is_match is_word pattern_of pattern_at branches_at branch_at piece_at atom_at class_at
    all_elements_at element_at range_at character_at loop is_plain class_holds element_holds
classes = (refl, refl, refl)

-- `kilo` does not match `[jk]`, but a part of it does
parts : (is_match (codes "kilo") (codes "[jk]") ≡ false) ×
    (has_match (codes "kilo") (codes "[jk]") ≡ true) ×
    (has_match (codes "lima") (codes "[jk]") ≡ false)
unfolding is_match has_match is_word has_word pattern_of pattern_at branches_at branch_at piece_at
    atom_at class_at all_elements_at element_at range_at character_at loop is_plain class_holds element_holds
parts = (refl, refl, refl)
