-- The patterns of texts.
use Rattle.std.proofs.Common.{◌≡◌, true, [], ◌∷◌, Some, None, refl}
use Rattle.std.specs.Prelude.{codes}
use Rattle.jp_reading.specs.Characters as char
use Rattle.jp_reading.specs.Outcome.{loop}
use Rattle.jp_iregexp.specs.declared.class.ClassElement.TheVariants.{Range}
use Rattle.jp_iregexp.specs.Characters.{is_plain}
use Rattle.jp_iregexp.specs.PatternOf.{pattern_of}
use Rattle.jp_iregexp.specs.Private.Reading.{pattern_at, branches_at, branch_at, piece_at, atom_at}
use Rattle.jp_iregexp.specs.Private.Reading.{class_at, all_elements_at, element_at, range_at, character_at}
use Rattle.jp_iregexp.specs.Tree.{class, branches, pieces}

-- `[^-a]` is the class of all but `-` and `a`, and `[^]` is no pattern
negated_classes : (pattern_of (codes "[^-a]") ≡
    Some (branches (pieces (class true
    (Range char.hyphen char.hyphen ∷ Range char.letter_a char.letter_a ∷ []) ∷ []) ∷ []))) ×
    (pattern_of (codes "[^]") ≡ None)
unfolding pattern_of pattern_at branches_at branch_at piece_at atom_at class_at all_elements_at
    element_at range_at character_at loop is_plain
negated_classes = (refl, refl)
