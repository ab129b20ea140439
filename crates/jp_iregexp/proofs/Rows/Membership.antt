-- Words, others and parts.
use Rattle.std.proofs.Common.{◌≡◌, true, false, [], ◌∷◌, Some, None, refl}
use Rattle.std.specs.Prelude.{codes}
use Rattle.jp_reading.specs.Characters as char
use Rattle.jp_iregexp.specs.declared.class.ClassElement.TheVariants.{Range}
use Rattle.jp_iregexp.specs.Class.{class_holds, element_holds}
use Rattle.jp_iregexp.specs.Grammar.{one}
use Rattle.jp_iregexp.specs.Membership.{is_word, has_word}
use Rattle.jp_iregexp.specs.Tree.{Tree, class, nothing, repeat, branches, pieces}

-- `a?`
abbrev a_or_empty : Tree
a_or_empty = repeat (one char.letter_a) 0 (Some 1)

-- `[jk]`
abbrev j_or_k : Tree
j_or_k = class false (Range char.letter_j char.letter_j ∷ Range char.letter_k char.letter_k ∷ [])

-- `ab|`
abbrev ab_or_empty : Tree
ab_or_empty = branches (pieces (one char.letter_a ∷ one char.letter_b ∷ []) ∷ pieces [] ∷ [])

-- `(a?){2,5}` has the empty word and `aaa`, and not `b`
repeats_of_empty : (is_word (repeat a_or_empty 2 (Some 5)) (codes "") ≡ true) ×
    (is_word (repeat a_or_empty 2 (Some 5)) (codes "aaa") ≡ true) ×
    (is_word (repeat a_or_empty 2 (Some 5)) (codes "b") ≡ false)
unfolding is_word class_holds element_holds
repeats_of_empty = (refl, refl, refl)

-- `[jk]` has `j` and not `kilo`, of which a part is a word
words_and_parts : (is_word j_or_k (codes "j") ≡ true) × (is_word j_or_k (codes "kilo") ≡ false) ×
    (has_word j_or_k (codes "kilo") ≡ true) × (has_word j_or_k (codes "lima") ≡ false)
unfolding has_word is_word class_holds element_holds
words_and_parts = (refl, refl, refl, refl)

-- `a{2,3}` has `aa`, and neither `a` nor `aaaa`
counts : (is_word (repeat (one char.letter_a) 2 (Some 3)) (codes "aa") ≡ true) ×
    (is_word (repeat (one char.letter_a) 2 (Some 3)) (codes "a") ≡ false) ×
    (is_word (repeat (one char.letter_a) 2 (Some 3)) (codes "aaaa") ≡ false)
unfolding is_word class_holds element_holds
counts = (refl, refl, refl)

-- `a{0}` has the empty word alone
no_times : (is_word (repeat (one char.letter_a) 0 (Some 0)) (codes "") ≡ true) ×
    (is_word (repeat (one char.letter_a) 0 (Some 0)) (codes "a") ≡ false)
unfolding is_word class_holds element_holds
no_times = (refl, refl)

-- a repeat of what has no word has the empty word, where it may stand no times
repeats_of_none : (is_word (repeat nothing 0 None) (codes "") ≡ true) ×
    (is_word (repeat nothing 1 None) (codes "") ≡ false)
unfolding is_word
repeats_of_none = (refl, refl)

-- a repeat whose least is above its most has no word
least_above_most : is_word (repeat (one char.letter_a) 2 (Some 1)) (codes "a") ≡ false
unfolding is_word class_holds element_holds
least_above_most = refl

-- `ab|` has `ab` and the empty word, and not `ba`
two_branches : (is_word ab_or_empty (codes "ab") ≡ true) × (is_word ab_or_empty (codes "") ≡ true) ×
    (is_word ab_or_empty (codes "ba") ≡ false)
unfolding is_word class_holds element_holds
two_branches = (refl, refl, refl)

-- the empty word is a part of each text
empty_part : has_word (pieces []) (codes "") ≡ true
unfolding has_word is_word
empty_part = refl
