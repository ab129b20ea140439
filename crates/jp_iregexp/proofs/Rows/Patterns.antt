-- What texts spell.
use Rattle.std.proofs.Common.{◌≡◌, ℕ, true, false, List, [], ◌∷◌, Some, refl}
use Rattle.std.specs.Prelude.{codes}
use Rattle.jp_reading.specs.Characters as char
use Rattle.jp_reading.specs.Texts.{Text}
use Rattle.jp_reading.specs.Outcome.{loop, took}
use Rattle.jp_reading.specs.Numbers.{is_digit}
use Rattle.jp_reading.specs.NumberReading.{digits_at}
use Rattle.jp_reading.proofs.States.Again.{start, finish}
use Rattle.jp_iregexp.specs.declared.category.Category.TheVariants.{Lu}
use Rattle.jp_iregexp.specs.declared.class.ClassElement.TheVariants as element
use Rattle.jp_iregexp.specs.Characters.{is_normal, is_plain, is_escaped, meant}
use Rattle.jp_iregexp.specs.Codes.{letters}
use Rattle.jp_iregexp.specs.Private.CodeReading.{code_of}
use Rattle.jp_iregexp.specs.Tree.{Tree, class, repeat, branches, pieces}
use Rattle.jp_iregexp.specs.Grammar.{one, dot, SpellsPattern}
use Rattle.jp_iregexp.specs.Spelled.{SpellsNone}
use Rattle.jp_iregexp.specs.Private.Reading.{pattern_at, branches_at, branch_at, next_branch_at}
use Rattle.jp_iregexp.specs.Private.Reading.{piece_at, atom_at, group_at, inside_at, escape_at}
use Rattle.jp_iregexp.specs.Private.Reading.{class_at, all_elements_at, element_at, range_at}
use Rattle.jp_iregexp.specs.Private.Reading.{character_at, escaped_at, category_at, code_at}
use Rattle.jp_iregexp.specs.Private.Reading.{quantifier_at, braces_at, most_at, number_at}
use Rattle.jp_iregexp.proofs.WholeTexts.{read-spelt, fails-spelt, deep-spelt}

-- the pattern of one branch
abbrev branch : List Tree → Tree
branch xs = branches (pieces xs ∷ [])

-- a text that is read spells what is read
spells : (n : ℕ) (x : Tree) (t : Text) → pattern_at n (start t) ≡ took x (finish t [])
    → SpellsPattern n x t
spells n x t is = read-spelt n x t (finish t []) is

-- `a|` spells two branches, the second one empty; the empty text one empty branch; `[a-]` the
-- ranges of `a` and `-`; `[^^]` the negated class of `^`; `.a{2,3}` a dot and a repeat; `(\^)` a
-- group of the character `^`; `\P{Lu}` all characters that are no upper case letters
spelt : SpellsPattern 0 (branches (pieces (one char.letter_a ∷ []) ∷ pieces [] ∷ [])) (codes "a|") ×
    SpellsPattern 0 (branch []) (codes "") ×
    SpellsPattern 0 (branch (class false
    (element.Range char.letter_a char.letter_a ∷ element.Range char.hyphen char.hyphen ∷ []) ∷ []))
    (codes "[a-]") ×
    SpellsPattern 0 (branch (class true (element.Range char.caret char.caret ∷ []) ∷ []))
    (codes "[^^]") ×
    SpellsPattern 0 (branch (dot ∷ repeat (one char.letter_a) 2 (Some 3) ∷ [])) (codes ".a{2,3}") ×
    SpellsPattern 1 (branch (branch (one char.caret ∷ []) ∷ [])) (codes "(\\^)") ×
    SpellsPattern 0 (branch (class false (element.Category Lu true ∷ []) ∷ [])) (codes "\\P{Lu}")
unfolding pattern_at branches_at branch_at next_branch_at piece_at atom_at group_at inside_at
    escape_at class_at all_elements_at element_at range_at character_at escaped_at category_at code_at
    code_of letters quantifier_at braces_at most_at number_at digits_at is_digit loop is_normal
    is_plain is_escaped meant
spelt = (
  spells _ _ (codes "a|") refl,
  spells _ _ (codes "") refl,
  spells _ _ (codes "[a-]") refl,
  spells _ _ (codes "[^^]") refl,
  spells _ _ (codes ".a{2,3}") refl,
  spells _ _ (codes "(\\^)") refl,
  spells _ _ (codes "\\P{Lu}") refl,
)

-- none of these spells a pattern; the last one would with a level more
not_spelt : SpellsNone 64 (codes "[^]") × SpellsNone 64 (codes "[b-a]") ×
    SpellsNone 64 (codes "[a-b-c]") × SpellsNone 64 (codes "a{2,1}") ×
    SpellsNone 64 (codes "a**") × SpellsNone 64 (codes "\\d") × SpellsNone 64 (codes "a)") ×
    SpellsNone 0 (codes "(a)")
unfolding pattern_at branches_at branch_at next_branch_at piece_at atom_at group_at inside_at
    escape_at class_at all_elements_at element_at range_at character_at escaped_at category_at code_at
    code_of letters quantifier_at braces_at most_at number_at digits_at is_digit loop is_normal
    is_plain is_escaped meant
not_spelt = (
  fails-spelt 64 (codes "[^]") 2 refl,
  fails-spelt 64 (codes "[b-a]") 4 refl,
  fails-spelt 64 (codes "[a-b-c]") 5 refl,
  fails-spelt 64 (codes "a{2,1}") 5 refl,
  fails-spelt 64 (codes "a**") 2 refl,
  fails-spelt 64 (codes "\\d") 1 refl,
  fails-spelt 64 (codes "a)") 1 refl,
  deep-spelt 0 (codes "(a)") 1 refl,
)
