-- The codes of categories and their letters: for both directions of reading a category.
use Rattle.std.proofs.Common.{◌≡◌, ℕ, Bool, true, List, [], ◌∷◌, get_or}
use Rattle.std.proofs.Common.{Option, Some, None, inl, inr, refl, ap, subst}
use Rattle.std.proofs.lemmas.Bool.{and_parts, cases_Bool, eqb-true}
use Rattle.std.specs.Prelude.{find}
use Rattle.std.specs.Char.{is_ascii_alphabetic}
use Rattle.jp_reading.specs.Characters as char
use Rattle.jp_reading.specs.Texts.{Text}
use Rattle.jp_iregexp.specs.declared.category.Category.{Category}
use Rattle.jp_iregexp.specs.declared.category.Category.TheVariants.{L, M, N, P, Z, S, C}
use Rattle.jp_iregexp.specs.declared.category.TheConstants.Category.{ALL}
use Rattle.jp_iregexp.specs.Codes.{letters}
use Rattle.jp_iregexp.specs.Private.CodeReading.{pair, is_pair, code_of}

-- what is found passes the test
found-passes : {X : Type 0} (test : X → Bool) (xs : List X) (x : X) → find test xs ≡ Some x
    → test x ≡ true
found-passes test [] x h = cc
found-passes test (y ∷ ys) x h =
    elim (cases_Bool (test y)) [
      | inl e ↦
          let one : Some y ≡ Some x = rw e at h in
          let same : y ≡ x = cc in subst (λ z. test z ≡ true) same e
      | inr e ↦ let later : find test ys ≡ Some x = rw e at h in found-passes test ys x later
    ]

is_pair-pair : (a : ℕ) (b : Option ℕ) (t : Text) → is_pair a b t ≡ true → t ≡ pair a b
is_pair-pair a None [] h = cc
is_pair-pair a None (c ∷ []) h = ap (λ x. x ∷ []) (eqb-true c a h)
is_pair-pair a None (c ∷ d ∷ t) h = cc
is_pair-pair a (Some b) [] h = cc
is_pair-pair a (Some b) (c ∷ []) h = cc
is_pair-pair a (Some b) (c ∷ d ∷ []) h =
    let parts = and_parts _ _ h in
    let first = eqb-true c a parts.0 in
    let second = eqb-true d b parts.1 in
    cc
is_pair-pair a (Some b) (c ∷ d ∷ e ∷ t) h = cc

-- a code that is found has the letters
pub code_of-letters : (a : ℕ) (b : Option ℕ) (k : Category) → code_of a b ≡ Some k
    → letters k ≡ pair a b
unfolding code_of
code_of-letters a b k h =
    is_pair-pair a b (letters k) (found-passes (λ x. is_pair a b (letters x)) ALL k h)

-- a second letter, where there is one, is a letter
abbrev pub AreLetters : Option ℕ → Type 0
AreLetters None = Unit {0}
AreLetters (Some b) = is_ascii_alphabetic b ≡ true

-- the letters of a code, by which it is found
pub record Lettered (k : Category) : Type 0 where
  pub first : ℕ
  pub second : Option ℕ
  pub are : letters k ≡ pair first second
  pub first_is : is_ascii_alphabetic first ≡ true
  pub second_is : AreLetters second
  pub found : code_of first second ≡ Some k

one_letter : (k : Category) (a : ℕ) → letters k ≡ pair a None → is_ascii_alphabetic a ≡ true
    → code_of a None ≡ Some k → Lettered k
one_letter k a are first found =
    record { first = a; second = None; are = are; first_is = first; second_is = tt; found = found }

two_letters : (k : Category) (a b : ℕ) → letters k ≡ pair a (Some b)
    → is_ascii_alphabetic a ≡ true → is_ascii_alphabetic b ≡ true → code_of a (Some b) ≡ Some k
    → Lettered k
two_letters k a b are first second found = record {
  first = a;
  second = Some b;
  are = are;
  first_is = first;
  second_is = second;
  found = found;
}

pub lettered : (k : Category) → Lettered k
unfolding letters code_of
lettered L = one_letter L char.capital_l refl refl refl
lettered M = one_letter M char.capital_m refl refl refl
lettered N = one_letter N char.capital_n refl refl refl
lettered P = one_letter P char.capital_p refl refl refl
lettered Z = one_letter Z char.capital_z refl refl refl
lettered S = one_letter S char.capital_s refl refl refl
lettered C = one_letter C char.capital_c refl refl refl
lettered k = two_letters k (get_or (letters k) 0 0) (get_or (letters k) 1 0) refl refl refl refl
