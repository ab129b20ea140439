-- Characters as ranges: one set of them is told from another by computing.
use Rattle.std.proofs.Common.{◌≡◌, ℕ, Bool, true, false, ◌&&◌, ◌||◌, List, [], ◌∷◌, ◌++◌, refl}
use Rattle.std.proofs.Common.{sym, ◌∙◌, arith, if◌then◌else◌, ◌+◌, ◌-◌, inl, inr}
use Rattle.std.proofs.lemmas.Bool.{cases_Bool}
use Rattle.std.specs.Prelude.{nat_le, nat_lt}
use Rattle.std.proofs.lemmas.Bool.Decides.{nat_tests}
use Rattle.jp_reading.specs.Texts.{Text}
use Rattle.jp_reading.specs.Outcome.{is}

-- the characters from one up to another, or from one on
pub data Range : Type 0 where
  range : ℕ → ℕ → Range
  on_from : ℕ → Range

abbrev pub in_range : Range → ℕ → Bool
in_range (range a b) c = nat_le a c && nat_le c b
in_range (on_from a) c = nat_le a c

-- whether a character is in one of the ranges
abbrev pub within : List Range → ℕ → Bool
within [] c = false
within (r ∷ rs) c = in_range r c || within rs c

-- whether two ranges have no character in common
abbrev is_apart : Range → Range → Bool
is_apart (range a b) (range c d) = nat_lt b c || nat_lt d a
is_apart (range a b) (on_from c) = nat_lt b c
is_apart (on_from a) (range c d) = nat_lt d a
is_apart (on_from a) (on_from c) = false

-- whether the second range has all characters of the first
abbrev is_inside : Range → Range → Bool
is_inside (range a b) (range c d) = nat_le c a && nat_le b d
is_inside (range a b) (on_from c) = nat_le c a
is_inside (on_from a) (range c d) = false
is_inside (on_from a) (on_from c) = nat_le c a

abbrev is_apart_from_all : Range → List Range → Bool
is_apart_from_all r [] = true
is_apart_from_all r (s ∷ ss) = is_apart r s && is_apart_from_all r ss

abbrev is_inside_one : Range → List Range → Bool
is_inside_one r [] = false
is_inside_one r (s ∷ ss) = is_inside r s || is_inside_one r ss

-- whether the ranges have no character in common
abbrev pub are_apart : List Range → List Range → Bool
are_apart [] ss = true
are_apart (r ∷ rs) ss = is_apart_from_all r ss && are_apart rs ss

-- whether the second ranges have all characters of the first
abbrev pub are_inside : List Range → List Range → Bool
are_inside [] ss = true
are_inside (r ∷ rs) ss = is_inside_one r ss && are_inside rs ss

-- ---- that the tests say so

apart-one : (r s : Range) (c : ℕ) → is_apart r s ≡ true → in_range r c ≡ true → in_range s c ≡ false
apart-one (range a b) (range d e) c h i = grind (arith, nat_tests)
apart-one (range a b) (on_from d) c h i = grind (arith, nat_tests)
apart-one (on_from a) (range d e) c h i = grind (arith, nat_tests)
apart-one (on_from a) (on_from d) c h i = cc

inside-one : (r s : Range) (c : ℕ) → is_inside r s ≡ true → in_range r c ≡ true
    → in_range s c ≡ true
inside-one (range a b) (range d e) c h i = grind (arith, nat_tests)
inside-one (range a b) (on_from d) c h i = grind (arith, nat_tests)
inside-one (on_from a) (range d e) c h i = cc
inside-one (on_from a) (on_from d) c h i = grind (arith, nat_tests)

-- the cases of a test that holds
pub both : {P : Type 0} (a b : Bool) → (a && b) ≡ true → (a ≡ true → b ≡ true → P) → P
both true b h f = f refl h
both false b h f = absurd cc

pub or-left : (a b : Bool) → a ≡ true → (a || b) ≡ true
or-left a b h = rw h refl

pub or-right : (a b : Bool) → b ≡ true → (a || b) ≡ true
or-right true b h = refl
or-right false b h = h

pub one_of : {P : Type 0} (a b : Bool) → (a || b) ≡ true → (a ≡ true → P) → (b ≡ true → P) → P
one_of true b h f g = f refl
one_of false b h f g = g h

neither : (a b : Bool) → a ≡ false → b ≡ false → (a || b) ≡ false
neither a b h i = rw (h, i) refl

apart-all : (r : Range) (ss : List Range) (c : ℕ) → is_apart_from_all r ss ≡ true
    → in_range r c ≡ true → within ss c ≡ false
apart-all r [] c h i = refl
apart-all r (s ∷ ss) c h i =
    both (is_apart r s) (is_apart_from_all r ss) h
    (λ f g. neither (in_range s c) (within ss c) (apart-one r s c f i) (apart-all r ss c g i))

pub apart-within : (rs ss : List Range) (c : ℕ) → are_apart rs ss ≡ true → within rs c ≡ true
    → within ss c ≡ false
apart-within [] ss c h i = absurd cc
apart-within (r ∷ rs) ss c h i =
    both (is_apart_from_all r ss) (are_apart rs ss) h
    (λ f g. one_of (in_range r c) (within rs c) i (apart-all r ss c f) (apart-within rs ss c g))

inside-some : (r : Range) (ss : List Range) (c : ℕ) → is_inside_one r ss ≡ true
    → in_range r c ≡ true → within ss c ≡ true
inside-some r [] c h i = absurd cc
inside-some r (s ∷ ss) c h i =
    one_of (is_inside r s) (is_inside_one r ss) h
    (λ f. or-left (in_range s c) (within ss c) (inside-one r s c f i))
    (λ f. or-right (in_range s c) (within ss c) (inside-some r ss c f i))

pub inside-within : (rs ss : List Range) (c : ℕ) → are_inside rs ss ≡ true → within rs c ≡ true
    → within ss c ≡ true
inside-within [] ss c h i = absurd cc
inside-within (r ∷ rs) ss c h i =
    both (is_inside_one r ss) (are_inside rs ss) h
    (λ f g. one_of (in_range r c) (within rs c) i (inside-some r ss c f) (inside-within rs ss c g))

-- what is in one of two is in both together
pub within-left : (rs ss : List Range) (c : ℕ) → within rs c ≡ true → within (rs ++ ss) c ≡ true
within-left [] ss c h = absurd cc
within-left (r ∷ rs) ss c h =
    one_of (in_range r c) (within rs c) h (or-left (in_range r c) (within (rs ++ ss) c))
    (λ i. or-right (in_range r c) (within (rs ++ ss) c) (within-left rs ss c i))

pub within-right : (rs ss : List Range) (c : ℕ) → within ss c ≡ true → within (rs ++ ss) c ≡ true
within-right [] ss c h = h
within-right (r ∷ rs) ss c h =
    or-right (in_range r c) (within (rs ++ ss) c) (within-right rs ss c h)

-- ---- some ranges

-- one character
abbrev pub single : ℕ → List Range
single c = range c c ∷ []

pub same-single : (c d : ℕ) → is c d ≡ within (single c) d
same-single c d = grind (arith, nat_tests)

pub single-covers : (c d : ℕ) → is c d ≡ true → within (single c) d ≡ true
single-covers c d h = sym (same-single c d) ∙ h

-- the ranges whose first and last characters stand in turn in a text
abbrev pub ranges : Text → List Range
ranges [] = []
ranges (a ∷ []) = single a
ranges (a ∷ b ∷ t) = range a b ∷ ranges t

-- without one character, where ranges with an end have it
abbrev pub without_one : ℕ → Range → List Range
without_one d (range a b) =
    if in_range (range a b) d then range a (d - 1) ∷ range (d + 1) b ∷ [] else range a b ∷ []
without_one d (on_from a) = on_from a ∷ []

abbrev pub without : ℕ → List Range → List Range
without d [] = []
without d (r ∷ rs) = without_one d r ++ without d rs

without_one-covers : (d : ℕ) (r : Range) (c : ℕ) → in_range r c ≡ true → is d c ≡ false
    → within (without_one d r) c ≡ true
without_one-covers d (range a b) c h other =
    elim (cases_Bool (in_range (range a b) d)) [
      | inl e ↦
          rw e (between (in_range (range a (d - 1)) c) (in_range (range (d + 1) b) c)
          (cases d a b c h other))
      | inr e ↦ rw e (or-left (in_range (range a b) c) false h)
    ]
  where
    between : (p q : Bool) → (p ≡ false → q ≡ true) → (p || (q || false)) ≡ true
    between true q f = refl
    between false q f = rw (f refl) refl

    cases : (d a b c : ℕ) → in_range (range a b) c ≡ true → is d c ≡ false
        → in_range (range a (d - 1)) c ≡ false → in_range (range (d + 1) b) c ≡ true
    cases d a b c h other g = grind (arith, nat_tests)
without_one-covers d (on_from a) c h other = or-left (in_range (on_from a) c) false h

pub without-covers : (d : ℕ) (rs : List Range) (c : ℕ) → within rs c ≡ true → is d c ≡ false
    → within (without d rs) c ≡ true
without-covers d [] c h other = absurd cc
without-covers d (r ∷ rs) c h other =
    one_of (in_range r c) (within rs c) h
    (λ f. within-left (without_one d r) (without d rs) c (without_one-covers d r c f other))
    (λ f. within-right (without_one d r) (without d rs) c (without-covers d rs c f other))
