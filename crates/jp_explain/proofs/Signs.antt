-- Where the first of some signs stands in a text.
use Rattle.std.proofs.Common.{◌≡◌, ◌≤◌, ◌+◌, ℕ, Bool, true, false, not, cond, ◌||◌, List, [], ◌∷◌}
use Rattle.std.proofs.Common.{length, take, drop, suc, ◌⊎◌, inl, inr, refl, ap, ◌∙◌, arith}
use Rattle.std.specs.Prelude.{position, unwrap_or}
use Rattle.std.specs.List.{list_any, position_or_len}
use Rattle.std.proofs.Math.Numerals.{one-add}
use Rattle.std.proofs.lemmas.Bool.Decides.{nat_tests}
use Rattle.jp_reading.specs.Texts.{is_among}
use Rattle.jp_explain.specs.Private.Marks.{begins_in}

first-or-length : (p : ℕ → Bool) (xs : List ℕ) → position_or_len p xs ≤ length xs
    → unwrap_or (position p xs) (length xs) ≡ position_or_len p xs
first-or-length p xs h = grind (arith, nat_tests)

first-within : (p : ℕ → Bool) (xs : List ℕ) → position_or_len p xs ≤ length xs
first-within p [] = omega arith
first-within p (x ∷ xs) = one (p x) (position_or_len p xs) (length xs) (first-within p xs)
  where
    one : (b : Bool) (n m : ℕ) → n ≤ m → cond (not b) (1 + n) 0 ≤ suc m
    one true n m h = omega arith
    one false n m h = omega arith

front-free : (p : ℕ → Bool) (xs : List ℕ) → list_any p (take (position_or_len p xs) xs) ≡ false
front-free p [] = refl
front-free p (x ∷ xs) = one (p x) refl (front-free p xs)
  where
    one : (b : Bool) → p x ≡ b → list_any p (take (position_or_len p xs) xs) ≡ false
        → list_any p (take (cond (not b) (1 + position_or_len p xs) 0) (x ∷ xs)) ≡ false
    one true is h = refl
    one false is h = rw (one-add) (ap (λ b. b || list_any p (take (position_or_len p xs) xs)) is ∙ h)

-- before the first place that passes none does, nor where there is no such place
pub free-before : (p : ℕ → Bool) (xs : List ℕ)
    → list_any p (take (unwrap_or (position p xs) (length xs)) xs) ≡ false
free-before p xs =
    ap (λ n. list_any p (take n xs)) (first-or-length p xs (first-within p xs)) ∙ front-free p xs

behind-place : (signs xs : List ℕ)
    → (begins_in (drop (position_or_len (is_among signs) xs) xs) signs ≡ true)
    ⊎ (drop (position_or_len (is_among signs) xs) xs ≡ [])
behind-place signs [] = inr refl
behind-place signs (x ∷ xs) = one (is_among signs x) refl (behind-place signs xs)
  where
    place : Bool → ℕ
    place b = cond (not b) (1 + position_or_len (is_among signs) xs) 0

    one : (b : Bool) → is_among signs x ≡ b
        → (begins_in (drop (position_or_len (is_among signs) xs) xs) signs ≡ true)
        ⊎ (drop (position_or_len (is_among signs) xs) xs ≡ [])
        → (begins_in (drop (place b) (x ∷ xs)) signs ≡ true) ⊎ (drop (place b) (x ∷ xs) ≡ [])
    one true is h = inl is
    one false is h = rw (one-add) h

-- at that place a sign stands, or the text ends
pub sign-behind : (signs xs : List ℕ)
    → (begins_in (drop (unwrap_or (position (is_among signs) xs) (length xs)) xs) signs ≡ true)
    ⊎ (drop (unwrap_or (position (is_among signs) xs) (length xs)) xs ≡ [])
sign-behind signs xs =
    rw (first-or-length (is_among signs) xs (first-within (is_among signs) xs)) (behind-place signs xs)
