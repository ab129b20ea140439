-- The characters that have a spelling, and those at the front of a text that have none.
use Rattle.std.proofs.Common.{◌≡◌, ℕ, ◌+◌, ◌<◌, ◌≤◌, Bool, true, false, not, cond, List, [], ◌∷◌}
use Rattle.std.proofs.Common.{◌++◌, length, take, get_or, ap, ◌∙◌, refl, arith, suc}
use Rattle.std.specs.Prelude.{position, unwrap_or}
use Rattle.std.specs.List.{flat_map, position_or_len}
use Rattle.std.proofs.Math.Numerals.{one-add}
use Rattle.std.proofs.lemmas.Bool.Decides.{nat_tests}
use Rattle.jp_cells.specs.Fields.{spelling}
use Rattle.jp_cells.specs.Private.Marks.{is_marked}
use Rattle.jp_cells.specs.declared.style.Format.{Format}
use Rattle.jp_cells.specs.declared.style.Format.TheVariants.{Tabs, Csv}

plain_tabs : (c : ℕ) → is_marked Tabs c ≡ false → spelling Tabs c ≡ c ∷ []
plain_tabs c h = grind (arith, nat_tests)

plain_csv : (c : ℕ) → is_marked Csv c ≡ false → spelling Csv c ≡ c ∷ []
plain_csv c h = grind (arith, nat_tests)

-- a character that has no spelling stands for itself
pub plain_spelling : (f : Format) (c : ℕ) → is_marked f c ≡ false → spelling f c ≡ c ∷ []
plain_spelling Tabs c h = plain_tabs c h
plain_spelling Csv c h = plain_csv c h

ascii_tabs : (c : ℕ) → is_marked Tabs c ≡ true → c < 128
ascii_tabs c h = grind (arith, nat_tests)

ascii_csv : (c : ℕ) → is_marked Csv c ≡ true → c < 128
ascii_csv c h = grind (arith, nat_tests)

pub marked_ascii : (f : Format) (c : ℕ) → is_marked f c ≡ true → c < 128
marked_ascii Tabs c h = ascii_tabs c h
marked_ascii Csv c h = ascii_csv c h

-- the first place that passes, or the length where none does
pub first_or_length : (p : ℕ → Bool) (xs : List ℕ) → position_or_len p xs ≤ length xs
    → unwrap_or (position p xs) (length xs) ≡ position_or_len p xs
first_or_length p xs h = grind (arith, nat_tests)

first_within-cons : (b : Bool) (n m : ℕ) → n ≤ m → cond (not b) (1 + n) 0 ≤ suc m
first_within-cons true n m h = omega arith
first_within-cons false n m h = omega arith

pub first_within : (p : ℕ → Bool) (xs : List ℕ) → position_or_len p xs ≤ length xs
first_within p [] = omega arith
first_within p (x ∷ xs) = first_within-cons (p x) _ _ (first_within p xs)

plain_front-cons : (f : Format) (x : ℕ) (xs : List ℕ) (n : ℕ) (b : Bool) → is_marked f x ≡ b
    → flat_map (spelling f) (take n xs) ≡ take n xs
    → flat_map (spelling f) (take (cond (not b) (1 + n) 0) (x ∷ xs))
    ≡ take (cond (not b) (1 + n) 0) (x ∷ xs)
plain_front-cons f x xs n true is h = refl
plain_front-cons f x xs n false is h =
    rw (one-add) (ap (λ ys. ys ++ flat_map (spelling f) (take n xs)) (plain_spelling f x is) ∙ ap (λ ys. x ∷ ys) h)

-- what stands before the first character that has a spelling stands for itself
pub plain_front : (f : Format) (xs : List ℕ)
    → flat_map (spelling f) (take (position_or_len (is_marked f) xs) xs)
    ≡ take (position_or_len (is_marked f) xs) xs
plain_front f [] = refl
plain_front f (x ∷ xs) = plain_front-cons f x xs _ (is_marked f x) refl (plain_front f xs)

first_ascii-cons : (f : Format) (x : ℕ) (xs : List ℕ) (n : ℕ) (b : Bool) → is_marked f x ≡ b
    → (n < length xs → get_or xs n 0 < 128) → cond (not b) (1 + n) 0 < suc (length xs)
    → get_or (x ∷ xs) (cond (not b) (1 + n) 0) 0 < 128
first_ascii-cons f x xs n true is h below = marked_ascii f x is
first_ascii-cons f x xs n false is h below = rw one-add (h (omega arith))

pub first_ascii : (f : Format) (xs : List ℕ) → position_or_len (is_marked f) xs < length xs
    → get_or xs (position_or_len (is_marked f) xs) 0 < 128
first_ascii f [] h = absurd (omega arith)
first_ascii f (x ∷ xs) h =
    first_ascii-cons f x xs _ (is_marked f x) refl (first_ascii f xs) h
