-- Where a newline is found, or none.
use Rattle.std.proofs.Common.{◌≡◌, ℕ, zero, suc, ◌-◌, ◌<◌, ◌==◌, Bool, true, false, not, List, [], ◌∷◌, ◌++◌}
use Rattle.std.proofs.Common.{length, take, drop, slice_index, refl, ap, ◌∙◌, arith}
use Rattle.std.proofs.Math.Facts.{eqb_yes}
use Rattle.std.proofs.lemmas.List.{take_rest}
use Rattle.std.proofs.lemmas.Float.{T_from_true}
use Rattle.jp_lines.specs.Lines.{newline}
use Rattle.jp_lines.specs.Private.Passing.{is_in_line}

is_other : (byte : ℕ) → ((byte == newline) ≡ true → ⊥) → not (byte == newline) ≡ true
is_other byte other = go (byte == newline) other
  where
    go : (b : Bool) → (b ≡ true → ⊥) → not b ≡ true
    go true other = absurd (other refl)
    go false other = refl

-- no newline stands where none is found
pub none-found : (bytes : List ℕ)
    → ((k : ℕ) → k < length bytes → (slice_index bytes k == newline) ≡ true → ⊥)
    → is_in_line bytes ≡ true
none-found [] none = refl
none-found (byte ∷ bytes) none =
    rw (is_other byte (none 0 (omega arith)))
    (none-found bytes (λ k below is. none (suc k) (omega arith) is))

-- the bytes before the first newline, it, and those behind it
pub first-found : (bytes : List ℕ) (n : ℕ) → n < length bytes
    → ((k : ℕ) → k < n → (slice_index bytes k == newline) ≡ true → ⊥)
    → (slice_index bytes n == newline) ≡ true
    → (is_in_line (take n bytes) ≡ true) × (bytes ≡ take n bytes ++ newline ∷ drop (suc n) bytes)
first-found [] n below before is = absurd (omega arith)
first-found (byte ∷ bytes) zero below before is = (refl, ap (λ b. b ∷ bytes) (eqb_yes (T_from_true _ is)))
first-found (byte ∷ bytes) (suc n) below before is =
    let rest = first-found bytes n (omega arith) (λ k less found. before (suc k) (omega arith) found) is in (
      rw (is_other byte (before 0 (omega arith))) rest.0,
      ap (λ l. byte ∷ l) rest.1,
    )

drop-next : (n : ℕ) (xs : List ℕ) → drop 1 (drop n xs) ≡ drop (suc n) xs
drop-next zero xs = refl
drop-next (suc n) [] = refl
drop-next (suc n) (x ∷ xs) = drop-next n xs

-- what stands behind a place, as slices of slices have it
pub behind-place : (xs : List ℕ) (n : ℕ)
    → take (length (take (length xs - n) (drop n xs)) - 1) (drop 1 (take (length xs - n) (drop n xs)))
    ≡ drop (suc n) xs
behind-place xs n = rw (take_rest xs n) (take_rest (drop n xs) 1 ∙ drop-next n xs)
