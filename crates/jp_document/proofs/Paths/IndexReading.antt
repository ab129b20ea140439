-- An index that does not begin with zero is read as any digits are: for the function `index`.
use Rattle.std.proofs.Common.{◌≡◌, ℕ, suc, false, ◌∷◌, Option, Some, None, refl, sym, arith}
use Rattle.std.proofs.lemmas.Bool.Decides.{nat_tests}
use Rattle.jp_reading.specs.Characters as char
use Rattle.jp_reading.specs.Outcome.{State, Outcome, took, stuck, deep, ◌>>=◌, head}
use Rattle.jp_reading.specs.Outcome.{passes, is, is_at, take_passing, take_if, each}
use Rattle.jp_reading.specs.Texts.{Text}
use Rattle.jp_reading.specs.Numbers.{is_digit}
use Rattle.jp_reading.specs.NumberReading.{is_at_digit, digit_at, digits_at, capped}
use Rattle.jp_reading.specs.Views.{outcome_map}
use Rattle.jp_reading.proofs.States.Folds.{outcome_map-twice_made}
use Rattle.jp_document.specs.Private.PathReading.{read_rule}
use Rattle.jp_document.specs.Private.PathRules.{index, size}
use Rattle.jp_reading.specs.Numbers.{is_leading_digit, largest_exact}

leading-digit : (c : ℕ) → is char.digit_zero c ≡ false → is_leading_digit c ≡ is_digit c
unfolding is_digit
leading-digit c off = grind (arith, nat_tests)

first-digit : (p : State) → is_at char.digit_zero p ≡ false → take_if is_leading_digit p
    ≡ take_if is_digit p
first-digit p off = taken (head p) off
  where
    taken : (o : Option ℕ) → passes (is char.digit_zero) o ≡ false
        → take_passing is_leading_digit p o ≡ take_passing is_digit p o
    taken None h = refl
    taken (Some c) h = rw (leading-digit c h) refl

-- the index as `natural` reads it
pub index-natural : (p : State) → is_at char.digit_zero p ≡ false
    → read_rule index p ≡ outcome_map (capped (suc largest_exact) 0) (digits_at p)
unfolding index size digits_at
index-natural p off = rw (off, first-digit p off) (along (digit_at p))
  where
    along : (o : Outcome ℕ)
        → (o >>= λ d q. outcome_map (λ ds. capped (suc largest_exact) 0 (d ∷ ds)) (each is_at_digit digit_at q))
        ≡ outcome_map (capped (suc largest_exact) 0)
        (o >>= λ d q. each is_at_digit digit_at q >>= λ ds r. took (d ∷ ds) r)
    along (took d q) =
        sym (outcome_map-twice_made (capped (suc largest_exact) 0) (λ (ds : Text). d ∷ ds)
        (λ ds. capped (suc largest_exact) 0 (d ∷ ds)) (λ ds. refl)
        (each is_at_digit digit_at q))
    along (stuck q) = refl
    along (deep q) = refl
