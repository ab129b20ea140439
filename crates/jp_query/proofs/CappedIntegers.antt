-- Sizes of whole numbers: one past the range tells the range as well as the size itself.
use Rattle.std.proofs.Common.{◌≡◌, ℕ, ◌^◌, min, true, false, ◌∷◌, Some, inl, inr, refl, sym, ap}
use Rattle.std.proofs.Common.{◌∙◌, arith, nat_lt, nat_le}
use Rattle.jp_reading.specs.Outcome.{State, Outcome, ◌>>=◌, head, past}
use Rattle.jp_reading.specs.Numbers.{is_digit, value_from}
use Rattle.jp_reading.specs.NumberReading.{digits_at, capped}
use Rattle.jp_reading.specs.Views.{outcome_map}
use Rattle.jp_reading.proofs.Texts.Digits.{capped-is_min, digits_at-first}
use Rattle.jp_reading.proofs.States.Steps.{take_if-takes}
use Rattle.jp_reading.proofs.States.Folds.{outcome_map-twice_made}
use Rattle.std.proofs.lemmas.Bool.Decides.{nat_tests}
use Rattle.std.proofs.lemmas.Bool.{cases_Bool, ltb-true, ltb-false, lt-leb}
use Rattle.jp_query.specs.Ints.{whole_of, negative_of}
use Rattle.jp_reading.specs.Numbers.{is_leading_digit}
use Rattle.jp_query.specs.Private.Rules.{run, size}
use Rattle.jp_query.specs.Private.Reading.{read_flat}

digit-from_leading : (c : ℕ) → is_leading_digit c ≡ true → is_digit c ≡ true
unfolding is_digit
digit-from_leading c h = grind (arith, nat_tests)

-- the size as `natural` reads it
pub size-natural : (p : State) (c : ℕ) → head p ≡ Some c → is_leading_digit c ≡ true
    → outcome_map (λ n. min n (2 ^ 64)) (read_flat size p) ≡ outcome_map (capped (2 ^ 64) 0) (digits_at p)
unfolding size
size-natural p c e h =
    ap (λ (o : Outcome ℕ). outcome_map (λ n. min n (2 ^ 64))
    (o >>= λ d q. outcome_map (λ ds. value_from 0 (d ∷ ds)) (read_flat (run is_digit) q)))
    (take_if-takes is_leading_digit p c e h)
    ∙ outcome_map-twice_made (λ n. min n (2 ^ 64)) (λ ds. value_from 0 (c ∷ ds)) (λ ds. capped (2 ^ 64) 0 (c ∷ ds))
    (λ ds. sym (capped-is_min (2 ^ 64) 0 (c ∷ ds) (omega arith)))
    (read_flat (run is_digit) (past p))
    ∙ sym (digits_at-first (capped (2 ^ 64) 0) (λ ds. capped (2 ^ 64) 0 (c ∷ ds)) p (past p) c
    (take_if-takes is_digit p c e (digit-from_leading c h)) (λ ds. refl))

whole-min : (n : ℕ) → whole_of (min n (2 ^ 64)) ≡ whole_of n
whole-min n =
    elim (cases_Bool (nat_lt n (2 ^ 64))) [
      | inl below ↦ let h =
          ltb-true n (2 ^ 64) below in let e : min n (2 ^ 64) ≡ n = omega arith in ap whole_of e
      | inr above ↦ let h = ltb-false n (2 ^ 64) above in let e : min n
          (2 ^ 64) ≡ 2 ^ 64 = omega arith in ap whole_of e ∙ rw above refl
    ]

negative-min : (n : ℕ) → negative_of (min n (2 ^ 64)) ≡ negative_of n
negative-min n =
    elim (cases_Bool (nat_lt n (2 ^ 64))) [
      | inl below ↦ let h =
          ltb-true n (2 ^ 64) below in let e : min n (2 ^ 64) ≡ n = omega arith in ap negative_of e
      | inr above ↦
          let h = ltb-false n (2 ^ 64) above in
          let e : min n (2 ^ 64) ≡ 2 ^ 64 = omega arith in
          let out : nat_le n (2 ^ 63) ≡ false = lt-leb n (2 ^ 63) (omega arith) in
          ap negative_of e ∙ rw out refl
    ]

-- the range is told as well by the capped size
pub by-whole : (o : Outcome ℕ) → outcome_map whole_of (outcome_map (λ n. min n (2 ^ 64)) o) ≡ outcome_map whole_of o
by-whole o = outcome_map-twice_made whole_of (λ n. min n (2 ^ 64)) whole_of whole-min o

pub by-negative : (o : Outcome ℕ) → outcome_map negative_of (outcome_map (λ n. min n (2 ^ 64)) o) ≡ outcome_map negative_of o
by-negative o = outcome_map-twice_made negative_of (λ n. min n (2 ^ 64)) negative_of negative-min o

pub ruleset sizes = (by-whole, by-negative)
