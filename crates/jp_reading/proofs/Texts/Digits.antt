-- Digits and the numbers that they write.
use Rattle.std.proofs.Common.{◌≡◌, ℕ, ◌+◌, ◌-◌, ◌*◌, ◌≤◌, min, [], ◌∷◌, inl, inr, refl, sym, ap}
use Rattle.std.proofs.Common.{◌∙◌, arith}
use Rattle.std.proofs.lemmas.Bool.{cases_lt}
use Rattle.jp_reading.specs.Characters as char
use Rattle.jp_reading.specs.declared.reader.Stop.{Stop}
use Rattle.jp_reading.specs.Texts.{Text}
use Rattle.jp_reading.specs.Outcome.{State, Outcome, took, stuck, deep, ◌>>=◌, each}
use Rattle.jp_reading.specs.Views.{outcome_map, Fails}
use Rattle.jp_reading.specs.Numbers.{is_digit, value_from}
use Rattle.jp_reading.specs.NumberReading.{is_at_digit, digit_at, digits_at, capped}
use Rattle.jp_reading.proofs.States.Progress.{Progress, moves-take_if}
use Rattle.jp_reading.proofs.States.Folds.{fails-then}

-- a digit moves
pub digit_at-progress : Progress digit_at
digit_at-progress p = moves-take_if is_digit p

-- one more digit, by its value
pub capped-digit : (most n d : ℕ) (ds : Text) → capped most n ((char.digit_zero + d) ∷ ds)
    ≡ capped most
    (min (n * 10 + d) most) ds
capped-digit most n d ds =
    ap (λ (x : ℕ). capped most (min (n * 10 + x) most) ds)
    (let e : char.digit_zero + d - char.digit_zero ≡ d = omega arith in e)

-- the first digit
pub digits_at-first : {B : Type 0} (f g : Text → B) (p q : State) (c : ℕ) → digit_at p ≡ took c q
    → ((ds : Text) → f (c ∷ ds) ≡ g ds) → outcome_map f (digits_at p) ≡ outcome_map g (each is_at_digit digit_at q)
unfolding digits_at
digits_at-first f g p q c e same =
    ap (λ (o : Outcome ℕ). outcome_map f
    (o >>= λ d q. each is_at_digit digit_at q >>= λ ds r. took (d ∷ ds) r)) e
    ∙ outcome_map-cons f g c (each is_at_digit digit_at q) same
  where
    outcome_map-cons : {B : Type 0} (f g : Text → B) (c : ℕ) (o : Outcome Text)
        → ((ds : Text) → f (c ∷ ds) ≡ g ds)
        → outcome_map f (o >>= λ ds r. took (c ∷ ds) r) ≡ outcome_map g o
    outcome_map-cons f g c (took ds r) same = ap (λ y. took y r) (same ds)
    outcome_map-cons f g c (stuck r) same = refl
    outcome_map-cons f g c (deep r) same = refl

-- no digit at all
pub digits_at-fails : {B : Type 0} (f : Text → B) (p : State) (e : Stop) → Fails e (digit_at p)
    → Fails e (outcome_map f (digits_at p))
unfolding digits_at
digits_at-fails f p e h = fails-then e (digits_at p) _ (fails-then e (digit_at p) _ h)

-- sums that stop at a bound above the cap
pub saturated : (n d most limit : ℕ) → most ≤ limit
    → min (min (min (n * 10) limit + d) limit) most ≡ min (n * 10 + d) most
saturated n d most limit h = omega arith

-- digits write no less than what stands before them
pub value_from-least : (n : ℕ) (ds : Text) → n ≤ value_from n ds
value_from-least n [] = omega arith
value_from-least n (d ∷ ds) = let h = value_from-least (n * 10 + (d - char.digit_zero)) ds in omega
    arith

-- what stands before them may be capped first
value_from-capped : (most n : ℕ) (ds : Text) → min (value_from (min n most) ds) most ≡ min
    (value_from n ds) most
value_from-capped most n ds =
    elim (cases_lt n most) [
      | inl within ↦ rw (let e : min n most ≡ n = omega arith in e) refl
      | inr beyond ↦
          let e : min n most ≡ most = omega arith in
          let high = value_from-least n ds in
          let low = value_from-least most ds in
          rw e (omega arith)
    ]

-- the cap is all that is lost
pub capped-is_min : (most n : ℕ) (ds : Text) → n ≤ most
    → capped most n ds ≡ min (value_from n ds) most
capped-is_min most n [] h = omega arith
capped-is_min most n (d ∷ ds) h =
    capped-is_min most (min (n * 10 + (d - char.digit_zero)) most) ds (omega arith)
    ∙ value_from-capped most (n * 10 + (d - char.digit_zero)) ds

-- no digits write more than the cap
pub capped-took : (most n : ℕ) (o : Outcome Text) (q : State) → outcome_map (capped most 0) o ≡ took n q
    → n ≤ most
capped-took most n (took ds r) q e =
    let same : capped most 0 ds ≡ n = cc in
    let least : min (value_from 0 ds) most ≡ n =
    sym (capped-is_min most 0 ds (omega arith)) ∙ same in omega arith
capped-took most n (stuck r) q e = cc
capped-took most n (deep r) q e = cc
