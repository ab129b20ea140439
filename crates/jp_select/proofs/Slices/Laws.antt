-- The indexes that a slice selects are exactly those within its bounds that its step leads to.
use Rattle.std.proofs.Common.{◌≡◌, ℕ, zero, suc, ◌+◌, ◌-◌, ◌*◌, ◌/◌, ◌<◌, ◌≤◌, ◌%◌}
use Rattle.std.proofs.Common.{Bool, true, false, ◌&&◌, cond, leb, ltb, nat_eq, Less}
use Rattle.std.proofs.Common.{nat_cmp, ℤ, pos, negsuc, ◌+ℤ◌, ◌-ℤ◌, ◌≤ℤ◌, ◌<ℤ◌, int_le}
use Rattle.std.proofs.Common.{int_lt, unsigned_abs, List, [], ◌∷◌, reverse, unwrap_or}
use Rattle.std.proofs.Common.{zero-add, refl, sym, ap, ap₂, subst, ◌∙◌, inl, inr, arith}
use Rattle.std.specs.Cmp.{nat_cmp_is}
use Rattle.std.specs.List.{AllByRecursion, Contains, filter, range_with_len}
use Rattle.std.specs.List.Sorted.{IsStrictlySortedBy}
use Rattle.std.proofs.lemmas.Bool.{cases_lt, leb-true, ltb-true, le-leb, lt-ltb, eqb-true}
use Rattle.std.proofs.lemmas.Int.{ints, clamps}
use Rattle.std.proofs.lemmas.List.{reverse-reverse}
use Rattle.std.proofs.lemmas.List.Elements.{All-contains, Contains-append_right}
use Rattle.std.proofs.lemmas.List.Elements.{filter_passes}
use Rattle.std.proofs.lemmas.List.Kept.{IsStrictlySortedBy-filter}
use Rattle.std.proofs.lemmas.List.Sorted.{Contains-permutation}
use Rattle.std.proofs.lemmas.List.Sorted.{IsPermutation-reverse, IsPermutation-sym}
use Rattle.std.proofs.lemmas.Nat.{div-add-mod'}
use Rattle.std.proofs.Math.Nat.{add-mul-mod_self_right}
use Rattle.jp_reading.proofs.Conjunctions.{and-left, and-right}
use Rattle.jp_select.specs.Laws.{IsRisingSlice, IsFallingSlice, SlicesAreExact}
use Rattle.jp_select.specs.Slice.{normalized, held_within, rising_lower, rising_upper}
use Rattle.jp_select.specs.Slice.{falling_lower, falling_upper, is_rising, is_falling, indexes}
use Rattle.jp_select.proofs.Slices.Indexes.{distance, distance_down, above_lower, not_above_lower}
use Rattle.jp_select.proofs.Slices.Indexes.{below_upper, not_below_upper, falls_between}

-- ---- filters of indexes

range-above : (b a n : ℕ) → b < a → AllByRecursion (λ y. nat_cmp b y ≡ Less) (range_with_len a n)
range-above b a zero less = tt
range-above b a (suc n) less =
    (sym (nat_cmp_is b a Less less), range-above b (a + 1) n (omega arith))

indexes_rise : (a n : ℕ) → IsStrictlySortedBy nat_cmp (range_with_len a n)
unfolding IsStrictlySortedBy
indexes_rise a zero = tt
indexes_rise a (suc n) = (range-above a (a + 1) n (omega arith), indexes_rise (a + 1) n)

filter_rises : (p : ℕ → Bool) (n : ℕ) → IsStrictlySortedBy nat_cmp (filter p (indexes n))
filter_rises p n = IsStrictlySortedBy-filter nat_cmp p (indexes n) (indexes_rise 0 n)

kept : (b : Bool) (a i : ℕ) (xs : List ℕ) → Contains xs i → Contains (cond b (a ∷ xs) xs) i
kept true a i xs h = Contains-append_right (a ∷ []) xs i h
kept false a i xs h = h

kept_first : (b : Bool) (a i : ℕ) (xs : List ℕ) → b ≡ true → i ≡ a → Contains (cond b (a ∷ xs) xs) i
kept_first true a i xs passes at = subst (Contains (a ∷ xs)) (sym at) (0, omega arith, refl)
kept_first false a i xs passes at = absurd (cc)

filter_has : (p : ℕ → Bool) (i a n : ℕ) → a ≤ i → i < a + n → p i ≡ true
    → Contains (filter p (range_with_len a n)) i
filter_has p i a zero from to passes = absurd (omega arith)
filter_has p i a (suc n) from to passes =
    elim (cases_lt a i) [
      | inl below ↦
          kept (p a) a i (filter p (range_with_len (a + 1) n))
          (filter_has p i (a + 1) n (omega arith) (omega arith) passes)
      | inr above ↦
          let at : i ≡ a = omega arith in
          kept_first (p a) a i (filter p (range_with_len (a + 1) n)) (ap p (sym at) ∙ passes) at
    ]

filter_only : (p : ℕ → Bool) (i n : ℕ) → Contains (filter p (indexes n)) i → p i ≡ true
filter_only p i n h =
    All-contains (λ j. p j ≡ true) (filter p (indexes n)) i (filter_passes p (indexes n)) h

-- ---- steps

-- a distance that the step divides is some steps
whole_steps : (distance s : ℕ) → nat_eq (distance % s) 0 ≡ true → distance / s * s ≡ distance
whole_steps distance s divides =
    plain (distance / s * s) (distance % s) distance (div-add-mod' distance s)
    (eqb-true (distance % s) 0 divides)
  where
    plain : (q r n : ℕ) → q + r ≡ n → r ≡ 0 → q ≡ n
    plain q r n sum none = omega arith

no_rest : (m s : ℕ) → 0 < s → nat_eq ((m * s) % s) 0 ≡ true
no_rest m s positive =
    let none : (m * s) % s ≡ 0 =
    ap (λ n. n % s) (sym (zero-add (m * s))) ∙ add-mul-mod_self_right 0 m s ∙ omega arith in
    ap (λ r. nat_eq r 0) none

rising_means : (a u s i : ℕ) → is_rising (pos a) (pos u) s i ≡ true
    → (pos i <ℤ pos u) × ((m : ℕ) × (pos i ≡ pos a +ℤ pos (m * s)))
rising_means a u s i h =
    let within = and-left (leb a i && ltb i u) _ h in
    let low : a ≤ i = leb-true a i (and-left (leb a i) (ltb i u) within) in
    let high : i < u = ltb-true i u (and-right (leb a i) (ltb i u) within) in
    let steps : (i - a) / s * s ≡ i - a =
    whole_steps (i - a) s
    (ap (λ z. nat_eq (unsigned_abs z % s) 0) (sym (distance a i low))
    ∙ and-right (leb a i && ltb i u) _ h) in
    let at : i ≡ a + (i - a) = omega arith in
    (omega (arith, ints), ((i - a) / s, ap pos (at ∙ ap (λ n. a + n) (sym steps))))

rising_from : (a u s i m : ℕ) → 0 < s → i < u → i ≡ a + m * s → is_rising (pos a) (pos u) s i ≡ true
rising_from a u s i m positive high at =
    let low : a ≤ i = plain a (m * s) i at in
    let far : i - a ≡ m * s = gap a (m * s) i at in
    ap₂ (λ b c. b && c && nat_eq (unsigned_abs (pos i -ℤ pos a) % s) 0) (le-leb a i low)
    (lt-ltb i u high)
    ∙ ap (λ z. nat_eq (unsigned_abs z % s) 0) (distance a i low) ∙ ap (λ n. nat_eq (n % s) 0) far
    ∙ no_rest m s positive
  where
    plain : (a x i : ℕ) → i ≡ a + x → a ≤ i
    plain a x i at = omega arith

    gap : (a x i : ℕ) → i ≡ a + x → i - a ≡ x
    gap a x i at = omega arith

falling_means : (l y s i : ℕ) → falls_between l y s i ≡ true
    → ((pos l -ℤ pos 1) <ℤ pos i) × ((m : ℕ) × (pos i +ℤ pos (m * s) ≡ pos y -ℤ pos 1))
falling_means l y s i h =
    let lows = int_lt (pos l -ℤ pos 1) (pos i) in
    let highs = int_le (pos i) (pos y -ℤ pos 1) in
    let within = and-left (lows && highs) _ h in
    let low : l ≤ i = elim (cases_lt i l) [
      | inl less ↦
          absurd
          (let fails = not_above_lower l i less in let passes = and-left lows highs within in cc)
      | inr more ↦ more
    ] in
    let high : i < y = elim (cases_lt i y) [
      | inl less ↦ less
      | inr more ↦
          absurd
          (let fails = not_below_upper y i more in let passes = and-right lows highs within in cc)
    ] in
    let steps : (y - 1 - i) / s * s ≡ y - 1 - i =
    whole_steps (y - 1 - i) s
    (ap (λ z. nat_eq (unsigned_abs z % s) 0) (sym (distance_down y i high))
    ∙ and-right (lows && highs) _ h) in
    let at : pos (i + (y - 1 - i)) ≡ pos y -ℤ pos 1 = omega (arith, ints) in
    (omega (arith, ints), ((y - 1 - i) / s, ap (λ n. pos (i + n)) steps ∙ at))

falling_from : (l y s i m : ℕ) → 0 < s → l ≤ i → i + m * s + 1 ≡ y → falls_between l y s i ≡ true
falling_from l y s i m positive low at =
    let high : i < y = plain i (m * s) y at in
    let far : y - 1 - i ≡ m * s = gap i (m * s) y at in
    ap₂ (λ b c. b && c && nat_eq (unsigned_abs ((pos y -ℤ pos 1) -ℤ pos i) % s) 0)
    (above_lower l i low) (below_upper y i high)
    ∙ ap (λ z. nat_eq (unsigned_abs z % s) 0) (distance_down y i high)
    ∙ ap (λ n. nat_eq (n % s) 0) far ∙ no_rest m s positive
  where
    plain : (i x y : ℕ) → i + x + 1 ≡ y → i < y
    plain i x y at = omega arith

    gap : (i x y : ℕ) → i + x + 1 ≡ y → y - 1 - i ≡ x
    gap i x y at = omega arith

-- ---- the law

rising_exact : (n k : ℕ) (lower upper : ℤ) → pos 0 ≤ℤ lower → pos 0 ≤ℤ upper → upper ≤ℤ pos n
    → IsRisingSlice lower upper (suc k) (filter (is_rising lower upper (suc k)) (indexes n))
rising_exact n k (negsuc a) upper low up most = absurd (omega (arith, ints))
rising_exact n k (pos a) (negsuc u) low up most = absurd (omega (arith, ints))
rising_exact n k (pos a) (pos u) low up most =
    let p = is_rising (pos a) (pos u) (suc k) in
    record {
      rising = filter_rises p n;
      exactly = λ i. (
        λ h. rising_means a u (suc k) i (filter_only p i n h),
        λ b.
            let high : i < u = omega (arith, ints, b.0) in
            filter_has p i 0 n (omega arith) (omega (arith, ints))
            (rising_from a u (suc k) i b.1.0 (omega arith) high (ap unsigned_abs b.1.1)),
      );
    }

falling_exact : (n k l y : ℕ) → y ≤ n
    → IsFallingSlice (pos l -ℤ pos 1) (pos y -ℤ pos 1) (suc k)
    (reverse (filter (falls_between l y (suc k)) (indexes n)))
falling_exact n k l y most =
    let p = falls_between l y (suc k) in
    let xs = filter p (indexes n) in
    record {
      falling = subst (IsStrictlySortedBy nat_cmp) (sym (reverse-reverse xs)) (filter_rises p n);
      exactly = λ i. (
        λ h. falling_means l y (suc k) i
            (filter_only p i n
            (Contains-permutation (reverse xs) xs i
            (IsPermutation-sym xs (reverse xs) (IsPermutation-reverse xs)) h)),
        λ b.
            let at : i + b.1.0 * suc k + 1 ≡ y = meets i (b.1.0 * suc k) y b.1.1 in
            let low : l ≤ i = omega (arith, ints, b.0) in
            Contains-permutation xs (reverse xs) i (IsPermutation-reverse xs)
            (filter_has p i 0 n (omega arith) (under i (b.1.0 * suc k) y n at most)
            (falling_from l y (suc k) i b.1.0 (omega arith) low at)),
      );
    }
  where
    meets : (i x y : ℕ) → pos i +ℤ pos x ≡ pos y -ℤ pos 1 → i + x + 1 ≡ y
    meets i x y e = omega (arith, ints)

    under : (i x y m : ℕ) → i + x + 1 ≡ y → y ≤ m → i < 0 + m
    under i x y m e most = omega arith

-- a bound that is at least -1, as one less than a natural number
natural : (z : ℤ) → negsuc 0 ≤ℤ z → (a : ℕ) × (pos a -ℤ pos 1 ≡ z)
natural (pos a) low = (suc a, omega (arith, ints))
natural (negsuc zero) low = (0, refl)
natural (negsuc (suc a)) low = absurd (omega (arith, ints))

falling_between : (n k : ℕ) (lower upper : ℤ) → negsuc 0 ≤ℤ lower → negsuc 0 ≤ℤ upper
    → upper ≤ℤ (pos n -ℤ pos 1)
    → IsFallingSlice lower upper (suc k)
    (reverse (filter (is_falling lower upper (suc k)) (indexes n)))
falling_between n k lower upper low up most =
    let l = natural lower low in
    let y = natural upper up in
    let within : y.0 ≤ n = omega (arith, ints, y.1) in
    let P =
    λ (a b : ℤ). IsFallingSlice a b (suc k)
    (reverse (filter (is_falling a b (suc k)) (indexes n))) in
    subst (λ a. P a upper) l.1 (subst (P (pos l.0 -ℤ pos 1)) y.1 (falling_exact n k l.0 y.0 within))

at_least : (least most z : ℤ) → least ≤ℤ most → least ≤ℤ held_within least most z
at_least least most z order = omega (arith, ints, clamps)

at_most : (least most z : ℤ) → held_within least most z ≤ℤ most
at_most least most z = omega (arith, ints, clamps)

pub slice_law : SlicesAreExact
slice_law = record {
  upwards = λ n start end k.
      let from = normalized n (unwrap_or start (pos 0)) in
      let to = normalized n (unwrap_or end (pos n)) in
      rising_exact n k (rising_lower n start) (rising_upper n end)
      (at_least (pos 0) (pos n) from (omega (arith, ints)))
      (at_least (pos 0) (pos n) to (omega (arith, ints))) (at_most (pos 0) (pos n) to);
  downwards = λ n start end k.
      let last = pos n -ℤ pos 1 in
      let from = normalized n (unwrap_or start last) in
      let to = normalized n (unwrap_or end (negsuc n)) in
      falling_between n k (falling_lower n end) (falling_upper n start)
      (at_least (negsuc 0) last to (omega (arith, ints)))
      (at_least (negsuc 0) last from (omega (arith, ints)))
      (at_most (negsuc 0) last from);
  nowhere = λ n start end. refl;
}
