-- Slices, item by item: the index at a position, from the bounds and the step.
use Rattle.std.proofs.Common.{◌≡◌, ℕ, zero, suc, ◌+◌, ◌-◌, ◌*◌, ◌^◌, ◌<◌, ◌≤◌}
use Rattle.std.proofs.Common.{min, ℤ, pos, negsuc, ◌+ℤ◌, Option, List, [], ◌∷◌, Some}
use Rattle.std.proofs.Common.{None, reverse, ap, sym, subst, ◌∙◌, inl, inr, arith}
use Rattle.std.specs.List.{All, filter, range_with_len, slice_get}
use Rattle.std.proofs.lemmas.List.Elements.{All-cons, All-filter, All-append}
use Rattle.std.proofs.lemmas.List.Elements.{All-head, All-nil, All-tail}
use Rattle.std.proofs.lemmas.Bool.{cases_lt}
use Rattle.std.proofs.lemmas.List.{reverse-append}
use Rattle.jp_select.specs.Slice.{falling_lower, falling_upper, indexes, is_rising}
use Rattle.jp_select.specs.Slice.{rising_lower, rising_upper, slice_of}
use Rattle.jp_select.proofs.Slices.Indexes.{falls_between, falling-end, falling-next}
use Rattle.jp_select.proofs.Slices.Indexes.{falling-starts, rising-end, rising-next, rising-starts}

-- ---- upwards

rising-at : (p i u s n : ℕ) → i + s * p < u → u ≤ n → 0 < s
    → slice_get (filter (is_rising (pos i) (pos u) s) (indexes n)) p ≡ Some (i + s * p)
rising-at zero i u s n within fits positive =
    ap (λ is. slice_get is 0) (rising-next i u s n (omega arith) fits positive)
    ∙ ap Some (omega arith)
rising-at (suc p) i u s n within fits positive =
    let same : i + s + s * p ≡ i + s * suc p = omega arith in
    let less : i < u = omega arith in
    ap (λ is. slice_get is (suc p)) (rising-next i u s n less fits positive)
    ∙ rising-at p (i + s) u s n (omega arith) fits positive ∙ ap Some same

rising-past : (p i u s n : ℕ) → u ≤ i + s * p → u ≤ n → 0 < s
    → slice_get (filter (is_rising (pos i) (pos u) s) (indexes n)) p ≡ None
rising-past zero i u s n past fits positive =
    ap (λ is. slice_get is 0) (rising-end i u s n (omega arith))
rising-past (suc p) i u s n past fits positive = elim (cases_lt i u) [
  | inl less ↦
      let same : i + s + s * p ≡ i + s * suc p = omega arith in
      ap (λ is. slice_get is (suc p)) (rising-next i u s n less fits positive)
      ∙ rising-past p (i + s) u s n (omega arith) fits positive
  | inr none ↦ ap (λ is. slice_get is (suc p)) (rising-end i u s n none)
]

-- ---- downwards

falling-at : (p l a s n : ℕ) → l < a - s * p → a ≤ n → 0 < s
    → slice_get (reverse (filter (falls_between l a s) (indexes n))) p ≡ Some (a - s * p - 1)
falling-at zero l a s n within fits positive =
    ap (λ is. slice_get is 0) (falling-next l a s n (omega arith) fits positive)
    ∙ ap Some (omega arith)
falling-at (suc p) l a s n within fits positive =
    let same : a - s - s * p ≡ a - s * suc p = omega arith in
    ap (λ is. slice_get is (suc p)) (falling-next l a s n (omega arith) fits positive)
    ∙ falling-at p l (a - s) s n (omega arith) (omega arith) positive ∙ ap (λ k. Some (k - 1)) same

falling-past : (p l a s n : ℕ) → a - s * p ≤ l → a ≤ n → 0 < s
    → slice_get (reverse (filter (falls_between l a s) (indexes n))) p ≡ None
falling-past zero l a s n past fits positive =
    ap (λ is. slice_get is 0) (falling-end l a s n (omega arith))
falling-past (suc p) l a s n past fits positive = elim (cases_lt l a) [
  | inl less ↦
      let same : a - s - s * p ≡ a - s * suc p = omega arith in
      ap (λ is. slice_get is (suc p)) (falling-next l a s n less fits positive)
      ∙ falling-past p l (a - s) s n (omega arith) (omega arith) positive
  | inr none ↦ ap (λ is. slice_get is (suc p)) (falling-end l a s n none)
]

-- ---- what the code finds, with numbers that it holds below 2^128

-- a sum held below 2^128 that is below a small number is the sum
sum_within : (i u m product index : ℕ) → u < 2 ^ 64 → product ≡ min m (2 ^ 128 - 1)
    → index ≡ min (i + product) (2 ^ 128 - 1)
    → index < u → index ≡ i + m
sum_within i u m product index small held sum less = omega arith

sum_past : (i u m product index : ℕ) → u < 2 ^ 64 → product ≡ min m (2 ^ 128 - 1)
    → index ≡ min (i + product) (2 ^ 128 - 1)
    → u ≤ index → u ≤ i + m
sum_past i u m product index small held sum past = omega arith

-- a difference with a product held below 2^128 is the difference
difference_held : (a m product above : ℕ) → a < 2 ^ 64 → product ≡ min m (2 ^ 128 - 1)
    → above ≡ a - product → above ≡ a - m
difference_held a m product above small held is = omega arith

pub rising-gives : (n p s i u product index : ℕ) (start end : Option ℤ) → 0 < s → u < 2 ^ 64
    → u ≤ n → pos i ≡ rising_lower n start → pos u ≡ rising_upper n end
    → product ≡ min (s * p) (2 ^ 128 - 1) → index ≡ min (i + product) (2 ^ 128 - 1) → index < u
    → Some index ≡ slice_get (slice_of n start end (pos s)) p
rising-gives n p s i u product index start end positive small fits low up held sum less =
    let at = sum_within i u (s * p) product index small held sum less in
    ap Some at ∙ sym (rising-at p i u s n (omega arith) fits positive)
    ∙ ap (λ is. slice_get is p) (rising-starts n start end s i u positive low up)

pub rising-ends : (n p s i u product index : ℕ) (start end : Option ℤ) → 0 < s → u < 2 ^ 64
    → u ≤ n → pos i ≡ rising_lower n start → pos u ≡ rising_upper n end
    → product ≡ min (s * p) (2 ^ 128 - 1) → index ≡ min (i + product) (2 ^ 128 - 1) → u ≤ index
    → None ≡ slice_get (slice_of n start end (pos s)) p
rising-ends n p s i u product index start end positive small fits low up held sum past =
    let beyond = sum_past i u (s * p) product index small held sum past in
    sym (rising-past p i u s n beyond fits positive)
    ∙ ap (λ is. slice_get is p) (rising-starts n start end s i u positive low up)

pub falling-gives : (n p s a l product above : ℕ) (start end : Option ℤ) → 0 < s → a < 2 ^ 64
    → a ≤ n → pos a ≡ falling_upper n start +ℤ pos 1 → pos l ≡ falling_lower n end +ℤ pos 1
    → product ≡ min (s * p) (2 ^ 128 - 1) → above ≡ a - product → l < above
    → Some (above - 1) ≡ slice_get (slice_of n start end (negsuc (s - 1))) p
falling-gives n p s a l product above start end positive small fits up low held is more =
    let at = difference_held a (s * p) product above small held is in
    ap (λ k. Some (k - 1)) at ∙ sym (falling-at p l a s n (omega arith) fits positive)
    ∙ ap (λ is. slice_get is p) (falling-starts n start end s l a positive low up)

pub falling-ends : (n p s a l product above : ℕ) (start end : Option ℤ) → 0 < s → a < 2 ^ 64
    → a ≤ n → pos a ≡ falling_upper n start +ℤ pos 1 → pos l ≡ falling_lower n end +ℤ pos 1
    → product ≡ min (s * p) (2 ^ 128 - 1) → above ≡ a - product → above ≤ l
    → None ≡ slice_get (slice_of n start end (negsuc (s - 1))) p
falling-ends n p s a l product above start end positive small fits up low held is past =
    let at = difference_held a (s * p) product above small held is in
    sym (falling-past p l a s n (omega arith) fits positive)
    ∙ ap (λ is. slice_get is p) (falling-starts n start end s l a positive low up)

-- a position is no more than the product with a step
pub position_within : (s p : ℕ) → 0 < s → p ≤ s * p
position_within s p positive = grind arith

-- ---- each index is within the list

within_of : (n a m : ℕ) → a + m ≤ n → All (λ i. i < n) (range_with_len a m)
within_of n a zero fits = All-nil (λ i. i < n)
within_of n a (suc m) fits =
    All-cons (λ i. i < n) a (range_with_len (a + 1) m) (omega arith)
    (within_of n (a + 1) m (omega arith))

indexes_within : (n : ℕ) → All (λ i. i < n) (indexes n)
indexes_within n = within_of n 0 n (omega arith)

All-reverse : {X : Type 0} (P : X → Type 0) (xs : List X) → All P xs → All P (reverse xs)
All-reverse P [] all = All-nil P
All-reverse P (x ∷ xs) all =
    subst (All P) (sym (reverse-append (x ∷ []) xs))
    (All-append P (reverse xs) (x ∷ []) (All-reverse P xs (All-tail P x xs all))
    (All-cons P x [] (All-head P x xs all) (All-nil P)))

pub slice_within : (n : ℕ) (start end : Option ℤ) (step : ℤ)
    → All (λ i. i < n) (slice_of n start end step)
slice_within n start end (pos zero) = All-nil (λ i. i < n)
slice_within n start end (pos (suc k)) = All-filter _ (λ i. i < n) (indexes n) (indexes_within n)
slice_within n start end (negsuc k) =
    All-reverse (λ i. i < n) _ (All-filter _ (λ i. i < n) (indexes n) (indexes_within n))
