-- Slices, index by index.
use Rattle.std.proofs.Common.{◌≡◌, ℕ, zero, suc, ◌+◌, ◌-◌, ◌<◌, ◌≤◌, ◌%◌, Bool, true}
use Rattle.std.proofs.Common.{false, ◌&&◌, cond, leb, ltb, nat_eq, ℤ, pos, negsuc, ◌+ℤ◌}
use Rattle.std.proofs.Common.{◌-ℤ◌, int_le, int_lt, unsigned_abs, [], ◌∷◌, ◌++◌}
use Rattle.std.proofs.Common.{reverse, Option, refl, sym, ap, ap₂, ◌∙◌, inl, inr, arith}
use Rattle.std.specs.List.{filter, range_with_len}
use Rattle.std.proofs.lemmas.Bool.{cases_lt, le-leb, le-ltb, lt-leb, lt-ltb}
use Rattle.std.proofs.lemmas.Bool.Decides.{nat_tests}
use Rattle.std.proofs.lemmas.Int.{ints}
use Rattle.std.proofs.lemmas.List.{reverse-append}
use Rattle.std.proofs.Math.Nat.{add-mod_right, mod-eq_of_lt}
use Rattle.jp_select.specs.Slice.{rising_lower, rising_upper, falling_lower, falling_upper}
use Rattle.jp_select.specs.Slice.{divides, is_rising, is_falling, indexes, slice_of}

eq_no : (a : ℕ) → 0 < a → nat_eq a 0 ≡ false
eq_no a h = grind (arith, nat_tests)

and_false : (b : Bool) → (b && false) ≡ false
and_false true = refl
and_false false = refl

pub distance : (i j : ℕ) → i ≤ j → pos j -ℤ pos i ≡ pos (j - i)
distance i j h = omega (arith, ints)

-- ---- filters over indexes

filter_same : (p q : ℕ → Bool) (a n : ℕ) → ((j : ℕ) → a ≤ j → p j ≡ q j)
    → filter p (range_with_len a n) ≡ filter q (range_with_len a n)
filter_same p q a zero each = refl
filter_same p q a (suc n) each =
    ap₂ (λ b t. cond b (a ∷ t) t) (each a (omega arith))
    (filter_same p q (a + 1) n (λ j h. each j (omega arith)))

pub filter_none : (p : ℕ → Bool) (a n : ℕ) → ((j : ℕ) → a ≤ j → p j ≡ false)
    → filter p (range_with_len a n) ≡ []
filter_none p a zero each = refl
filter_none p a (suc n) each =
    ap₂ (λ b t. cond b (a ∷ t) t) (each a (omega arith))
    (filter_none p (a + 1) n (λ j h. each j (omega arith)))

-- p passes i first, and q what p passes after it
filter_first : (p q : ℕ → Bool) (i a n : ℕ) → a ≤ i → i < a + n → ((j : ℕ) → j < i → p j ≡ false)
    → p i ≡ true → ((j : ℕ) → j ≤ i → q j ≡ false) → ((j : ℕ) → i < j → p j ≡ q j)
    → filter p (range_with_len a n) ≡ i ∷ filter q (range_with_len a n)
filter_first p q i a zero from to before here none same = absurd (omega arith)
filter_first p q i a (suc n) from to before here none same =
    elim (cases_lt a i) [
      | inl below ↦
          ap
          (λ b. cond b (a ∷ filter p (range_with_len (a + 1) n))
          (filter p (range_with_len (a + 1) n))) (before a below)
          ∙ filter_first p q i (a + 1) n (omega arith) (omega arith) before here none same
          ∙ ap
          (λ b. i ∷ cond b (a ∷ filter q (range_with_len (a + 1) n))
          (filter q (range_with_len (a + 1) n))) (sym (none a (omega arith)))
      | inr above ↦
          let at : i ≡ a = omega arith in
          ap₂ (λ b t. cond b (a ∷ t) t) (ap p (sym at) ∙ here)
          (filter_same p q (a + 1) n (λ j h. same j (omega arith)))
          ∙ ap (λ k. k ∷ filter q (range_with_len (a + 1) n)) (sym at)
          ∙ ap
          (λ b. i ∷ cond b (a ∷ filter q (range_with_len (a + 1) n))
          (filter q (range_with_len (a + 1) n))) (sym (none a (omega arith)))
    ]

-- p passes i last, and q what p passes before it
filter_last : (p q : ℕ → Bool) (i a n : ℕ) → a ≤ i → i < a + n → ((j : ℕ) → i < j → p j ≡ false)
    → p i ≡ true → ((j : ℕ) → i ≤ j → q j ≡ false) → ((j : ℕ) → j < i → p j ≡ q j)
    → filter p (range_with_len a n) ≡ filter q (range_with_len a n) ++ i ∷ []
filter_last p q i a zero from to after here none same = absurd (omega arith)
filter_last p q i a (suc n) from to after here none same =
    elim (cases_lt a i) [
      | inl below ↦
          kept (p a) (q a) (same a below)
          (filter_last p q i (a + 1) n (omega arith) (omega arith) after here none same)
      | inr above ↦
          let at : i ≡ a = omega arith in
          ap₂ (λ b t. cond b (a ∷ t) t) (ap p (sym at) ∙ here)
          (filter_none p (a + 1) n (λ j h. after j (omega arith)))
          ∙ ap (λ k. k ∷ []) (sym at)
          ∙ ap (λ t. t ++ i ∷ []) (sym (filter_none q a (suc n) (λ j h. none j (omega arith))))
    ]
  where
    kept : (b c : Bool) → b ≡ c
        → filter p (range_with_len (a + 1) n) ≡ filter q (range_with_len (a + 1) n) ++ i ∷ []
        → cond b (a ∷ filter p (range_with_len (a + 1) n)) (filter p (range_with_len (a + 1) n))
        ≡
        cond c (a ∷ filter q (range_with_len (a + 1) n)) (filter q (range_with_len (a + 1) n))
        ++ i ∷ []
    kept true true is rest = ap (λ t. a ∷ t) rest
    kept false false is rest = rest
    kept true false is rest = absurd (cc)
    kept false true is rest = absurd (cc)

-- ---- upwards

rising_before : (i u s j : ℕ) → j < i → is_rising (pos i) (pos u) s j ≡ false
rising_before i u s j less = ap (λ b. b && ltb j u && divides s (pos j -ℤ pos i)) (lt-leb i j less)

rising_past : (i u s j : ℕ) → u ≤ j → is_rising (pos i) (pos u) s j ≡ false
rising_past i u s j past =
    ap (λ b. leb i j && b && divides s (pos j -ℤ pos i)) (le-ltb j u past)
    ∙ ap (λ b. b && divides s (pos j -ℤ pos i)) (and_false (leb i j))

rising_here : (i u s : ℕ) → i < u → 0 < s → is_rising (pos i) (pos u) s i ≡ true
rising_here i u s within positive =
    let none : unsigned_abs (pos i -ℤ pos i) % s ≡ 0 =
    ap (λ z. unsigned_abs z % s) (distance i i (omega arith)) ∙ omega arith in
    rw (le-leb i i (omega arith)) (rw (lt-ltb i u within) (rw none refl))

same_rest : (m s : ℕ) → nat_eq ((m + s) % s) 0 ≡ nat_eq (m % s) 0
same_rest m s = ap (λ r. nat_eq r 0) (add-mod_right m s)

short_rest : (m s : ℕ) → 0 < m → m < s → nat_eq (m % s) 0 ≡ false
short_rest m s some less =
    let same : m % s ≡ m = mod-eq_of_lt less in ap (λ r. nat_eq r 0) same ∙ eq_no m some

rising_later : (i u s j : ℕ) → i < j → 0 < s
    → is_rising (pos i) (pos u) s j ≡ is_rising (pos (i + s)) (pos u) s j
rising_later i u s j less positive =
    elim (cases_lt j (i + s)) [
      | inl below ↦
          ap (λ z. leb i j && ltb j u && nat_eq (unsigned_abs z % s) 0) (distance i j (omega arith))
          ∙ ap (λ b. leb i j && ltb j u && b) (short_rest (j - i) s (omega arith) (omega arith))
          ∙ and_false (leb i j && ltb j u)
          ∙ sym (rising_before (i + s) u s j below)
      | inr above ↦
          let far : j - i ≡ (j - (i + s)) + s = omega arith in
          ap (λ z. leb i j && ltb j u && nat_eq (unsigned_abs z % s) 0) (distance i j (omega arith))
          ∙ ap₂ (λ b c. b && ltb j u && c) (le-leb i j (omega arith) ∙ sym (le-leb (i + s) j above))
          (ap (λ m. nat_eq (m % s) 0) far ∙ same_rest (j - (i + s)) s)
          ∙ ap (λ z. leb (i + s) j && ltb j u && nat_eq (unsigned_abs z % s) 0)
          (sym (distance (i + s) j above))
    ]

pub rising-next : (i u s n : ℕ) → i < u → u ≤ n → 0 < s
    → filter (is_rising (pos i) (pos u) s) (indexes n) ≡
    i ∷ filter (is_rising (pos (i + s)) (pos u) s) (indexes n)
rising-next i u s n within fits positive =
    filter_first (is_rising (pos i) (pos u) s) (is_rising (pos (i + s)) (pos u) s) i 0 n
    (omega arith) (omega arith)
    (λ j h. rising_before i u s j h) (rising_here i u s within positive)
    (λ j h. rising_before (i + s) u s j (omega arith)) (λ j h. rising_later i u s j h positive)

pub rising-end : (i u s n : ℕ) → u ≤ i → filter (is_rising (pos i) (pos u) s) (indexes n) ≡ []
rising-end i u s n past =
    filter_none (is_rising (pos i) (pos u) s) 0 n (λ j h. elim (cases_lt j i) [
      | inl below ↦ rising_before i u s j below
      | inr above ↦ rising_past i u s j (omega arith)
    ])

-- the bounds that the code found are the slice's
pub rising-starts : (n : ℕ) (start end : Option ℤ) (s lower upper : ℕ) → 0 < s
    → pos lower ≡ rising_lower n start → pos upper ≡ rising_upper n end
    → filter (is_rising (pos lower) (pos upper) s) (indexes n) ≡ slice_of n start end (pos s)
rising-starts n start end zero lower upper positive low up = absurd (omega arith)
rising-starts n start end (suc k) lower upper positive low up =
    ap₂ (λ l u. filter (is_rising l u (suc k)) (indexes n)) low up

-- ---- downwards, with both bounds one higher

-- an index that a falling slice selects, from the lower number up and below the upper one
abbrev pub falls_between : ℕ → ℕ → ℕ → ℕ → Bool
falls_between lower above s = is_falling (pos lower -ℤ pos 1) (pos above -ℤ pos 1) s

pub one_less : (k : ℕ) → pos (suc k) -ℤ pos 1 ≡ pos k
one_less k = omega (arith, ints)

pub above_lower : (l j : ℕ) → l ≤ j → int_lt (pos l -ℤ pos 1) (pos j) ≡ true
above_lower zero j h = refl
above_lower (suc k) j h = ap (λ z. int_lt z (pos j)) (one_less k) ∙ lt-ltb k j (omega arith)

pub not_above_lower : (l j : ℕ) → j < l → int_lt (pos l -ℤ pos 1) (pos j) ≡ false
not_above_lower zero j h = absurd (omega arith)
not_above_lower (suc k) j h = ap (λ z. int_lt z (pos j)) (one_less k) ∙ le-ltb k j (omega arith)

pub below_upper : (a j : ℕ) → j < a → int_le (pos j) (pos a -ℤ pos 1) ≡ true
below_upper zero j h = absurd (omega arith)
below_upper (suc k) j h = ap (int_le (pos j)) (one_less k) ∙ le-leb j k (omega arith)

pub not_below_upper : (a j : ℕ) → a ≤ j → int_le (pos j) (pos a -ℤ pos 1) ≡ false
not_below_upper zero j h = refl
not_below_upper (suc k) j h = ap (int_le (pos j)) (one_less k) ∙ lt-leb j k (omega arith)

pub distance_down : (a j : ℕ) → j < a → (pos a -ℤ pos 1) -ℤ pos j ≡ pos (a - 1 - j)
distance_down a j h = omega (arith, ints)

falling_after : (l a s j : ℕ) → a ≤ j → falls_between l a s j ≡ false
falling_after l a s j past =
    let low = int_lt (pos l -ℤ pos 1) (pos j) in
    let rest = divides s ((pos a -ℤ pos 1) -ℤ pos j) in
    ap (λ b. low && b && rest) (not_below_upper a j past) ∙ ap (λ b. b && rest) (and_false low)

falling_under : (l a s j : ℕ) → j < l → falls_between l a s j ≡ false
falling_under l a s j under =
    ap (λ b. b && int_le (pos j) (pos a -ℤ pos 1) && divides s ((pos a -ℤ pos 1) -ℤ pos j))
    (not_above_lower l j under)

falling_here : (l i a s : ℕ) → l ≤ i → a ≡ i + 1 → 0 < s → falls_between l a s i ≡ true
falling_here l i a s within at positive =
    let near : a - 1 - i ≡ 0 = omega arith in
    let none : unsigned_abs ((pos a -ℤ pos 1) -ℤ pos i) % s ≡ 0 =
    ap (λ z. unsigned_abs z % s) (distance_down a i (omega arith)) ∙ ap (λ m. m % s) near
    ∙ omega arith in
    ap₂ (λ b c. b && c && divides s ((pos a -ℤ pos 1) -ℤ pos i)) (above_lower l i within)
    (below_upper a i (omega arith)) ∙ ap (λ r. nat_eq r 0) none

falling_sooner : (l i a s j : ℕ) → a ≡ i + 1 → j < i → 0 < s
    → falls_between l a s j ≡ falls_between l (a - s) s j
falling_sooner l i a s j at less positive =
    let low = int_lt (pos l -ℤ pos 1) (pos j) in
    elim (cases_lt j (a - s)) [
      | inl below ↦
          let far : a - 1 - j ≡ (a - s - 1 - j) + s = omega arith in
          ap (λ z. low && int_le (pos j) (pos a -ℤ pos 1) && nat_eq (unsigned_abs z % s) 0)
          (distance_down a j (omega arith))
          ∙ ap₂ (λ b c. low && b && c)
          (below_upper a j (omega arith) ∙ sym (below_upper (a - s) j below))
          (ap (λ m. nat_eq (m % s) 0) far ∙ same_rest (a - s - 1 - j) s)
          ∙ ap (λ z. low && int_le (pos j) (pos (a - s) -ℤ pos 1) && nat_eq (unsigned_abs z % s) 0)
          (sym (distance_down (a - s) j below))
      | inr above ↦
          ap (λ z. low && int_le (pos j) (pos a -ℤ pos 1) && nat_eq (unsigned_abs z % s) 0)
          (distance_down a j (omega arith))
          ∙ ap (λ b. low && int_le (pos j) (pos a -ℤ pos 1) && b)
          (short_rest (a - 1 - j) s (omega arith) (omega arith))
          ∙ and_false (low && int_le (pos j) (pos a -ℤ pos 1))
          ∙ sym (falling_after l (a - s) s j above)
    ]

pub falling-next : (l a s n : ℕ) → l < a → a ≤ n → 0 < s
    → reverse (filter (falls_between l a s) (indexes n)) ≡
    (a - 1) ∷ reverse (filter (falls_between l (a - s) s) (indexes n))
falling-next l a s n within fits positive =
    let i = a - 1 in
    ap reverse
    (filter_last (falls_between l a s) (falls_between l (a - s) s) i 0 n (omega arith)
    (omega arith) (λ j h. falling_after l a s j (omega arith))
    (falling_here l i a s (omega arith) (omega arith) positive)
    (λ j h. falling_after l (a - s) s j (omega arith))
    (λ j h. falling_sooner l i a s j (omega arith) h positive))
    ∙ reverse-append (filter (falls_between l (a - s) s) (indexes n)) (i ∷ [])

pub falling-end : (l a s n : ℕ) → a ≤ l → reverse (filter (falls_between l a s) (indexes n)) ≡ []
falling-end l a s n past =
    ap reverse (filter_none (falls_between l a s) 0 n (λ j h. elim (cases_lt j l) [
      | inl under ↦ falling_under l a s j under
      | inr above ↦ falling_after l a s j (omega arith)
    ]))

one_lower : (a : ℕ) (z : ℤ) → pos a ≡ z +ℤ pos 1 → pos a -ℤ pos 1 ≡ z
one_lower a z is = omega (arith, ints)

pub falling-starts : (n : ℕ) (start end : Option ℤ) (s lower above : ℕ) → 0 < s
    → pos lower ≡ falling_lower n end +ℤ pos 1 → pos above ≡ falling_upper n start +ℤ pos 1
    → reverse (filter (falls_between lower above s) (indexes n)) ≡
    slice_of n start end (negsuc (s - 1))
falling-starts n start end s lower above positive low up =
    let size : s ≡ suc (s - 1) = omega arith in
    ap₂ (λ l u. reverse (filter (is_falling l u s) (indexes n)))
    (one_lower lower (falling_lower n end) low) (one_lower above (falling_upper n start) up)
    ∙ ap
    (λ m. reverse
    (filter (is_falling (falling_lower n end) (falling_upper n start) m) (indexes n))) size
