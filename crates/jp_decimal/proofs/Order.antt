-- The order of numbers, from that of naturals and integers.
use Rattle.std.proofs.Common.{◌≡◌, ◌+◌, ◌-◌, ◌*◌, ◌^◌, ◌<◌, ◌≤◌, ℕ, zero, suc, arith, sym, ap, ◌∙◌}
use Rattle.std.proofs.Common.{refl, ltb, inl, inr, mul_assoc}
use Rattle.std.specs.Prelude.{ℤ, pos, negsuc, ◌*ℤ◌, ◌-ℤ◌, ◌≤ℤ◌, ◌<ℤ◌, unsigned_abs, neg_ℤ}
use Rattle.std.specs.Ordering.{nat_cmp, int_cmp}
use Rattle.std.specs.declared.cmp.Ordering.TheVariants.{Less, Greater}
use Rattle.std.proofs.Math.Nat.{mul-lt-mul_of_pos_right, mul-pos, mul-le-mul_right}
use Rattle.std.proofs.lemmas.Bool.{cases_lt}
use Rattle.std.proofs.lemmas.Int.{ints}
use Rattle.std.proofs.lemmas.Nat.{pow-add}
use borrow.Author.Differences.{up, down}
use Rattle.jp_decimal.proofs.Powers.{tens-pos}
use Rattle.jp_decimal.specs.Scaled.{Scaled, from_zero, raised, scaled_cmp}

-- the tests of the two orders, as the factors go
by-test : (a b c d : ℕ) → (a < b → c < d) → (b ≤ a → d ≤ c) → ltb c d ≡ ltb a b
by-test a b c d up down = elim (cases_lt a b) [ inl h ↦ let k : c < d = up h in grind arith | inr h ↦ let k : d ≤ c = down h in grind arith ]

pub ltb-times : (a b p : ℕ) → 0 < p → ltb (a * p) (b * p) ≡ ltb a b
ltb-times a b p some =
    by-test a b (a * p) (b * p) (λ h. mul-lt-mul_of_pos_right h some) (λ h. mul-le-mul_right p h)

pub ltb-below-times : (a b p : ℕ) → 0 < p → ltb (suc a * p - 1) (suc b * p - 1) ≡ ltb a b
ltb-below-times a b p some =
    let x : 0 < suc a * p = mul-pos (omega arith) some in
    let y : 0 < suc b * p = mul-pos (omega arith) some in
    by-test a b (suc a * p - 1) (suc b * p - 1)
    (λ h. let k : suc a * p < suc b * p = mul-lt-mul_of_pos_right (omega arith) some in omega arith)
    (λ h. let k : suc b * p ≤ suc a * p = mul-le-mul_right p (omega arith) in omega arith)

pub neg-pos : (n : ℕ) → 0 < n → neg_ℤ (pos n) ≡ negsuc (n - 1)
neg-pos zero h = let no : ⊥ = omega arith in absurd no
neg-pos (suc n) h = ap negsuc (omega arith)

-- below 0, a product with a positive number
pub below-times : (a p : ℕ) → 0 < p → negsuc a *ℤ pos p ≡ negsuc (suc a * p - 1)
below-times a p some = neg-pos (suc a * p) (mul-pos (omega arith) some)

pub int_cmp-times : (a b : ℤ) (p : ℕ) → 0 < p → int_cmp (a *ℤ pos p) (b *ℤ pos p) ≡ int_cmp a b
int_cmp-times (pos a) (pos b) p some = rw (ltb-times a b p some, ltb-times b a p some) refl
int_cmp-times (pos a) (negsuc b) p some = rw (below-times b p some) refl
int_cmp-times (negsuc a) (pos b) p some = rw (below-times a p some) refl
int_cmp-times (negsuc a) (negsuc b) p some =
    rw (below-times a p some, below-times b p some, ltb-below-times a b p some, ltb-below-times b a p some) refl

pub times-times : (z : ℤ) (p q : ℕ) → 0 < p → 0 < q → (z *ℤ pos p) *ℤ pos q ≡ z *ℤ pos (p * q)
times-times (pos a) p q _ _ = ap pos (mul_assoc a p q)
times-times (negsuc a) p q x y =
    let some : 0 < suc a * p = mul-pos (omega arith) x in
    let whole : suc (suc a * p - 1) ≡ suc a * p = omega arith in
    rw (below-times a p x, below-times (suc a * p - 1) q y, below-times a (p * q) (mul-pos x y))
    (ap (λ n. negsuc (n - 1)) (ap (λ n. n * q) whole ∙ mul_assoc (suc a) p q))

pub from_zero-is : (z : ℤ) → from_zero z ≡ up z - down z
from_zero-is (pos n) = omega arith
from_zero-is (negsuc n) = omega arith

pub gaps : (e f m : ℤ) → m ≤ℤ e → m ≤ℤ f
    → (k : ℕ) × (from_zero (e -ℤ m) ≡ from_zero (e -ℤ f) + k) × (from_zero (f -ℤ m) ≡ from_zero (f -ℤ e) + k)
gaps e f m x y = (
  from_zero (e -ℤ m) - from_zero (e -ℤ f),
  omega (arith, ints, from_zero-is (e -ℤ m), from_zero-is (e -ℤ f), from_zero-is (f -ℤ m), from_zero-is (f -ℤ e)),
  omega (arith, ints, from_zero-is (e -ℤ m), from_zero-is (e -ℤ f), from_zero-is (f -ℤ m), from_zero-is (f -ℤ e)),
)

-- raised by more
raised-more : (z : ℤ) (i j k : ℕ) → i ≡ j + k → z *ℤ pos (10 ^ i) ≡ (z *ℤ pos (10 ^ j)) *ℤ pos (10 ^ k)
raised-more z i j k e =
    ap (λ n. z *ℤ pos (10 ^ n)) e ∙ ap (λ n. z *ℤ pos n) (pow-add 10 j k)
    ∙ sym (times-times z (10 ^ j) (10 ^ k) (tens-pos j) (tens-pos k))

-- two numbers stand as they do at any exponent that is at most theirs
pub cmp-at : (x y : Scaled) (m : ℤ) → m ≤ℤ x.exponent → m ≤ℤ y.exponent
    → int_cmp (raised x m) (raised y m) ≡ scaled_cmp x y
cmp-at x y m p q =
    let g : (k : ℕ) × (from_zero (x.exponent -ℤ m) ≡ from_zero (x.exponent -ℤ y.exponent) + k) × (from_zero (y.exponent -ℤ m) ≡ from_zero (y.exponent -ℤ x.exponent) + k) = gaps x.exponent y.exponent m p q in
    rw (raised-more x.coefficient _ _ g.0 g.1, raised-more y.coefficient _ _ g.0 g.2)
    (int_cmp-times (raised x y.exponent) (raised y x.exponent) (10 ^ g.0) (tens-pos g.0))

-- ---- signed numbers by their sizes
pub same-cmp : (a b : ℕ) → nat_cmp a b ≡ int_cmp (pos a) (pos b)
same-cmp a b = grind arith

less-cmp : (a b : ℕ) → a < b → int_cmp (pos a) (pos b) ≡ Less
less-cmp a b h = grind arith

pub sizes-from-zero : (c d : ℤ) (p q : ℕ) → pos 0 ≤ℤ c → pos 0 ≤ℤ d
    → nat_cmp (unsigned_abs c * p) (unsigned_abs d * q) ≡ int_cmp (c *ℤ pos p) (d *ℤ pos q)
sizes-from-zero (pos c) (pos d) p q _ _ = same-cmp (c * p) (d * q)
sizes-from-zero (pos c) (negsuc d) p q _ h = absurd h.le
sizes-from-zero (negsuc c) d p q h _ = absurd h.le

pub sizes-below-zero : (c d : ℤ) (p q : ℕ) → c <ℤ pos 0 → d <ℤ pos 0 → 0 < p → 0 < q
    → nat_cmp (unsigned_abs d * q) (unsigned_abs c * p) ≡ int_cmp (c *ℤ pos p) (d *ℤ pos q)
sizes-below-zero (negsuc c) (negsuc d) p q _ _ x y =
    let i : 0 < suc c * p = mul-pos (omega arith) x in
    let j : 0 < suc d * q = mul-pos (omega arith) y in
    rw (below-times c p x, below-times d q y) (grind arith)
sizes-below-zero (negsuc c) (pos d) p q _ h _ _ = let no : ⊥ = omega (arith, ints, h) in absurd no
sizes-below-zero (pos c) d p q h _ _ _ = let no : ⊥ = omega (arith, ints, h) in absurd no

pub signs-apart : (c d : ℤ) (p q : ℕ) → c <ℤ pos 0 → pos 0 ≤ℤ d → 0 < p → 0 < q
    → (Less ≡ int_cmp (c *ℤ pos p) (d *ℤ pos q)) × (Greater ≡ int_cmp (d *ℤ pos q) (c *ℤ pos p))
signs-apart (negsuc c) (pos d) p q _ _ x y = rw (below-times c p x) (refl, refl)
signs-apart (negsuc c) (negsuc d) p q _ h _ _ = absurd h.le
signs-apart (pos c) d p q h _ _ _ = let no : ⊥ = omega (arith, ints, h) in absurd no
