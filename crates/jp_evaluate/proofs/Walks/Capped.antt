-- Counts as 64 bits tell them.
use Rattle.std.proofs.Common.{◌≡◌, ℕ, zero, suc, ◌+◌, ◌*◌, arith}
use Rattle.jp_evaluate.specs.Private.Tally.{capped}

pub capped_plus : (a b x y : ℕ) → capped a ≡ capped x → capped b ≡ capped y
    → capped (a + b) ≡ capped (x + y)
capped_plus a b x y e f = omega arith

pub capped_twice : (a : ℕ) → capped (capped a) ≡ capped a
capped_twice a = omega arith

-- what is counted is told before or after it counts for n each
pub capped_times : (a x n : ℕ) → capped a ≡ capped x → capped (a * n) ≡ capped (x * n)
capped_times a x zero e = omega arith
capped_times a x (suc n) e =
    let before = capped_times a x n e in
    let left : a * suc n ≡ a * n + a = omega arith in
    let right : x * suc n ≡ x * n + x = omega arith in
    omega arith

-- e more are counted for n each
pub capped_more : (c e n s new : ℕ) → new ≡ capped (c + e) → capped (c * n) ≡ capped s
    → capped (new * n) ≡ capped (s + e * n)
capped_more c e n s new is before =
    let told : capped new ≡ capped (c + e) = omega arith in
    let times = capped_times new (c + e) n told in
    let apart : (c + e) * n ≡ c * n + e * n = omega arith in
    omega arith
