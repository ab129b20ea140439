-- The text of a number is one of ASCII characters.
use Rattle.std.proofs.Common.{◌+◌, ◌-◌, ◌^◌, ◌<◌, ◌≤◌, ◌++◌, ℕ, zero, suc, Bool, true, false, List, []}
use Rattle.std.proofs.Common.{◌∷◌, length, take, drop, arith, cond, nat_lt, lit<}
use Rattle.std.specs.Prelude.{ℤ, pos, negsuc, unsigned_abs}
use Rattle.std.specs.Fmt.{decimal, sign_text}
use Rattle.std.specs.Str.{IsAscii}
use Rattle.std.proofs.lemmas.Fmt.{IsAscii-decimal_wide, IsAscii-from_digits, length-decimal-le_wide}
use Rattle.std.proofs.lemmas.Str.{IsAscii-append, IsAscii-drop, IsAscii-take}
use Rattle.jp_decimal.proofs.ReadBack.{all-behind}
use Rattle.jp_decimal.specs.NumberText.{number_text, pointed, power_text, size_text, with_places, with_power}
use Rattle.jp_decimal.specs.NumberText.{zeros}
use Rattle.jp_decimal.specs.Scaled.{is_below_zero}
use Rattle.jp_decimal.specs.declared.number.Decimal.{Decimal}
use Rattle.jp_decimal.specs.declared.number.Number.TheVariants.{Decimal as AsDecimal}

one-ascii : (c : ℕ) → c < 128 → IsAscii (c ∷ [])
one-ascii c low zero = low
one-ascii c low (suc i) = lit< tt

more-ascii : (c : ℕ) (cs : List ℕ) → c < 128 → IsAscii cs → IsAscii (c ∷ cs)
more-ascii c cs low all = IsAscii-append (c ∷ []) cs (one-ascii c low) all

pub zeros-ascii : (n : ℕ) → IsAscii (zeros n)
zeros-ascii n = IsAscii-from_digits (zeros n) (all-behind [] n tt)

sign-ascii : (negative : Bool) → IsAscii (sign_text negative)
sign-ascii true = one-ascii 45 (lit< tt)
sign-ascii false = zeros-ascii 0

pointed-ascii : (k : ℕ) (ds : List ℕ) → IsAscii ds → IsAscii (pointed k ds)
pointed-ascii k ds all = decided (nat_lt k (length ds))
  where
    decided : (b : Bool) → IsAscii (cond b (take k ds ++ 46 ∷ drop k ds) ds)
    decided true =
        IsAscii-append (take k ds) (46 ∷ drop k ds) (IsAscii-take ds k all)
        (more-ascii 46 (drop k ds) (lit< tt) (IsAscii-drop ds k all))
    decided false = all

power-ascii : (below : Bool) (power : ℕ) → power < 10 ^ 64 → IsAscii (power_text below power)
power-ascii true power small =
    more-ascii 101 (45 ∷ decimal power) (lit< tt)
    (more-ascii 45 (decimal power) (lit< tt) (IsAscii-decimal_wide power small))
power-ascii false power small =
    more-ascii 101 (43 ∷ decimal power) (lit< tt)
    (more-ascii 43 (decimal power) (lit< tt) (IsAscii-decimal_wide power small))

with_power-ascii : (below : Bool) (power : ℕ) (ds : List ℕ) → power < 10 ^ 64 → IsAscii ds
    → IsAscii (with_power below power ds)
with_power-ascii below power ds small all =
    IsAscii-append (pointed 1 ds) (power_text below power) (pointed-ascii 1 ds all)
    (power-ascii below power small)

with_places-ascii : (places : ℕ) (ds : List ℕ) → places < 10 ^ 63 → length ds ≤ 64 → IsAscii ds
    → IsAscii (with_places places ds)
with_places-ascii places ds small few all =
    decided (nat_lt places (length ds)) (nat_lt (length ds - places) 22) (nat_lt (places - length ds) 6)
  where
    decided : (b c d : Bool)
        → IsAscii (cond b
        (cond c (pointed (length ds - places) ds) (with_power false (length ds - places - 1) ds))
        (cond d (48 ∷ 46 ∷ (zeros (places - length ds) ++ ds))
        (with_power true (places - length ds + 1) ds)))
    decided true true d = pointed-ascii (length ds - places) ds all
    decided true false d =
        with_power-ascii false (length ds - places - 1) ds (omega (arith, few)) all
    decided false c true =
        more-ascii 48 (46 ∷ (zeros (places - length ds) ++ ds)) (lit< tt)
        (more-ascii 46 (zeros (places - length ds) ++ ds) (lit< tt)
        (IsAscii-append (zeros (places - length ds)) ds (zeros-ascii (places - length ds)) all))
    decided false c false =
        with_power-ascii true (places - length ds + 1) ds (omega (arith, small)) all

size-ascii : (ds : List ℕ) (e : ℤ) → unsigned_abs e < 10 ^ 63 → length ds ≤ 64 → IsAscii ds
    → IsAscii (size_text ds e)
size-ascii ds (pos n) small few all = decided (nat_lt (length ds + n) 22)
  where
    decided : (b : Bool) → IsAscii (cond b (ds ++ zeros n) (with_power false (length ds + n - 1) ds))
    decided true = IsAscii-append ds (zeros n) all (zeros-ascii n)
    decided false =
        with_power-ascii false (length ds + n - 1) ds (omega (arith, small, few)) all
size-ascii ds (negsuc n) small few all = with_places-ascii (suc n) ds small few all

pub decimal-ascii : (d : Decimal) → unsigned_abs d.coefficient < 10 ^ 64
    → unsigned_abs d.exponent < 10 ^ 63
    → IsAscii (number_text (AsDecimal d))
decimal-ascii d short small =
    let size : ℕ = unsigned_abs d.coefficient in
    IsAscii-append (sign_text (is_below_zero d.coefficient)) (size_text (decimal size) d.exponent)
    (sign-ascii (is_below_zero d.coefficient))
    (size-ascii (decimal size) d.exponent small (length-decimal-le_wide 64 size (lit< tt) short short)
    (IsAscii-decimal_wide size short))
