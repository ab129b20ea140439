-- Digits and the number that they write: for `digits_end` and `whole_end`.
use Rattle.std.proofs.Common.{◌≡◌, ◌+◌, ◌-◌, ◌*◌, ◌%◌, ◌^◌, ◌<◌, ◌≤◌, ◌==◌, ℕ, false, List, length}
use Rattle.std.proofs.Common.{get_or, take, drop, refl, sym, ap, subst, ◌∙◌, arith}
use Rattle.std.specs.Char.{digit_value}
use Rattle.std.specs.Str.Parse.{AllDigits, digits_value}
use Rattle.std.proofs.lemmas.Int.Digits.{digits_more, digits_value_more}
use Rattle.std.proofs.lemmas.List.{get_or-drop, get_or-take, length-drop, length-take-le}
use Rattle.std.proofs.lemmas.Str.Parse.{digits_value_short, numerals_by_value, tells_digits}
use Rattle.jp_flat.specs.Private.Tokens.{IsDigits, IsSized}

pub digits_none : (xs : List ℕ) → IsDigits (take 0 xs) 0
digits_none xs = record { digits = tt; value = λ few. refl }

next_value : (xs : List ℕ) (i n x : ℕ) → i < length xs → i ≤ 17
    → digit_value (get_or xs i 0) ≡ x → x < 10 → IsDigits (take i xs) n
    → digits_value 10 (take (i + 1) xs) ≡ (n * 10 % 2 ^ 64 + x) % 2 ^ 64
next_value xs i n x inside few digit low so =
    let long : length (take i xs) ≡ i = length-take-le i xs (omega (arith, inside)) in
    let is : digits_value 10 (take i xs) ≡ n = so.value (omega (arith, long, few)) in
    let small : digits_value 10 (take i xs) < 10 ^ 17 =
    digits_value_short (numerals_by_value (AllDigits 10) tells_digits) (take i xs) 17 so.digits
    (omega (arith, long, few)) in
    omega (arith, digits_value_more 10 xs i inside, digit, low, is, small)

pub digits_next : (xs : List ℕ) (i n x : ℕ) → i < length xs → digit_value (get_or xs i 0) ≡ x
    → x < 10 → IsDigits (take i xs) n → IsDigits (take (i + 1) xs) ((n * 10 % 2 ^ 64 + x) % 2 ^ 64)
digits_next xs i n x inside digit low so = record {
  digits = digits_more 10 xs i inside so.digits (omega (arith, digit, low));
  value = λ few. next_value xs i n x inside
      (omega (arith, few, length-take-le (i + 1) xs (omega (arith, inside)))) digit low so;
}

-- from an offset on
pub digits_next_from : (d : List ℕ) (from at n x : ℕ) → from ≤ at → at < length d
    → digit_value (get_or d at 0) ≡ x → x < 10 → IsDigits (take (at - from) (drop from d)) n
    → IsDigits (take (at + 1 - from) (drop from d)) ((n * 10 % 2 ^ 64 + x) % 2 ^ 64)
digits_next_from d from at n x after inside digit low so =
    let here : from + (at - from) ≡ at = omega arith in
    let next : at - from + 1 ≡ at + 1 - from = omega arith in
    let same : get_or (drop from d) (at - from) 0 ≡ get_or d at 0 =
    get_or-drop from d (at - from) 0 ∙ ap (λ k. get_or d k 0) here in
    subst (λ k. IsDigits (take k (drop from d)) ((n * 10 % 2 ^ 64 + x) % 2 ^ 64)) next
    (digits_next (drop from d) (at - from) n x (omega (arith, length-drop from d))
    (ap digit_value same ∙ digit) low so)

-- the digits of a number that begins before or at the first of them
pub sized_there : (d : List ℕ) (from first end n : ℕ) → from ≤ first → first < end
    → ((get_or d from 0 == 45) ≡ false → first ≡ from) → end ≤ length d
    → IsDigits (take (end - first) (drop first d)) n → IsSized (take (end - from) (drop from d)) n
sized_there d from first end n after some same within so bare =
    let start : get_or (take (end - from) (drop from d)) 0 0 ≡ get_or d from 0 =
    get_or-take (end - from) (drop from d) 0 0 (omega arith) ∙ get_or-drop from d 0 0
    ∙ ap (λ k. get_or d k 0) (let e : from + 0 ≡ from = omega arith in e) in
    let is : first ≡ from = same (ap (λ x. x == 45) (sym start) ∙ bare) in
    let long : length (take (end - from) (drop from d)) ≡ end - from =
    length-take-le (end - from) (drop from d) (omega (arith, length-drop from d)) in
    (omega (arith, long), subst (λ k. IsDigits (take (end - k) (drop k d)) n) is so)
