-- Digits and zeros as they are written.
use Rattle.std.proofs.Common.{◌≡◌, ◌+◌, ◌-◌, ◌<◌, ◌++◌, ℕ, zero, suc, List, [], ◌∷◌, arith, ap, ◌∙◌}
use Rattle.std.proofs.Common.{refl, append_assoc}
use Rattle.jp_decimal.specs.Appended.{IsBegun}
use Rattle.jp_decimal.specs.NumberText.{zeros}

pub zeros-more : (n : ℕ) → zeros n ++ (48 ∷ []) ≡ zeros (n + 1)
zeros-more zero = refl
zeros-more (suc n) =
    let e : suc (n + 1) ≡ suc n + 1 = omega arith in
    ap (λ ds. 48 ∷ ds) (zeros-more n) ∙ ap zeros e

pub one-more-zero : (before now next : List ℕ) (n : ℕ) → now ≡ before ++ zeros n → next ≡ now ++ (48 ∷ []) → next ≡ before ++ zeros (n + 1)
one-more-zero before now next n e f =
    f ∙ (ap (λ t. t ++ (48 ∷ [])) e ∙ (append_assoc before (zeros n) (48 ∷ []) ∙ ap (λ t. before ++ t) (zeros-more n)))

pub zeros-append : (m n : ℕ) → zeros (m + n) ≡ zeros m ++ zeros n
zeros-append zero n = let e : 0 + n ≡ n = omega arith in ap zeros e
zeros-append (suc m) n =
    let e : suc m + n ≡ suc (m + n) = omega arith in
    ap zeros e ∙ ap (λ ds. 48 ∷ ds) (zeros-append m n)

-- of n zeros the first i
pub some-zeros : (before now next : List ℕ) (i n : ℕ) → i < n → now ≡ before ++ zeros i → next ≡ now
    → IsBegun before (zeros n) next
some-zeros before now next i n h at is =
    let e : n ≡ i + (n - i) = omega (arith, h) in
    record { done = zeros i; rest = zeros (n - i); begun = ap zeros e ∙ zeros-append i (n - i); appended = is ∙ at }
