-- What is kept of a line, as more of it comes.
use Rattle.std.proofs.Common.{◌≡◌, ℕ, zero, suc, ◌-◌, min, List, [], ◌∷◌, ◌++◌, length, take, refl, sym}
use Rattle.std.proofs.Common.{◌∙◌, ap, arith, Result, Ok, Err, OnOk, if◌then◌else◌}
use Rattle.std.specs.Result.{is_ok}
use Rattle.std.proofs.Math.Nat.{min_comm}
use Rattle.std.proofs.lemmas.List.{length-take, take_min}
use Rattle.jp_command.specs.Limits.{document_limit}
use Rattle.jp_lines.specs.Private.Passing.{kept_of}

-- the first of some items and of those behind them
pub take-append : {A : Type 0} (n : ℕ) (xs ys : List A)
    → take n (xs ++ ys) ≡ take n xs ++ take (n - length xs) ys
take-append zero [] ys = refl
take-append zero (x ∷ xs) ys =
    let none : 0 ≡ 0 - length (x ∷ xs) = omega arith in
    ap (λ n. take n ys) none
take-append (suc n) [] ys =
    let all : suc n ≡ suc n - 0 = omega arith in
    ap (λ k. take k ys) all
take-append (suc n) (x ∷ xs) ys =
    let less : n - length xs ≡ suc n - length (x ∷ xs) = omega arith in
    ap (λ l. x ∷ l) (take-append n xs ys ∙ ap (λ k. take n xs ++ take k ys) less)

-- where there is room, the next bytes are kept too
pub kept-more : (old begun bytes : List ℕ) → old ≡ kept_of begun
    → old ++ take (min (length bytes) (suc document_limit - length old)) bytes
    ≡ kept_of (begun ++ bytes)
kept-more old begun bytes is =
    let all = suc document_limit in
    let room : all - length old ≡ all - length begun =
    ap (λ l. all - length l) is ∙ omega (arith, length-take all begun) in
    ap (λ n. old ++ take n bytes) (min_comm (length bytes) (all - length old))
    ∙ ap (λ l. old ++ l) (take_min (all - length old) bytes)
    ∙ ap (λ n. old ++ take n bytes) room
    ∙ ap (λ l. l ++ take (all - length begun) bytes) is
    ∙ sym (take-append all begun bytes)

-- what follows where more was added follows from a success
pub on_added : {T E A : Type 0} (r : Result T E) (new old more : List ℕ)
    → new ≡ (if is_ok r then more else old) → (new ≡ more → A) → OnOk r A
on_added (Ok x) new old more added gives = gives added
on_added (Err e) new old more added gives = tt
