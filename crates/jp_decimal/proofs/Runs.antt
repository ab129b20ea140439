-- Digits, one after another: a number that does not end in 0, and zeros behind it.
use Rattle.std.proofs.Common.{◌≡◌, ◌≢◌, ◌+◌, ◌-◌, ◌*◌, ◌/◌, ◌%◌, ◌^◌, ◌<◌, ◌≤◌, ◌++◌, ℕ, zero, suc}
use Rattle.std.proofs.Common.{List, [], ◌∷◌, length, drop, get_or, min, arith, subst, sym, ap, ◌∙◌}
use Rattle.std.proofs.Common.{refl}
use Rattle.std.proofs.lemmas.Nat.{pow-add}
use Rattle.std.specs.Char.{digit_value}
use Rattle.std.specs.Int.{IsInRange}
use Rattle.std.specs.Str.Parse.{AllDigits, digits_value_after}
use Rattle.std.proofs.Math.Seq.{drop-cons}
use Rattle.std.proofs.lemmas.Str.{digit_value_digit}
use Rattle.std.proofs.lemmas.Str.Parse.{digit_at}
use Rattle.jp_decimal.specs.declared.digits.Run.{Run}
use Rattle.jp_decimal.specs.Private.Runs.{IsLong, IsRun, run_value}

pub tens-more : (z : ℕ) → 10 ^ (z + 1) ≡ 10 ^ z * 10
tens-more z = pow-add 10 z 1

-- more than 38 digits, the last of which is not 0
pub long-digit : (v d : ℕ) → 10 ^ 38 ≤ v * 10 + d → d ≢ 0 → d < 10 → IsLong (v * 10 + d)
long-digit v d large some low c zero e = omega (arith, e)
long-digit v d large some low c (suc z) e =
    let m : 10 ^ suc z ≡ 10 ^ z * 10 = ap (λ n. 10 ^ n) (omega arith) ∙ tens-more z in
    let p : c * (10 ^ z * 10) ≡ c * 10 ^ z * 10 = omega arith in
    let q : c * 10 ^ z * 10 ≡ v * 10 + d = sym p ∙ (ap (λ n. c * n) (sym m) ∙ e) in
    let no : ⊥ = some (omega (arith, q)) in absurd no

-- one more digit
pub long-more : (v d : ℕ) → d < 10 → IsLong v → IsLong (v * 10 + d)
long-more v d low long c zero e = let k : 10 ^ 38 ≤ v = long v 0 (omega arith) in omega (arith, e, k)
long-more v d low long c (suc z) e =
    let m : 10 ^ suc z ≡ 10 ^ z * 10 = ap (λ n. 10 ^ n) (omega arith) ∙ tens-more z in
    let p : c * (10 ^ z * 10) ≡ c * 10 ^ z * 10 = omega arith in
    let q : c * 10 ^ z * 10 ≡ v * 10 + d = sym p ∙ (ap (λ n. c * n) (sym m) ∙ e) in
    long c z (omega (arith, q))

-- the same with the power written out
pub times-more : (size z d : ℕ) → size * 10 ^ (z + 1) + d ≡ size * 10 ^ z * 10 + d
times-more size z d =
    let m : size * (10 ^ z * 10) ≡ size * 10 ^ z * 10 = omega arith in
    ap (λ n. n + d) (ap (λ n. size * n) (tens-more z) ∙ m)

pub one-zero : (run : Run) (d : ℕ) → IsRun run → d ≡ 0
    → let next : Run = record { size = run.size; zeros = run.zeros + 1 } in
    IsRun next × (run_value next ≡ run_value run * 10 + d) × (next.zeros ≤ run.zeros + 1)
one-zero run d so none =
    (record { short = so.short; ends = so.ends }, omega (arith, times-more run.size run.zeros 0, none), omega arith)

pub one-digit : (run : Run) (d size : ℕ) → d ≢ 0 → d < 10
    → size ≡ run.size * 10 ^ (run.zeros + 1) + d → run.size * 10 ^ (run.zeros + 1) + d < 10 ^ 38
    → let next : Run = record { size = size; zeros = 0 } in
    IsRun next × (run_value next ≡ run_value run * 10 + d) × (next.zeros ≤ run.zeros + 1)
one-digit run d size some low is small =
    let e : size ≡ run.size * 10 ^ run.zeros * 10 + d = is ∙ times-more run.size run.zeros d in
    let ends : size % 10 ≢ 0 = omega (arith, e, some, low) in
    (record { short = omega (arith, is, small); ends = λ _. ends }, omega (arith, e), omega arith)

pub no-digit : (run : Run) (d : ℕ) → d ≢ 0 → d < 10
    → (run.size * 10 ^ (run.zeros + 1) + d < 10 ^ 38 → ⊥) → IsLong (run_value run * 10 + d)
no-digit run d some low large =
    long-digit (run_value run) d (omega (arith, times-more run.size run.zeros d, large)) some low

-- ---- more digits
pub long-stays : (v : ℕ) (ds : List ℕ) → AllDigits 10 ds → IsLong v → IsLong (digits_value_after 10 v ds)
long-stays v [] all long = long
long-stays v (d ∷ ds) all long = long-stays (v * 10 + digit_value d) ds all.1 (long-more v (digit_value d) all.0 long)

pub after-append : (v : ℕ) (xs ys : List ℕ)
    → digits_value_after 10 v (xs ++ ys) ≡ digits_value_after 10 (digits_value_after 10 v xs) ys
after-append v [] ys = refl
after-append v (x ∷ xs) ys = after-append (v * 10 + digit_value x) xs ys

pub after-one : (v i : ℕ) (ds : List ℕ) → i < length ds
    → digits_value_after 10 v (drop i ds) ≡ digits_value_after 10 (v * 10 + digit_value (get_or ds i 0)) (drop (i + 1) ds)
after-one v i ds h =
    let e : suc i ≡ i + 1 = omega arith in
    ap (digits_value_after 10 v) (drop-cons ds i 0 h)
    ∙ ap (λ k. digits_value_after 10 (v * 10 + digit_value (get_or ds i 0)) (drop k ds)) e

-- a digit's value is its code less that of 0
pub code-value : (ds : List ℕ) (i : ℕ) → AllDigits 10 ds → i < length ds
    → (48 ≤ get_or ds i 0) × (digit_value (get_or ds i 0) ≡ get_or ds i 0 - 48) × (digit_value (get_or ds i 0) < 10)
code-value ds i all h =
    let r : IsInRange 48 57 (get_or ds i 0) = digit_at ds i all h in
    let e : digit_value (get_or ds i 0) + 48 ≡ get_or ds i 0 = digit_value_digit (get_or ds i 0) r in
    (omega (arith, r, e), omega (arith, r, e), omega (arith, r, e))

pub all-dropped : (k : ℕ) (ds : List ℕ) → AllDigits 10 ds → AllDigits 10 (drop k ds)
all-dropped zero ds all = all
all-dropped (suc k) [] all = tt
all-dropped (suc k) (d ∷ ds) all = all-dropped k ds all.1

pub capped-same : (a b : ℕ) (ds : List ℕ) → min a (2 ^ 64) ≡ min b (2 ^ 64)
    → min (digits_value_after 10 a ds) (2 ^ 64) ≡ min (digits_value_after 10 b ds) (2 ^ 64)
capped-same a b [] e = e
capped-same a b (d ∷ ds) e = capped-same (a * 10 + digit_value d) (b * 10 + digit_value d) ds (omega arith)

-- the next digit, by its code
pub after-code : (v i : ℕ) (ds : List ℕ) → AllDigits 10 ds → i < length ds
    → digits_value_after 10 (v * 10 + (get_or ds i 0 - 48)) (drop (i + 1) ds) ≡ digits_value_after 10 v (drop i ds)
after-code v i ds all h =
    sym (after-one v i ds h ∙ ap (λ d. digits_value_after 10 (v * 10 + d) (drop (i + 1) ds)) (code-value ds i all h).1)

pub long-on : (v i w : ℕ) (ds : List ℕ) → AllDigits 10 ds → i < length ds → digits_value_after 10 v (drop i ds) ≡ w
    → IsLong (v * 10 + (get_or ds i 0 - 48)) → IsLong w
long-on v i w ds all h is long =
    subst (λ n. IsLong n) (after-code v i ds all h ∙ is)
    (long-stays (v * 10 + (get_or ds i 0 - 48)) (drop (i + 1) ds) (all-dropped (i + 1) ds all) long)

-- ---- zeros at the end, taken away one after another
pub strip : (size z n : ℕ) → 0 < size → size * 10 ^ z ≡ n → size % 10 ≡ 0
    → (0 < size / 10) × (size / 10 * 10 ^ (z + 1) ≡ n)
strip size z n some is ends =
    let q : ℕ = size / 10 in
    let e : q * 10 ≡ size = omega (arith, ends) in
    let m : q * 10 ^ z * 10 ≡ q * 10 * 10 ^ z = omega arith in
    let t : q * 10 ^ (z + 1) + 0 ≡ q * 10 ^ z * 10 + 0 = times-more q z 0 in
    let p : q * 10 * 10 ^ z ≡ size * 10 ^ z = ap (λ k. k * 10 ^ z) e in
    (omega (arith, e, some), omega (arith, m, t, p, is))

pub all-first : (xs ys : List ℕ) → AllDigits 10 (xs ++ ys) → AllDigits 10 xs
all-first [] ys all = tt
all-first (x ∷ xs) ys all = (all.0, all-first xs ys all.1)

pub all-second : (xs ys : List ℕ) → AllDigits 10 (xs ++ ys) → AllDigits 10 ys
all-second [] ys all = all
all-second (x ∷ xs) ys all = all-second xs ys all.1
