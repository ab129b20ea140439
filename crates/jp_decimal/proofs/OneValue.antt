-- A text writes one number: the one that is read.
use Rattle.std.proofs.Common.{◌≡◌, ◌+◌, ◌-◌, ◌<◌, ◌++◌, ℕ, Bool, true, false, cond, ◌&&◌, ◌||◌, eqb}
use Rattle.std.proofs.Common.{List, [], ◌∷◌, length, get_or, arith, sym, ap, ◌∙◌, refl}
use Rattle.std.proofs.Common.{length-append, ◌⊎◌, inl, inr, lit<, add-zero}
use mathlib.Core.List.{append-nil, append_assoc}
use Rattle.std.specs.Prelude.{ℤ, pos, ◌-ℤ◌, slice_range}
use Rattle.std.specs.Char.{digit_value, is_ascii_digit}
use Rattle.std.specs.Int.{IsInRange}
use Rattle.std.specs.Fmt.{sign_text}
use Rattle.std.specs.List.{prefix_len}
use Rattle.std.specs.Str.Parse.{AllDigits, digits_value}
use Rattle.std.proofs.lemmas.Str.{digit_value_digit}
use Rattle.std.proofs.lemmas.Str.Parse.{digit_from_value}
use Rattle.std.specs.Float.Numeral.{scan_numeral}
use Rattle.std.proofs.Math.Seq.{get_or-append-add, drop_at, take_at}
use Rattle.fast_float.specs.Text.{digits_end, exponent_start, has_exponent, scan, with_sign}
use Rattle.jp_decimal.specs.Grammar.{AreDigits, IsExp, IsFrac, IsInt, Sign, Writes, is_minus}
use Rattle.jp_decimal.specs.Grammar.{text_of_sign, no_sign, plus_sign, minus_sign}
use Rattle.jp_decimal.specs.Scaled.{Scaled}
use Rattle.jp_decimal.specs.TextValue.{value_of_parts, value_of_text}

is-digit : (d : ℕ) → digit_value d < 10 → is_ascii_digit d ≡ true
is-digit d h = let r : IsInRange 48 57 d = digit_from_value d h in grind (arith, r)

not-sign : (d : ℕ) → digit_value d < 10 → (eqb d 45 ≡ false) × (eqb d 43 ≡ false)
not-sign d h = let r : IsInRange 48 57 d = digit_from_value d h in (grind (arith, r), grind (arith, r))

prefix-digits : (ds rest : List ℕ) → AllDigits 10 ds → prefix_len is_ascii_digit rest ≡ 0 → prefix_len is_ascii_digit (ds ++ rest) ≡ length ds
prefix-digits [] rest all stops = stops
prefix-digits (d ∷ ds) rest all stops = rw (is-digit d all.0) (omega (arith, prefix-digits ds rest all.1 stops))

module _ (front ds rest : List ℕ) (i : ℕ) (at : length front ≡ i) (digits : AllDigits 10 ds) (ends : prefix_len is_ascii_digit rest ≡ 0) where
  run-end : digits_end (front ++ (ds ++ rest)) i ≡ i + length ds
  run-end = rw (drop_at front _ i at, prefix-digits ds rest digits ends) refl

  run-is : slice_range (front ++ (ds ++ rest)) i (i + length ds) ≡ ds
  run-is = rw (drop_at front _ i at) (take_at ds rest (i + length ds - i) (omega arith))

byte-after : (front rest : List ℕ) (i k : ℕ) → length front ≡ i → get_or (front ++ rest) (i + k) 0 ≡ get_or rest k 0
byte-after front rest i k e = rw (← e) (get_or-append-add front rest k 0)

byte-at-end : (front rest : List ℕ) (i : ℕ) → length front ≡ i → get_or (front ++ rest) i 0 ≡ get_or rest 0 0
byte-at-end front rest i e = rw add-zero at (byte-after front rest i 0 e)

-- ---- the exponent
abbrev Tail : List ℕ → ℕ → ℤ → Type 0
Tail bs b power =
    with_sign (has_exponent bs b && eqb (get_or bs (b + 1) 0) 45)
    (digits_value 10 (cond (has_exponent bs b) (slice_range bs (exponent_start bs b) (digits_end bs (exponent_start bs b))) []))
    ≡ power

tail-of : (bs : List ℕ) (b c : ℕ) (negative : Bool) (ds : List ℕ) (power : ℤ) → has_exponent bs b ≡ true → exponent_start bs b ≡ c
    → eqb (get_or bs (b + 1) 0) 45 ≡ negative → digits_end bs c ≡ c + length ds → slice_range bs c (c + length ds) ≡ ds
    → power ≡ with_sign negative (digits_value 10 ds) → Tail bs b power
tail-of bs b c negative ds power has start sign end is value =
    let s : (has_exponent bs b && eqb (get_or bs (b + 1) 0) 45) ≡ negative = rw has sign in
    let t : cond (has_exponent bs b) (slice_range bs (exponent_start bs b) (digits_end bs (exponent_start bs b))) [] ≡ ds =
    rw (has, start, end) is in
    (λ i. with_sign (s i) (digits_value 10 (t i))) ∙ sym value

no-tail : (front : List ℕ) (b : ℕ) → length front ≡ b → Tail (front ++ []) b (pos 0)
no-tail front b at =
    let has : has_exponent (front ++ []) b ≡ false = rw (byte-at-end front [] b at) refl in rw has refl

e-passes : (e : ℕ) → (e ≡ 101) ⊎ (e ≡ 69) → (eqb e 101 || eqb e 69) ≡ true
e-passes e (inl h) = rw h refl
e-passes e (inr h) = rw h refl

some-tail : (front : List ℕ) (b e : ℕ) (sign : Sign) (ds : List ℕ) (power : ℤ) → length front ≡ b → (e ≡ 101) ⊎ (e ≡ 69)
    → AreDigits ds → power ≡ with_sign (is_minus sign) (digits_value 10 ds) → Tail (front ++ e ∷ (text_of_sign sign ++ ds)) b power
some-tail front b e no_sign [] power at is_e digits value = let no : ⊥ = omega (arith, digits.some) in absurd no
some-tail front b e plus_sign [] power at is_e digits value = let no : ⊥ = omega (arith, digits.some) in absurd no
some-tail front b e minus_sign [] power at is_e digits value = let no : ⊥ = omega (arith, digits.some) in absurd no
some-tail front b e no_sign (d ∷ ds) power at is_e digits value =
    let bs : List ℕ = front ++ e ∷ d ∷ ds in
    let next : get_or bs (b + 1) 0 ≡ d = byte-after front (e ∷ d ∷ ds) b 1 at in
    let n : (eqb d 45 ≡ false) × (eqb d 43 ≡ false) = not-sign d digits.all.0 in
    let start : exponent_start bs b ≡ b + 1 = rw (next, n.0, n.1) refl in
    let has : has_exponent bs b ≡ true = rw (start, next, byte-at-end front (e ∷ d ∷ ds) b at, e-passes e is_e) (is-digit d digits.all.0) in
    let cut : (front ++ e ∷ []) ++ ((d ∷ ds) ++ []) ≡ bs = rw (append-nil (d ∷ ds), append_assoc front (e ∷ []) (d ∷ ds)) refl in
    let long : length (front ++ e ∷ []) ≡ b + 1 = omega (arith, length-append front (e ∷ []), at) in
    tail-of bs b (b + 1) false (d ∷ ds) power has start (rw next n.0)
    (rw cut at (run-end (front ++ e ∷ []) (d ∷ ds) [] (b + 1) long digits.all refl)) (rw cut at (run-is (front ++ e ∷ []) (d ∷ ds) [] (b + 1) long digits.all refl)) value
some-tail front b e plus_sign (d ∷ ds) power at is_e digits value =
    let bs : List ℕ = front ++ e ∷ 43 ∷ d ∷ ds in
    let next : get_or bs (b + 1) 0 ≡ 43 = byte-after front (e ∷ 43 ∷ d ∷ ds) b 1 at in
    let start : exponent_start bs b ≡ b + 2 = rw next refl in
    let has : has_exponent bs b ≡ true = rw (start, byte-after front (e ∷ 43 ∷ d ∷ ds) b 2 at, byte-at-end front (e ∷ 43 ∷ d ∷ ds) b at, e-passes e is_e) (is-digit d digits.all.0) in
    let cut : (front ++ e ∷ 43 ∷ []) ++ ((d ∷ ds) ++ []) ≡ bs = rw (append-nil (d ∷ ds), append_assoc front (e ∷ 43 ∷ []) (d ∷ ds)) refl in
    let long : length (front ++ e ∷ 43 ∷ []) ≡ b + 2 = omega (arith, length-append front (e ∷ 43 ∷ []), at) in
    tail-of bs b (b + 2) false (d ∷ ds) power has start (rw next refl)
    (rw cut at (run-end (front ++ e ∷ 43 ∷ []) (d ∷ ds) [] (b + 2) long digits.all refl)) (rw cut at (run-is (front ++ e ∷ 43 ∷ []) (d ∷ ds) [] (b + 2) long digits.all refl)) value
some-tail front b e minus_sign (d ∷ ds) power at is_e digits value =
    let bs : List ℕ = front ++ e ∷ 45 ∷ d ∷ ds in
    let next : get_or bs (b + 1) 0 ≡ 45 = byte-after front (e ∷ 45 ∷ d ∷ ds) b 1 at in
    let start : exponent_start bs b ≡ b + 2 = rw next refl in
    let has : has_exponent bs b ≡ true = rw (start, byte-after front (e ∷ 45 ∷ d ∷ ds) b 2 at, byte-at-end front (e ∷ 45 ∷ d ∷ ds) b at, e-passes e is_e) (is-digit d digits.all.0) in
    let cut : (front ++ e ∷ 45 ∷ []) ++ ((d ∷ ds) ++ []) ≡ bs = rw (append-nil (d ∷ ds), append_assoc front (e ∷ 45 ∷ []) (d ∷ ds)) refl in
    let long : length (front ++ e ∷ 45 ∷ []) ≡ b + 2 = omega (arith, length-append front (e ∷ 45 ∷ []), at) in
    tail-of bs b (b + 2) true (d ∷ ds) power has start (rw next refl)
    (rw cut at (run-end (front ++ e ∷ 45 ∷ []) (d ∷ ds) [] (b + 2) long digits.all refl)) (rw cut at (run-is (front ++ e ∷ 45 ∷ []) (d ∷ ds) [] (b + 2) long digits.all refl)) value

abbrev HasTail : List ℕ → ℤ → Type 0
HasTail exp power = ((exp ≡ []) × (power ≡ pos 0)) ⊎ IsExp exp power

tail : (front exp : List ℕ) (b : ℕ) (power : ℤ) → length front ≡ b → HasTail exp power → Tail (front ++ exp) b power
tail front exp b power at (inl h) = rw (h.0, h.1) (no-tail front b at)
tail front exp b power at (inr h) = rw h.is (some-tail front b h.e h.sign h.digits power at h.is_e h.are_digits h.value)

-- what begins an exponent ends digits, and is no point
ends : (exp : List ℕ) (power : ℤ) → HasTail exp power → (prefix_len is_ascii_digit exp ≡ 0) × (eqb (get_or exp 0 0) 46 ≡ false)
ends exp power (inl h) = rw h.0 (refl, refl)
ends exp power (inr h) = rw h.is (elim h.is_e [ inl k ↦ rw k (refl, refl) | inr k ↦ rw k (refl, refl) ])

-- ---- the whole text
scan-is : (negative : Bool) (bs whole fraction : List ℕ) (power : ℤ) (point : Bool) (a b : ℕ) → digits_end bs 0 ≡ a → eqb (get_or bs a 0) 46 ≡ point
    → cond point (digits_end bs (a + 1)) a ≡ b → slice_range bs 0 a ≡ whole → cond point (slice_range bs (a + 1) b) [] ≡ fraction → Tail bs b power
    → value_of_parts negative (scan bs) ≡ record { coefficient = with_sign negative (digits_value 10 (whole ++ fraction)); exponent = power -ℤ pos (length fraction) }
unfolding scan_numeral
scan-is negative bs whole fraction power point a b ea ep eb ew ef t =
    rw (ea, ep, eb)
    (λ i. record { coefficient = with_sign negative (digits_value 10 (ew i ++ ef i)); exponent = t i -ℤ pos (length (ef i)) })

body : (negative : Bool) (int frac fraction exp : List ℕ) (power : ℤ) → AllDigits 10 int → IsFrac frac fraction → HasTail exp power
    → value_of_parts negative (scan (int ++ (frac ++ exp)))
    ≡ record { coefficient = with_sign negative (digits_value 10 (int ++ fraction)); exponent = power -ℤ pos (length fraction) }
body negative int frac fraction exp power all (inl h) t =
    let stop : (prefix_len is_ascii_digit exp ≡ 0) × (eqb (get_or exp 0 0) 46 ≡ false) = ends exp power t in
    let a : ℕ = 0 + length int in
    let at : length int ≡ a = omega arith in
    rw (h.0, h.1)
    (scan-is negative (int ++ exp) int [] power false a a (run-end [] int exp 0 refl all stop.0) (rw (byte-at-end int exp a at) stop.1) refl
    (run-is [] int exp 0 refl all stop.0) refl (tail int exp a power at t))
body negative int frac fraction exp power all (inr h) t =
    let stop : (prefix_len is_ascii_digit exp ≡ 0) × (eqb (get_or exp 0 0) 46 ≡ false) = ends exp power t in
    let a : ℕ = 0 + length int in
    let at : length int ≡ a = omega arith in
    let cut : (int ++ 46 ∷ []) ++ (fraction ++ exp) ≡ int ++ 46 ∷ (fraction ++ exp) = append_assoc int (46 ∷ []) (fraction ++ exp) in
    let long : length (int ++ 46 ∷ []) ≡ a + 1 = omega (arith, length-append int (46 ∷ [])) in
    let front : (int ++ 46 ∷ fraction) ++ exp ≡ int ++ 46 ∷ (fraction ++ exp) = append_assoc int (46 ∷ fraction) exp in
    rw h.0
    (scan-is negative (int ++ 46 ∷ (fraction ++ exp)) int fraction power true a (a + 1 + length fraction) (run-end [] int (46 ∷ (fraction ++ exp)) 0 refl all refl)
    (rw (byte-at-end int (46 ∷ (fraction ++ exp)) a at) refl) (rw cut at (run-end (int ++ 46 ∷ []) fraction exp (a + 1) long h.1.all stop.0))
    (run-is [] int (46 ∷ (fraction ++ exp)) 0 refl all refl) (rw cut at (run-is (int ++ 46 ∷ []) fraction exp (a + 1) long h.1.all stop.0))
    (rw front at (tail (int ++ 46 ∷ fraction) exp (a + 1 + length fraction) power (omega (arith, length-append int (46 ∷ fraction))) t)))

pub int-digits : (t : List ℕ) → IsInt t → AreDigits t
int-digits t (inl h) = rw h (record { some = lit< tt; all = (lit< tt, tt) })
int-digits t (inr h) =
    let r : IsInRange 48 57 h.0 = (omega (arith, h.3), h.4) in
    rw h.2 (record { some = omega arith; all = (omega (arith, digit_value_digit h.0 r, h.4), h.5) })

starts : (negative : Bool) (int rest : List ℕ) → AreDigits int
    → value_of_text (sign_text negative ++ (int ++ rest)) ≡ value_of_parts negative (scan (int ++ rest))
starts true int rest digits = refl
starts false [] rest digits = let no : ⊥ = omega (arith, digits.some) in absurd no
starts false (d ∷ ds) rest digits = rw (not-sign d digits.all.0).0 refl

-- what a text writes is what is read of it
pub one-value : (t : List ℕ) (x : Scaled) → Writes t x → value_of_text t ≡ x
one-value t x w =
    let digits : AreDigits w.int = int-digits w.int w.is_int in
    ap value_of_text w.is
    ∙ (starts w.negative w.int (w.frac ++ w.exp) digits
    ∙ (body w.negative w.int w.frac w.fraction w.exp w.power digits.all w.is_frac w.is_exp
    ∙ (λ i. record { coefficient = sym w.coefficient i; exponent = sym w.exponent i })))
