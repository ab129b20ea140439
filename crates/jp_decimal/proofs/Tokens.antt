-- From the words of the lexer to the grammar of numbers.
use Rattle.std.proofs.Common.{◌≡◌, ◌+◌, ◌<◌, ◌++◌, ℕ, suc, Bool, true, false, cond, eqb, List, []}
use Rattle.std.proofs.Common.{◌∷◌, length, take, drop, Option, Some, None, arith, sym, ap, ◌∙◌}
use Rattle.std.proofs.Common.{refl, ◌⊎◌, inl, inr}
use mathlib.Core.List.{append-nil}
use Rattle.std.specs.Prelude.{ℤ, pos, ◌-ℤ◌, option_and_then}
use Rattle.std.specs.Char.{digit_value, is_ascii_digit}
use Rattle.std.specs.Fmt.{sign_text}
use Rattle.std.specs.Int.{IsInRange}
use Rattle.std.specs.List.{prefix_len}
use Rattle.std.specs.Str.Parse.{AllDigits, digits_value}
use Rattle.std.proofs.lemmas.Bool.{eqb-false, eqb-true}
use Rattle.std.proofs.lemmas.List.{take-append-drop}
use Rattle.std.proofs.lemmas.List.Folds.{length-prefix_len}
use Rattle.std.proofs.lemmas.Str.{digit_value_digit}
use Rattle.std.proofs.lemmas.Str.Parse.{digit_from_value}
use Rattle.fast_float.specs.Text.{with_sign}
use Rattle.json.specs.Word.{after_digits, after_exponent, after_fraction, after_minus, after_number}
use Rattle.json.specs.Word.{after_sign, after_whole}
use Rattle.jp_decimal.specs.Grammar.{AreDigits, IsExp, IsFrac, IsInt, Sign, Writes, is_minus}
use Rattle.jp_decimal.specs.Grammar.{text_of_sign, no_sign, plus_sign, minus_sign}
use Rattle.jp_decimal.specs.Scaled.{Scaled}

some-is : {A : Type 0} (x y : A) → Some x ≡ Some y → x ≡ y
some-is x y e = cc

and-then : {A B : Type 0} (f : A → Option B) (o : Option A) (y : B) → option_and_then f o ≡ Some y → (x : A) × (o ≡ Some x) × (f x ≡ Some y)
and-then f None y e = absurd (cc)
and-then f (Some x) y e = (x, refl, e)

-- ---- digits
digit-low : (c : ℕ) → is_ascii_digit c ≡ true → digit_value c < 10
digit-low c h = let r : IsInRange 48 57 c = grind arith in omega (arith, digit_value_digit c r, r)

front-more : (c : ℕ) (t : List ℕ) (b : Bool) → is_ascii_digit c ≡ b → AllDigits 10 (take (prefix_len is_ascii_digit t) t)
    → AllDigits 10 (take (prefix_len is_ascii_digit (c ∷ t)) (c ∷ t))
front-more c t true h all =
    let k : 1 + prefix_len is_ascii_digit t ≡ suc (prefix_len is_ascii_digit t) = omega arith in rw (h, k) (digit-low c h, all)
front-more c t false h all = rw h tt

front-digits : (t : List ℕ) → AllDigits 10 (take (prefix_len is_ascii_digit t) t)
front-digits [] = tt
front-digits (c ∷ t) = front-more c t (is_ascii_digit c) refl (front-digits t)

-- a text begins with a part, and goes on with the rest
record Begins (P : List ℕ → Type 0) (t rest : List ℕ) : Type 0 where
  part : List ℕ
  is : t ≡ part ++ rest
  holds : P part

taken-by : (t rest : List ℕ) (n : ℕ) (b : Bool) → prefix_len is_ascii_digit t ≡ n → eqb n 0 ≡ b
    → cond b None (Some (drop n t)) ≡ Some rest → Begins AreDigits t rest
taken-by t rest n true h z e = absurd (cc)
taken-by t rest n false h z e =
    let r : drop n t ≡ rest = some-is (drop n t) rest e in
    let all : AllDigits 10 (take n t) = rw h at (front-digits t) in
    let long : length (take n t) ≡ n = rw h at (length-prefix_len is_ascii_digit t) in
    record {
      part = take n t;
      is = sym (take-append-drop n t) ∙ ap (λ u. take n t ++ u) r;
      holds = record { some = omega (arith, long, eqb-false n 0 z); all = all };
    }

digits-taken : (t rest : List ℕ) → after_digits t ≡ Some rest → Begins AreDigits t rest
digits-taken t rest e = taken-by t rest (prefix_len is_ascii_digit t) (eqb (prefix_len is_ascii_digit t) 0) refl refl e

-- ---- the parts, one after another
minus-taken : (t : List ℕ) → (negative : Bool) × (t ≡ sign_text negative ++ after_minus t)
minus-taken [] = (false, refl)
minus-taken (c ∷ t) = by-minus (eqb c 45) refl
  where
    by-minus : (b : Bool) → eqb c 45 ≡ b → (negative : Bool) × (c ∷ t ≡ sign_text negative ++ after_minus (c ∷ t))
    by-minus true h = (true, rw h (ap (λ d. d ∷ t) (eqb-true c 45 h)))
    by-minus false h = (false, rw h refl)

first-of : (c : ℕ) (t ds rest : List ℕ) → c ∷ t ≡ ds ++ rest → AreDigits ds → eqb c 48 ≡ false → IsInt ds
first-of c t [] rest is digits z = let no : ⊥ = omega (arith, digits.some) in absurd no
first-of c t (d ∷ ds) rest is digits z =
    let r : IsInRange 48 57 d = digit_from_value d digits.all.0 in
    let e : c ≡ d = cc in
    inr (d, ds, refl, omega (arith, e, r, eqb-false c 48 z), r.1, digits.all.1)

whole-taken : (t rest : List ℕ) → after_whole t ≡ Some rest → Begins IsInt t rest
whole-taken [] rest e = absurd (cc)
whole-taken (c ∷ t) rest e = by-zero (eqb c 48) refl
  where
    by-zero : (b : Bool) → eqb c 48 ≡ b → Begins IsInt (c ∷ t) rest
    by-zero true h =
        let r : t ≡ rest = some-is t rest (rw h at e) in
        record { part = 48 ∷ []; is = (λ i. eqb-true c 48 h i ∷ r i); holds = inl refl }
    by-zero false h =
        let d : Begins AreDigits (c ∷ t) rest = digits-taken (c ∷ t) rest (rw h at e) in
        record { part = d.part; is = d.is; holds = first-of c t d.part rest d.is d.holds h }

record HasFraction (t rest : List ℕ) : Type 0 where
  frac : List ℕ
  digits : List ℕ
  is : t ≡ frac ++ rest
  holds : IsFrac frac digits

fraction-taken : (t rest : List ℕ) → after_fraction t ≡ Some rest → HasFraction t rest
fraction-taken [] rest e = record { frac = []; digits = []; is = some-is [] rest e; holds = inl (refl, refl) }
fraction-taken (c ∷ t) rest e = by-dot (eqb c 46) refl
  where
    by-dot : (b : Bool) → eqb c 46 ≡ b → HasFraction (c ∷ t) rest
    by-dot true h =
        let d : Begins AreDigits t rest = digits-taken t rest (rw h at e) in
        record { frac = 46 ∷ d.part; digits = d.part; is = (λ i. eqb-true c 46 h i ∷ d.is i); holds = inr (refl, d.holds) }
    by-dot false h = record { frac = []; digits = []; is = some-is (c ∷ t) rest (rw h at e); holds = inl (refl, refl) }

sign-taken : (t : List ℕ) → (sign : Sign) × (t ≡ text_of_sign sign ++ after_sign t)
sign-taken [] = (no_sign, refl)
sign-taken (c ∷ t) = by-signs (eqb c 45) (eqb c 43) refl refl
  where
    by-signs : (a b : Bool) → eqb c 45 ≡ a → eqb c 43 ≡ b → (sign : Sign) × (c ∷ t ≡ text_of_sign sign ++ after_sign (c ∷ t))
    by-signs true b h k = (minus_sign, rw h (ap (λ d. d ∷ t) (eqb-true c 45 h)))
    by-signs false true h k = (plus_sign, rw (h, k) (ap (λ d. d ∷ t) (eqb-true c 43 k)))
    by-signs false false h k = (no_sign, rw (h, k) refl)

record HasExponent (t : List ℕ) : Type 0 where
  power : ℤ
  holds : ((t ≡ []) × (power ≡ pos 0)) ⊎ IsExp t power

exponent-of-digits : (e : ℕ) (t : List ℕ) → (e ≡ 101) ⊎ (e ≡ 69) → after_digits (after_sign t) ≡ Some [] → HasExponent (e ∷ t)
exponent-of-digits e t is_e h =
    let s : (sign : Sign) × (t ≡ text_of_sign sign ++ after_sign t) = sign-taken t in
    let d : Begins AreDigits (after_sign t) [] = digits-taken (after_sign t) [] h in
    let same : after_sign t ≡ d.part = d.is ∙ append-nil d.part in
    record {
      power = with_sign (is_minus s.0) (digits_value 10 d.part);
      holds = inr (record {
        e = e;
        is_e = is_e;
        sign = s.0;
        digits = d.part;
        is = ap (λ u. e ∷ u) (s.1 ∙ ap (λ u. text_of_sign s.0 ++ u) same);
        are_digits = d.holds;
        value = refl;
      });
    }

exponent-taken : (t : List ℕ) → after_exponent t ≡ Some [] → HasExponent t
exponent-taken [] e = record { power = pos 0; holds = inl (refl, refl) }
exponent-taken (c ∷ t) e = by-e (eqb c 101) (eqb c 69) refl refl
  where
    by-e : (a b : Bool) → eqb c 101 ≡ a → eqb c 69 ≡ b → HasExponent (c ∷ t)
    by-e true b h k = exponent-of-digits c t (inl (eqb-true c 101 h)) (rw h at e)
    by-e false true h k = exponent-of-digits c t (inr (eqb-true c 69 k)) (rw (h, k) at e)
    by-e false false h k = absurd (let no : Some (c ∷ t) ≡ Some [] = rw (h, k) at e in let same : c ∷ t ≡ [] = some-is (c ∷ t) [] no in cc)

-- each text that is read as a number writes one
pub number-writes : (s : List ℕ) → after_number s ≡ Some [] → (x : Scaled) × Writes s x
unfolding after_number
number-writes s e =
    let m : (negative : Bool) × (s ≡ sign_text negative ++ after_minus s) = minus-taken s in
    let third : (r : List ℕ) × (option_and_then after_fraction (after_whole (after_minus s)) ≡ Some r) × (after_exponent r ≡ Some []) =
    and-then after_exponent (option_and_then after_fraction (after_whole (after_minus s))) [] e in
    let second : (r : List ℕ) × (after_whole (after_minus s) ≡ Some r) × (after_fraction r ≡ Some third.0) =
    and-then after_fraction (after_whole (after_minus s)) third.0 third.1 in
    let w : Begins IsInt (after_minus s) second.0 = whole-taken (after_minus s) second.0 second.1 in
    let f : HasFraction second.0 third.0 = fraction-taken second.0 third.0 second.2 in
    let x : HasExponent third.0 = exponent-taken third.0 third.2 in (
      record { coefficient = with_sign m.0 (digits_value 10 (w.part ++ f.digits)); exponent = x.power -ℤ pos (length f.digits) },
      record {
        negative = m.0;
        int = w.part;
        frac = f.frac;
        fraction = f.digits;
        exp = third.0;
        power = x.power;
        is = m.1 ∙ ap (λ t. sign_text m.0 ++ t) (w.is ∙ ap (λ t. w.part ++ t) f.is);
        is_int = w.holds;
        is_frac = f.holds;
        is_exp = x.holds;
        coefficient = refl;
        exponent = refl;
      },
    )
