-- The form that a number is held in is right, and there is one answer.
use Rattle.std.proofs.Common.{◌≡◌, ◌≢◌, ◌+◌, ◌*◌, ◌/◌, ◌%◌, ◌^◌, ◌<◌, ◌≤◌, ℕ, zero, suc, Bool, true}
use Rattle.std.proofs.Common.{false, cond, eqb, Option, Some, None, arith, subst, sym, ap, ◌∙◌}
use Rattle.std.proofs.Common.{refl}
use Rattle.std.specs.Prelude.{ℤ, pos, negsuc, ◌+ℤ◌, ◌-ℤ◌, ◌*ℤ◌, unsigned_abs}
use Rattle.std.specs.Option.{MatchOption}
use Rattle.std.proofs.lemmas.Bool.{eqb-false, eqb-true, false≢true}
use Rattle.std.proofs.lemmas.Int.{ints}
use Rattle.fast_float.specs.Text.{with_sign}
use Rattle.jp_decimal.proofs.OutOfRange.{whole-is-found}
use Rattle.jp_decimal.proofs.Moved.{answer-shifted, signed_at}
use Rattle.jp_decimal.proofs.Order.{from_zero-is}
use Rattle.jp_decimal.proofs.ReadBack.{signed-back}
use Rattle.jp_decimal.proofs.Runs.{strip}
use Rattle.jp_decimal.proofs.Same.{one-form, same-sym, same-trans, signed-size, times-one}
use Rattle.jp_decimal.proofs.Told.{decimal-told}
use Rattle.jp_decimal.proofs.Unique.{one-normal}
use Rattle.jp_decimal.specs.Scaled.{is_below_zero}
use Rattle.jp_decimal.specs.NormalForm.{IsHeldAs, IsOutOfRange, normal_form, normal_number}
use Rattle.jp_decimal.specs.NormalForm.{normal_signed, without_zeros}
use Rattle.jp_decimal.specs.Number.{is_decimal, is_whole_64, scaled_decimal, scaled_of, unscaled}
use Rattle.jp_decimal.specs.Scaled.{Scaled, SameNumber, from_zero}
use Rattle.jp_decimal.specs.declared.number.Number.{Number}
use Rattle.jp_decimal.specs.declared.number.Number.TheVariants.{Whole, Decimal}

-- ---- zeros at the end
record IsStripped (v z : ℕ) (s : ℕ × ℕ) : Type 0 where
  value : s.0 * 10 ^ s.1 ≡ v * 10 ^ z
  ends : s.0 % 10 ≢ 0

strips : (most v z : ℕ) → 0 < v → v ≤ most → IsStripped v z (without_zeros most v z)
strips zero v z some few = let no : ⊥ = omega arith in absurd no
strips (suc most) v z some few = by-end (eqb (v % 10) 0) refl (λ b. strips most (v / 10) (suc z) b (omega arith))
  where
    by-end : (b : Bool) → eqb (v % 10) 0 ≡ b → (0 < v / 10 → IsStripped (v / 10) (suc z) (without_zeros most (v / 10) (suc z)))
        → IsStripped v z (cond b (without_zeros most (v / 10) (suc z)) (v, z))
    by-end true h more =
        let e : z + 1 ≡ suc z = omega arith in
        let t : (0 < v / 10) × (v / 10 * 10 ^ (z + 1) ≡ v * 10 ^ z) = strip v z (v * 10 ^ z) some refl (eqb-true (v % 10) 0 h) in
        let s : IsStripped (v / 10) (suc z) (without_zeros most (v / 10) (suc z)) = more t.0 in
        record { value = s.value ∙ (ap (λ k. v / 10 * 10 ^ k) (sym e) ∙ t.1); ends = s.ends }
    by-end false h more = record { value = refl; ends = eqb-false (v % 10) 0 h }

-- ---- numbers that do not end in 0
abbrev IsAnswer : Scaled → Option Number → Type 0
IsAnswer x r = MatchOption r (IsOutOfRange x) (IsHeldAs x)

whole-same : (c : ℤ) (n : ℕ) → SameNumber (unscaled (c *ℤ pos (10 ^ n))) (record { coefficient = c; exponent = pos n })
whole-same c n =
    let i : from_zero (pos 0 -ℤ pos n) ≡ 0 = omega (arith, ints, from_zero-is (pos 0 -ℤ pos n)) in
    let j : from_zero (pos n -ℤ pos 0) ≡ n = omega (arith, ints, from_zero-is (pos n -ℤ pos 0)) in
    ap (λ k. c *ℤ pos (10 ^ n) *ℤ pos (10 ^ k)) i ∙ (times-one (c *ℤ pos (10 ^ n)) ∙ ap (λ k. c *ℤ pos (10 ^ k)) (sym j))

whole-holds : (c e : ℤ) → is_whole_64 c e ≡ true → IsHeldAs (record { coefficient = c; exponent = e }) (Whole (c *ℤ pos (10 ^ from_zero e)))
whole-holds c (pos n) h = record { normal = h; same = whole-same c n }
whole-holds c (negsuc n) h = absurd (false≢true h)

none-holds : (c e : ℤ) → unsigned_abs c % 10 ≢ 0 → is_whole_64 c e ≡ false → is_decimal c e ≡ false → IsOutOfRange (record { coefficient = c; exponent = e })
none-holds c e ends apart long (Whole z) normal same =
    false≢true (sym apart ∙ whole-is-found z c e normal ends same)
none-holds c e ends apart long (Decimal d) normal same =
    let x : Scaled = record { coefficient = c; exponent = e } in
    let f : (d.coefficient ≡ c) × (d.exponent ≡ e) = one-form (scaled_decimal d) x normal.ends ends same in
    let told : is_decimal d.coefficient d.exponent ≡ true = (decimal-told (scaled_decimal d)).1 normal in
    false≢true (sym long ∙ ((λ i. is_decimal (sym f.0 i) (sym f.1 i)) ∙ told))

form-right : (c e : ℤ) → unsigned_abs c % 10 ≢ 0 → IsAnswer (record { coefficient = c; exponent = e }) (normal_number c e)
form-right c e ends = by-tests (is_whole_64 c e) (is_decimal c e) refl refl
  where
    by-tests : (a b : Bool) → is_whole_64 c e ≡ a → is_decimal c e ≡ b
        → IsAnswer (record { coefficient = c; exponent = e })
        (cond a (Some (Whole (c *ℤ pos (10 ^ from_zero e)))) (cond b (Some (Decimal (record { coefficient = c; exponent = e }))) None))
    by-tests true b h k = whole-holds c e h
    by-tests false true h k = record { normal = (decimal-told (record { coefficient = c; exponent = e })).0 k; same = refl }
    by-tests false false h k = none-holds c e ends h k

-- ---- any numbers
zero-is : (c : ℤ) → unsigned_abs c ≡ 0 → c ≡ pos 0
zero-is (pos n) h = ap pos h
zero-is (negsuc n) h = let no : ⊥ = omega (arith, h) in absurd no

zero-same : (e : ℤ) → SameNumber (unscaled (pos 0)) (record { coefficient = pos 0; exponent = e })
zero-same e = ap pos (omega arith)

pub normal_form-right : (x : Scaled) → MatchOption (normal_form x) (IsOutOfRange x) (IsHeldAs x)
normal_form-right x = by-zero (eqb (unsigned_abs x.coefficient) 0) refl
  where
    by-zero : (b : Bool) → eqb (unsigned_abs x.coefficient) 0 ≡ b
        → IsAnswer x (cond b (Some (Whole (pos 0))) (normal_signed (is_below_zero x.coefficient) x.exponent
        (without_zeros (unsigned_abs x.coefficient) (unsigned_abs x.coefficient) 0)))
    by-zero true h =
        let e : x.coefficient ≡ pos 0 = zero-is x.coefficient (eqb-true (unsigned_abs x.coefficient) 0 h) in
        record {
          normal = refl;
          same = subst (λ c. SameNumber (unscaled (pos 0)) (record { coefficient = c; exponent = x.exponent })) (sym e) (zero-same x.exponent);
        }
    by-zero false h =
        let v : ℕ = unsigned_abs x.coefficient in
        let sign : Bool = is_below_zero x.coefficient in
        let some : 0 < v = omega (arith, eqb-false (unsigned_abs x.coefficient) 0 h) in
        let s : ℕ × ℕ = without_zeros v v 0 in
        let t : IsStripped v 0 s = strips v v 0 some (omega arith) in
        let f : ℤ = x.exponent +ℤ pos s.1 in
        let ends : unsigned_abs (with_sign sign s.0) % 10 ≢ 0 = rw (signed-size sign s.0) t.ends in
        let answer : IsAnswer (signed_at sign s.0 f) (normal_number (with_sign sign s.0) f) = form-right (with_sign sign s.0) f ends in
        let value : s.0 * 10 ^ s.1 ≡ v = omega (arith, t.value) in
        let right : IsAnswer (signed_at sign v x.exponent) (normal_number (with_sign sign s.0) f) =
        answer-shifted sign s.0 s.1 v x.exponent f (normal_number (with_sign sign s.0) f) answer value refl in
        subst (λ c. IsAnswer (record { coefficient = c; exponent = x.exponent }) (normal_number (with_sign sign s.0) f)) (signed-back x.coefficient) right

-- there is one answer
pub one-answer : (x : Scaled) (r s : Option Number) → MatchOption r (IsOutOfRange x) (IsHeldAs x) → MatchOption s (IsOutOfRange x) (IsHeldAs x) → r ≡ s
one-answer x None None p q = refl
one-answer x None (Some n) p q = absurd (p n q.normal q.same)
one-answer x (Some m) None p q = absurd (q m p.normal p.same)
one-answer x (Some m) (Some n) p q =
    ap Some (one-normal m n p.normal q.normal (same-trans (scaled_of m) x (scaled_of n) p.same (same-sym (scaled_of n) x q.same)))
