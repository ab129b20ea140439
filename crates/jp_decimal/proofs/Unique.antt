-- A number is held in one form.
use Rattle.std.proofs.Common.{◌≡◌, sym, ap, ◌∙◌, subst, Decides}
use Rattle.std.specs.Prelude.{ℤ, true}
use Rattle.std.proofs.lemmas.Bool.{false≢true}
use Rattle.std.proofs.lemmas.Bool.Decides.{Decides-and, Decides-int_eq, Decides-like}
use Rattle.jp_decimal.proofs.OutOfRange.{whole-is-found}
use Rattle.jp_decimal.proofs.Same.{one-form, same-itself, same-sym, times-one}
use Rattle.jp_decimal.specs.Number.{IsDecimal, IsNormal, is_in_64_bits, scaled_decimal, scaled_of}
use Rattle.jp_decimal.specs.Number.{unscaled}
use Rattle.jp_decimal.specs.Scaled.{SameNumber}
use Rattle.jp_decimal.specs.contracts.number.DecimalPartialEq.TheImpl as decimals
use Rattle.jp_decimal.specs.contracts.number.NumberPartialEq.TheImpl as numbers
use Rattle.jp_decimal.specs.declared.number.Decimal.{Decimal}
use Rattle.jp_decimal.specs.declared.number.Number.{Number}
use Rattle.jp_decimal.specs.declared.number.Number.TheVariants.{Whole, Decimal as AsDecimal}

-- a whole number of 64 bits is no decimal
pub kinds-apart : (z : ℤ) (d : Decimal) → is_in_64_bits z ≡ true → IsDecimal (scaled_decimal d)
    → SameNumber (unscaled z) (scaled_decimal d) → ⊥
kinds-apart z d fits normal same =
    false≢true (sym normal.apart ∙ whole-is-found z d.coefficient d.exponent fits normal.ends same)

pub one-normal : (m n : Number) → IsNormal m → IsNormal n → SameNumber (scaled_of m) (scaled_of n) → m ≡ n
one-normal (Whole y) (Whole z) p q same = ap Whole (sym (times-one y) ∙ (same ∙ times-one z))
one-normal (Whole z) (AsDecimal d) p q same = absurd (kinds-apart z d p q same)
one-normal (AsDecimal d) (Whole z) p q same = absurd (kinds-apart z d q p (same-sym (scaled_decimal d) (unscaled z) same))
one-normal (AsDecimal c) (AsDecimal d) p q same =
    let e : (c.coefficient ≡ d.coefficient) × (c.exponent ≡ d.exponent) =
    one-form (scaled_decimal c) (scaled_decimal d) p.ends q.ends same in
    λ i. AsDecimal (record { coefficient = e.0 i; exponent = e.1 i })

pub Decides-decimal : (c d : Decimal) → Decides (decimals.ghosts.eq c d) (c ≡ d)
Decides-decimal c d =
    Decides-like _
    (λ e. λ i. record { coefficient = e.0 i; exponent = e.1 i })
    (λ e. (ap (λ (x : Decimal). x.coefficient) e, ap (λ (x : Decimal). x.exponent) e))
    (Decides-and _ _ (Decides-int_eq c.coefficient d.coefficient) (Decides-int_eq c.exponent d.exponent))

pub Decides-number : (m n : Number) → Decides (numbers.ghosts.eq m n) (m ≡ n)
Decides-number (Whole y) (Whole z) = Decides-like _ (λ e. ap Whole e) (λ e. cc) (Decides-int_eq y z)
Decides-number (AsDecimal c) (AsDecimal d) = Decides-like _ (λ e. ap AsDecimal e) (λ e. cc) (Decides-decimal c d)
Decides-number _ _ = (λ h. cc, λ e. cc)

-- `==` of two numbers that are held says whether they are the same number
pub Decides-same : (m n : Number) → IsNormal m → IsNormal n
    → Decides (numbers.ghosts.eq m n) (SameNumber (scaled_of m) (scaled_of n))
Decides-same m n p q =
    Decides-like _ (λ e. subst (λ k. SameNumber (scaled_of m) (scaled_of k)) e (same-itself (scaled_of m)))
    (one-normal m n p q) (Decides-number m n)
