-- Truth values: for every proof with a test in it.
use Rattle.std.proofs.Common.{◌≡◌, ◌↔◌, ◌⊎◌, inl, inr, Bool, true, false, not, ◌||◌, ◌&&◌, refl}
use Rattle.std.specs.Bool.{IsTrue}

pub or_is : (a b : Bool) → IsTrue (a || b) ↔ (IsTrue a ⊎ IsTrue b)
or_is true b = (λ h. inl refl, λ h. refl)
or_is false b = (λ h. inr h, λ h. elim h [ inl x ↦ absurd (cc) | inr y ↦ y ])

pub and_is : (a b : Bool) → IsTrue (a && b) ↔ (IsTrue a × IsTrue b)
and_is true b = (λ h. (refl, h), λ h. h.1)
and_is false b = (λ h. absurd (cc), λ h. h.0)

pub or_assoc : (a b c : Bool) → ((a || b) || c) ≡ (a || (b || c))
or_assoc true b c = refl
or_assoc false b c = refl

pub or_false : (a : Bool) → (a || false) ≡ a
or_false true = refl
or_false false = refl

pub not_both : (b : Bool) → IsTrue (not b) → IsTrue b → ⊥
not_both true n h = cc
not_both false n h = cc

pub not_false : (b : Bool) → b ≡ false → IsTrue b → ⊥
not_false true n h = cc
not_false false n h = cc

pub is_false : (b : Bool) → IsTrue (not b) → b ≡ false
is_false true n = absurd (cc)
is_false false n = refl

pub and_false : (b : Bool) → (b && false) ≡ false
and_false true = refl
and_false false = refl

pub and_true : (b : Bool) → (b && true) ≡ b
and_true true = refl
and_true false = refl

-- facts that stand together as their tests do
pub then_iff : {P Q R : Type 0} → P ↔ Q → Q ↔ R → P ↔ R
then_iff h k = (λ p. k.0 (h.0 p), λ r. h.1 (k.1 r))

pub or_iff : {a b : Bool} {P Q : Type 0} → IsTrue a ↔ P → IsTrue b ↔ Q → IsTrue (a || b) ↔ (P ⊎ Q)
or_iff {a} {b} h k = then_iff (or_is a b) (
  λ e. elim e [ inl x ↦ inl (h.0 x) | inr y ↦ inr (k.0 y) ],
  λ e. elim e [ inl p ↦ inl (h.1 p) | inr q ↦ inr (k.1 q) ],
)

pub and_iff : {a b : Bool} {P Q : Type 0} → IsTrue a ↔ P → IsTrue b ↔ Q → IsTrue (a && b) ↔ (P × Q)
and_iff {a} {b} h k = then_iff (and_is a b) (
  λ both. (h.0 both.0, k.0 both.1),
  λ both. (h.1 both.0, k.1 both.1),
)

pub same_iff : (a : Bool) → IsTrue a ↔ IsTrue a
same_iff a = (λ h. h, λ h. h)
