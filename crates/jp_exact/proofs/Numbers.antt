-- A number that can't be held is out of range by itself: for `json_of_number`.
use Rattle.std.proofs.Common.{◌≡◌, ℤ, Bool, true, false, [], None, refl, sym, ap, ◌∙◌, rules}
use Rattle.std.proofs.Common.{if◌then◌else◌}
use Rattle.jp_decimal.specs.NormalForm.{normal_form}
use Rattle.jp_decimal.specs.Scaled.{Scaled}
use Rattle.jp_document.specs.NumberValue.{number_value}
use Rattle.jp_document.specs.Value.{Value, decimal, everywhere, is_allowed, value_of}
use Rattle.jp_document.specs.declared.value.Json.{Decimal, the_lemmas}
use Rattle.jp_document.proofs.NumberValues.{number-always, value-unheld}
use Rattle.jp_exact.specs.Defects.{IsFirstUnheld, is_held}
use Rattle.jp_exact.proofs.OutOfRange.{first-itself}

pub value_of-Decimal : (e c : ℤ) → value_of (Decimal e c) ≡ decimal c e
value_of-Decimal e c = search (rules, the_lemmas)

-- of a number that no document may have, whether it is held
abbrev unless_allowed : Value → Bool
unless_allowed v = if everywhere is_allowed v then false else is_held v

never-held : (b : Bool) → (if b then false else b) ≡ false
never-held true = refl
never-held false = refl

unheld : (x : Scaled) → everywhere is_allowed (number_value x) ≡ false
    → is_held (number_value x) ≡ false
unheld x is =
    ap (λ b. if b then false else is_held (number_value x)) (sym is)
    ∙ number-always unless_allowed (λ z fit. ap (λ b. if b then false else true) fit)
    (λ c e. never-held (everywhere is_allowed (decimal c e))) x

pub first-number : (x : Scaled) → normal_form x ≡ None → IsFirstUnheld (number_value x) []
first-number x is = first-itself (number_value x) (unheld x (value-unheld x is))
