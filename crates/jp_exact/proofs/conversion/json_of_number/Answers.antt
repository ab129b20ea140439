use Rattle.std.proofs.Common.{◌≡◌, [], Some, None, map, reverse, sym, ap, ap₂, subst, ◌∙◌, rules}
use mir.Val.{of_z, to_z}
use Rattle.std.specs.Int.{w128, w32}
use Rattle.jp_decimal.specs.NormalForm.{normal_form}
use Rattle.jp_decimal.specs.TextValue.{value_of_text}
use Rattle.jp_decimal.specs.declared.number.Decimal.{Decimal as AsDecimal}
use Rattle.jp_decimal.specs.declared.number.Number.TheVariants.{Decimal}
use Rattle.jp_document.specs.Location.{owned_step}
use Rattle.jp_document.specs.NumberValue.{number_value}
use Rattle.jp_document.specs.Value.{decimal, value_of}
use Rattle.jp_document.specs.declared.value.Json.{Decimal as JsonDecimal}
use Rattle.jp_document.proofs.NumberValues.{value-held}
use Rattle.jp_exact.specs.Defects.{IsFirstUnheld}
use Rattle.jp_exact.proofs.Numbers.{first-number, value_of-Decimal}
use Rattle.jp_exact.proofs.conversion.json_of_number.Goals as goal

pub returns-in-Some-Decimal-clause-value : goal.returns-in-Some-Decimal-clause-value
returns-in-Some-Decimal-clause-value c =
    let d = c.in-Some-Decimal.decimal in
    let read = c.as_bytes.result.now in
    let text : read ≡ c.args.text.now = search rules in
    let is : Some (Decimal d) ≡ normal_form (value_of_text read) = search rules in
    let coefficient : to_z w128 (of_z w128 d.coefficient) ≡ d.coefficient = search rules in
    let exponent : to_z w32 (of_z w32 d.exponent) ≡ d.exponent = search rules in
    let IsMade : AsDecimal → Type 0 =
    λ n. value_of (JsonDecimal (to_z w32 (of_z w32 n.exponent)) (to_z w128 (of_z w128 n.coefficient)))
    ≡ number_value (value_of_text c.args.text.now) in
    let stands : IsMade d =
    value_of-Decimal (to_z w32 (of_z w32 d.exponent)) (to_z w128 (of_z w128 d.coefficient))
    ∙ ap₂ decimal coefficient exponent
    ∙ sym (value-held (value_of_text read) (Decimal d) (sym is))
    ∙ ap (λ s. number_value (value_of_text s)) text in
    subst IsMade (sym c.in-Some-Decimal.decimal-is) stands

pub returns-in-None-clause-fault : goal.returns-in-None-clause-fault
returns-in-None-clause-fault c =
    let read = c.as_bytes.result.now in
    let text : read ≡ c.args.text.now = search rules in
    let is : None ≡ normal_form (value_of_text read) = search rules in
    subst (IsFirstUnheld (number_value (value_of_text c.args.text.now)))
    (sym (ap (λ steps. reverse (map owned_step steps)) c.new.ensures.items))
    (subst (λ s. IsFirstUnheld (number_value (value_of_text s)) []) text
    (first-number (value_of_text read) (sym is)))
