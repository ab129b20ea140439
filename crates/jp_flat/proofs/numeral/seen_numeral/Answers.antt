use Rattle.std.proofs.Common.{◌≡◌, ◌∙◌, ap, ap₂, sym, Some, rules}
use mir.Val.{of_z, to_z}
use Rattle.std.specs.Int.{w128, w32}
use Rattle.jp_decimal.specs.declared.number.Number.TheVariants.{Whole, Decimal}
use Rattle.jp_document.specs.Value.{whole, decimal}
use Rattle.jp_flat.specs.Flat.{shown}
use Rattle.jp_flat.specs.Private.Parts.{numeral_at}
use Rattle.jp_flat.proofs.Inside.{numeral-held, numeral-is}
use Rattle.jp_flat.proofs.numeral.seen_numeral.Goals as goal

pub returns-in-Some-Whole : goal.returns-in-Some-Whole
returns-in-Some-Whole c =
    let t = shown c.args.tables.now in
    let z = c.in-Some-Whole.whole in
    let is : Some (Whole z) ≡ numeral_at t c.args.span = search rules in
    let same : to_z w128 (of_z w128 z) ≡ z = search rules in
    ap whole same ∙ numeral-is t c.args.span (Whole z) c.requires is

pub returns-in-Some-Decimal : goal.returns-in-Some-Decimal
returns-in-Some-Decimal c =
    let t = shown c.args.tables.now in
    let d = c.in-Some-Decimal.decimal in
    let is : Some (Decimal d) ≡ numeral_at t c.args.span = search rules in
    let coefficient : to_z w128 (of_z w128 d.coefficient) ≡ d.coefficient = search rules in
    let exponent : to_z w32 (of_z w32 d.exponent) ≡ d.exponent = search rules in
    ap₂ decimal coefficient exponent ∙ numeral-is t c.args.span (Decimal d) c.requires is

pub returns-in-None : goal.returns-in-None
returns-in-None c =
    absurd
    (numeral-held (shown c.args.tables.now) c.args.span c.requires
    (sym c.in-None.is ∙ c.numeral_at.ensures))
