use Rattle.std.proofs.Common.{◌≡◌, ◌++◌, ◌^◌, ◌<◌, ◌∙◌, List, ℕ, [], OnOk, ap, sym, subst, arith, cond}
use Rattle.std.proofs.Common.{append-nil, string_bytes, true, false, codes}
use mathlib.Core.List.{append_assoc}
use Rattle.std.specs.List.{list_any}
use Rattle.std.specs.Prelude.{unsigned_abs}
use Rattle.std.specs.Str.{IsAscii, chars}
use Rattle.std.specs.Int.{w32, w128}
use Rattle.std.proofs.lemmas.Int.{ints, to_z-of_z}
use Rattle.std.proofs.lemmas.Str.{chars-IsAscii}
use Rattle.jp_decimal.specs.NumberText.{number_text}
use Rattle.jp_decimal.specs.declared.number.Decimal.{Decimal}
use Rattle.jp_decimal.specs.declared.number.Number.TheVariants.{Decimal as AsDecimal}
use Rattle.jp_decimal.proofs.AsciiText.{decimal-ascii}
use Rattle.jp_canon.specs.NumeralText.{is_point}
use Rattle.jp_canon.proofs.values.write_decimal.Goals as goal

pub returns-then-has_point : goal.returns-then-has_point
returns-then-has_point c =
    let d : Decimal = record { coefficient = c.args.coefficient; exponent = c.args.exponent } in
    let t : List ℕ = number_text (AsDecimal d) in
    let out = c.args.out.now in
    let short : unsigned_abs d.coefficient < 10 ^ 64 = omega (arith, ints, c.ranges.coefficient.sfits) in
    let small : unsigned_abs d.exponent < 10 ^ 63 = omega (arith, ints, c.ranges.exponent.sfits) in
    let ascii : IsAscii t = decimal-ascii d short small in
    let bytes : string_bytes c.push_number.new.text ≡ t =
    c.in_ok-push_number.ensures.ok
    ∙ (λ i. c.new-text.ensures.bytes i ++ number_text (AsDecimal (record {
      coefficient = to_z-of_z w128 c.args.coefficient c.ranges.coefficient i;
      exponent = to_z-of_z w32 c.args.exponent c.ranges.exponent i;
    }))) in
    let pointed : list_any is_point t ≡ true =
    ap (list_any is_point) (sym bytes ∙ sym c.as_bytes.ensures.value) ∙ sym c.has_point.ensures
    ∙ c.if-has_point.true in
    c.in_ok-text.ensures
    ∙ ap (λ w. out ++ w) (ap chars (c.as_str.ensures.value ∙ bytes) ∙ chars-IsAscii t ascii
    ∙ sym (append-nil t) ∙ ap (λ b. t ++ (cond b [] (codes ".0"))) (sym pointed))

pub returns : goal.returns
returns c =
    let d : Decimal = record { coefficient = c.args.coefficient; exponent = c.args.exponent } in
    let t : List ℕ = number_text (AsDecimal d) in
    let out = c.args.out.now in
    let short : unsigned_abs d.coefficient < 10 ^ 64 = omega (arith, ints, c.ranges.coefficient.sfits) in
    let small : unsigned_abs d.exponent < 10 ^ 63 = omega (arith, ints, c.ranges.exponent.sfits) in
    let ascii : IsAscii t = decimal-ascii d short small in
    let bytes : string_bytes c.push_number.new.text ≡ t =
    c.in_ok-push_number.ensures.ok
    ∙ (λ i. c.new-text.ensures.bytes i ++ number_text (AsDecimal (record {
      coefficient = to_z-of_z w128 c.args.coefficient c.ranges.coefficient i;
      exponent = to_z-of_z w32 c.args.exponent c.ranges.exponent i;
    }))) in
    let plain : list_any is_point t ≡ false =
    ap (list_any is_point) (sym bytes ∙ sym c.as_bytes.ensures.value) ∙ sym c.has_point.ensures
    ∙ c.if-has_point.false in
    let written : c.text.new.self ≡ out ++ t =
    c.in_ok-text.ensures
    ∙ ap (λ w. out ++ w) (ap chars (c.as_str.ensures.value ∙ bytes) ∙ chars-IsAscii t ascii) in
    subst (λ w. OnOk c.word.result (c.word.new.self ≡ w))
    (ap (λ w. w ++ codes ".0") written ∙ append_assoc out t (codes ".0")
    ∙ ap (λ b. out ++ (t ++ (cond b [] (codes ".0")))) (sym plain))
    c.word.ensures
