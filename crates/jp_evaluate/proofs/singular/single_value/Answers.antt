use Rattle.std.proofs.Common.{◌≡◌, ◌≢◌, ◌∙◌, ap, length, option_map, sym, arith}
use Rattle.std.specs.List.{slice_get}
use Rattle.jp_evaluate.specs.Private.Singular.{single_value}
use Rattle.jp_evaluate.proofs.Nodelists.Along.{of_one}
use Rattle.jp_evaluate.proofs.Nodelists.Only.{not_child, not_single, only_child}
use Rattle.jp_evaluate.proofs.singular.single_value.Goals as goal
use Rattle.jp_evaluate.proofs.singular.single_value.Goals.{then-segment-via-then-segment}
use Rattle.jp_evaluate.proofs.singular.single_value.Goals.{}
use Rattle.jp_evaluate.proofs.singular.single_value.Goals.{then-segment-via-else-segment+then-len-ne1}

pub returns-then-segment : goal.returns-then-segment
returns-then-segment g c =
    let s = c.args.segment.now in
    let v = g.V.Lent.meaning c.args.value in
    elim c.then-segment.branch [
      | then-segment-via-then-segment w ↦ sym (not_child _ (of_one v) s w.if-segment.true)
      | then-segment-via-else-segment+then-len-ne1 w ↦
          let not : length s.selectors.items ≢ 1 = let long = s.selectors.ok.0 in
          omega (arith, w.len.ensures) in sym (not_single _ (of_one v) s not)
    ]

pub returns-in_err-value : goal.returns-in_err-value
returns-in_err-value g c =
    let s = c.args.segment.now in
    let v = g.V.Lent.meaning c.args.value in
    let one : length s.selectors.items ≡ 1 = let long = s.selectors.ok.0 in
    omega (arith, c.len.ensures) in
    ap (option_map g.V.Lent.meaning) c.from_residual-in_err-value.ensures
    ∙ ap (option_map (λ e. e.1)) c.in_err-value.ensures
    ∙ sym (ap (λ t. single_value t v) (only_child s c.in_ok-first.field-0.now c.if-segment.false one
    (c.in_ok-first.ensures.value ∙ ap (λ xs. slice_get xs 0) c.deref.ensures.value)))

pub returns : goal.returns
returns g c =
    let s = c.args.segment.now in
    let v = g.V.Lent.meaning c.args.value in
    let one : length s.selectors.items ≡ 1 = let long = s.selectors.ok.0 in
    omega (arith, c.len.ensures) in
    ap (option_map (λ e. e.1)) c.in_ok-value.ensures
    ∙ sym (ap (λ t. single_value t v) (only_child s c.in_ok-first.field-0.now c.if-segment.false one
    (c.in_ok-first.ensures.value ∙ ap (λ xs. slice_get xs 0) c.deref.ensures.value)))
