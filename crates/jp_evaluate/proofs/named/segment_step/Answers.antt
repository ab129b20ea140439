use Rattle.std.proofs.Common.{◌≡◌, ◌≢◌, ◌∙◌, ap, length, sym, arith}
use Rattle.std.specs.List.{slice_get}
use Rattle.jp_evaluate.specs.Named.{step_of_segment}
use Rattle.jp_evaluate.proofs.Nodelists.Only.{not_child, not_single, only_child}
use Rattle.jp_evaluate.proofs.Paths.Steps.{of_one}
use Rattle.jp_evaluate.proofs.named.segment_step.Goals as goal
use Rattle.jp_evaluate.proofs.named.segment_step.Goals.{then-segment-via-then-segment}
use Rattle.jp_evaluate.proofs.named.segment_step.Goals.{then-segment-via-else-segment+then-len-ne1}

pub returns-then-segment : goal.returns-then-segment
returns-then-segment c =
    let s = c.args.segment.now in
    elim c.then-segment.branch [
      | then-segment-via-then-segment w ↦ sym (not_child _ of_one s w.if-segment.true)
      | then-segment-via-else-segment+then-len-ne1 w ↦
          let not : length s.selectors.items ≢ 1 = let long = s.selectors.ok.0 in
          omega (arith, w.len.ensures) in sym (not_single _ of_one s not)
    ]

pub returns : goal.returns
returns c =
    let s = c.args.segment.now in
    let one : length s.selectors.items ≡ 1 = let long = s.selectors.ok.0 in
    omega (arith, c.len.ensures) in
    c.selector_step.ensures
    ∙ sym (ap step_of_segment (only_child s c.in_ok-first.field-0.now c.if-segment.false one
    (c.in_ok-first.ensures.value ∙ ap (λ xs. slice_get xs 0) c.deref.ensures.value)))
