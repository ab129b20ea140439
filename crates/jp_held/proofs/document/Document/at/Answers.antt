use Rattle.std.proofs.Common.{Some, None, option_map, ap, ◌∙◌}
use Rattle.jp_document.specs.DocumentValue.{lent_value}
use Rattle.jp_document.specs.Location.{step_of}
use Rattle.jp_document.specs.Value.{value_of}
use Rattle.jp_document.proofs.Descent.Inside.{walked}
use Rattle.jp_held.proofs.document.Document.at.Goals as goal

pub loop-step-preserved : goal.loop-step-preserved
loop-step-preserved c =
    walked step_of c.args.location.now c.loop-step.step-index _ (lent_value c.loop-step.value)
    (Some (lent_value c.in_ok-value.value)) _ c.loop-step-test.true c.in_ok-value.ensures
    c.loop-step.invariant

pub returns-in_err-value : goal.returns-in_err-value
returns-in_err-value c =
    ap (option_map (λ j. value_of j.now)) c.from_residual.ensures
    ∙ walked step_of c.args.location.now c.loop-step.step-index _ (lent_value c.loop-step.value)
    None _ c.loop-step-test.true c.in_err-value.ensures c.loop-step.invariant
