use Rattle.std.proofs.Common.{◌≡◌, ◌∙◌, ap, arith, length, option_map, sym}
use Rattle.std.specs.List.{slice_get}
use Rattle.jp_evaluate.specs.Private.Walk.{step_to, walk_steps}
use Rattle.jp_evaluate.proofs.Walks.Kept.{step-apart}
use Rattle.jp_evaluate.proofs.walk.Walk.step_at.Goals as goal

pub returns-in-Some-clause-step : goal.returns-in-Some-clause-step
returns-in-Some-clause-step g c =
    let w = c.args.self.now in
    let same : c.args.index ≡ length w.below.items = omega arith in
    sym (ap (slice_get (walk_steps w)) same ∙ step-apart w.below.items w.top
    ∙ ap (option_map step_to) c.in-Some.is)

pub returns-in-None-clause-step : goal.returns-in-None-clause-step
returns-in-None-clause-step g c =
    let w = c.args.self.now in
    let same : c.args.index ≡ length w.below.items = omega arith in
    sym (ap (slice_get (walk_steps w)) same ∙ step-apart w.below.items w.top
    ∙ ap (option_map step_to) c.in-None.is)
