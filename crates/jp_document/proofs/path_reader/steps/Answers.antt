use Rattle.std.proofs.Common.{◌≡◌, ◌++◌, ◌∷◌, [], map, rules, sym, ◌∙◌}
use Rattle.std.proofs.lemmas.Result.{err_from_is_err_and}
use Rattle.std.proofs.lemmas.List.{map-append}
use Rattle.jp_reading.specs.Characters as char
use Rattle.jp_reading.specs.Outcome.{is_at}
use Rattle.jp_reading.proofs.States.Folds.{pushes_on, pushes_end, folds_fail}
use Rattle.jp_reading.proofs.States.Progress.{moved}
use Rattle.jp_document.specs.Location.{owned_step}
use Rattle.jp_document.specs.Private.PathReading.{read_rule}
use Rattle.jp_document.specs.Private.PathRules.{step, steps}
use Rattle.jp_document.proofs.Paths.Progress.{path_rule-progress}
use Rattle.jp_document.proofs.path_reader.steps.Goals as goal

pub returns-in_err-next : goal.returns-in_err-next
unfolding steps
returns-in_err-next c =
    let p = err_from_is_err_and c.from_residual.result c.from_residual.ensures.1 in
    rw (p.1, p.2, c.steps.invariant)
    (folds_fail (is_at char.opening_bracket) (read_rule step) (path_rule-progress step)
    (λ ks. map owned_step c.steps.steps.items ++ ks)
    c.steps.reader c.in_err-next.field-0.0 (sym c.is_at.ensures ∙ c.steps-test.true)
    c.in_err-next.ensures)

pub steps-smaller : goal.steps-smaller
steps-smaller c =
    moved (read_rule step) (path_rule-progress step) c.steps.reader c.step.new.reader
    (owned_step c.in_ok-next.next)
    c.in_ok-next.ensures

pub steps-preserved : goal.steps-preserved
unfolding steps
steps-preserved c =
    let pushed : c.push.new.self.items ≡ c.steps.steps.items ++ c.in_ok-next.next ∷ [] =
    search rules in
    rw (pushed, map-append owned_step c.steps.steps.items (c.in_ok-next.next ∷ []))
    (c.steps.invariant
    ∙ pushes_on (is_at char.opening_bracket) (read_rule step) (path_rule-progress step)
    (map owned_step c.steps.steps.items)
    c.steps.reader c.step.new.reader
    (owned_step c.in_ok-next.next) (sym c.is_at.ensures ∙ c.steps-test.true) c.in_ok-next.ensures)

pub returns : goal.returns
unfolding steps
returns c =
    c.steps.invariant
    ∙ pushes_end (is_at char.opening_bracket) (read_rule step) (map owned_step c.steps.steps.items)
    c.steps.reader
    (sym c.is_at.ensures ∙ c.steps-test.false)
