use Rattle.std.proofs.Common.{◌≡◌, Bool, List, map, sym, ap, subst, ◌∙◌}
use Rattle.std.proofs.lemmas.Result.{err_from_is_err_and}
use Rattle.std.specs.List.{list_any}
use Rattle.jp_reading.specs.Outcome.{State}
use Rattle.jp_reading.specs.Views.{Fails}
use Rattle.jp_document.specs.declared.location.OwnedStep.{OwnedStep}
use Rattle.jp_document.specs.Location.{owned_step}
use Rattle.jp_document.specs.Path.{path_of}
use Rattle.jp_document.specs.PathFault.{is_large}
use Rattle.jp_document.specs.Private.PathReading.{path_at}
use Rattle.jp_document.proofs.Paths.LargeIndexes.{list_any-map}
use Rattle.jp_document.proofs.Paths.WholeTexts.{refused, too_large, path_read}
use Rattle.jp_document.proofs.path_reader.read_path.Goals as goal

pub returns-in_err-steps-clause-fault : goal.returns-in_err-steps-clause-fault
returns-in_err-steps-clause-fault c =
    let p = err_from_is_err_and c.from_residual.result c.from_residual.ensures.1 in
    rw (p.1, p.2) (refused c.args.text.now c.in_err-steps.field-0.0 c.utf8.text
    (subst (λ (q : State). Fails c.in_err-steps.field-0.0 (path_at q)) c.new.ensures
    c.in_err-steps.ensures))

-- whether an index is too large, by the steps that were looked at
any_large : (steps seen : List OwnedStep) (answer : Bool) → seen ≡ steps
    → answer ≡ list_any (λ s. is_large (owned_step s)) seen
    → list_any is_large (map owned_step steps) ≡ answer
any_large steps seen answer same is =
    list_any-map is_large owned_step steps ∙ ap (list_any (λ s. is_large (owned_step s))) (sym same)
    ∙ sym is

pub returns-then-is_any_large-clause-fault : goal.returns-then-is_any_large-clause-fault
returns-then-is_any_large-clause-fault c =
    too_large c.args.text.now (map owned_step c.in_ok-steps.steps.items) c.path.new.reader
    c.utf8.text (ap path_at (sym c.new.ensures) ∙ c.in_ok-steps.ensures)
    (any_large c.in_ok-steps.steps.items _ _ c.deref.ensures.value c.is_any_large.ensures
    ∙ c.if-is_any_large.true)

pub returns-clause-path : goal.returns-clause-path
returns-clause-path c =
    path_read c.args.text.now (map owned_step c.in_ok-steps.steps.items) c.path.new.reader
    c.utf8.text (ap path_at (sym c.new.ensures) ∙ c.in_ok-steps.ensures)
    (any_large c.in_ok-steps.steps.items _ _ c.deref.ensures.value c.is_any_large.ensures
    ∙ c.if-is_any_large.false)
    ∙ ap path_of (sym c.of.ensures)

pub returns-clause-small : goal.returns-clause-small
returns-clause-small c =
    ap (list_any is_large) c.of.ensures
    ∙ any_large c.in_ok-steps.steps.items _ _ c.deref.ensures.value c.is_any_large.ensures
    ∙ c.if-is_any_large.false
