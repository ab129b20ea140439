use Rattle.std.proofs.Common.{All, map, refl, rules, subst, sym, ◌≡◌, ◌∙◌}
use Rattle.jp_check.specs.declared.checked.Checked.{Checked}
use Rattle.jp_tree.specs.Views.{query_of}
use Rattle.jp_evaluate.specs.Plan.{Serves}
use Rattle.jp_lines.specs.Program.{RunsJob, begun, not_begun}
use Rattle.jp_lines.specs.Request.{AreAsked, ColumnsBy}
use Rattle.jp_lines.specs.Task.{Tabulate}
use Rattle.jp_lines.specs.Views.{job_of}
use Rattle.jp_lines.specs.declared.halt.Unbegun.TheVariants.{Fault}
use Rattle.jp_lines.proofs.Closings.{unread-queries}
use Rattle.jp_lines.proofs.Ending.{err-so}
use Rattle.jp_lines.proofs.runs.run_columns.Goals as goal

pub returns-in_err-queries : goal.returns-in_err-queries
returns-in_err-queries g c =
    err-so c.from_residual.result c.in_err-queries.field-0.0
    (RunsJob g.I.Inputs.opens g.I.Input.Source.remaining g.I.Input.Source.has_failed
    g.I.Input.Source.read_gives g.W.Writer.contents g.W.Writer.has_failed g.W.Writer.write_takes g.W.Output.holds_back
    g.E.Writer.contents g.E.Writer.has_failed
    (record (job_of c.args.job.now) { request = ColumnsBy c.args.style c.args.named (map (λ t. t.now) c.args.texts.now) }) c.args.inputs.now c.args.inputs.now
    c.args.output.now c.args.output.now c.args.faults.now c.args.faults.now)
    c.from_residual.ensures.1
    (unread-queries g.I.Inputs.opens g.I.Input.Source.remaining g.I.Input.Source.has_failed
    g.I.Input.Source.read_gives g.W.Writer.contents g.W.Writer.has_failed g.W.Writer.write_takes g.W.Output.holds_back
    g.E.Writer.contents g.E.Writer.has_failed (job_of c.args.job.now) c.args.inputs.now c.args.output.now
    c.args.faults.now c.args.style c.args.named (map (λ t. t.now) c.args.texts.now)
    c.in_err-queries.field-0.0 c.in_err-queries.ensures.stopped)

pub returns-in_err-write_names : goal.returns-in_err-write_names
returns-in_err-write_names g c =
    let qs = map (λ k. query_of k.query) c.in_ok-queries.queries.items in
    err-so c.from_residual-in_err-write_names.result (Fault c.in_err-write_names.field-0.0)
    (RunsJob g.I.Inputs.opens g.I.Input.Source.remaining g.I.Input.Source.has_failed
    g.I.Input.Source.read_gives g.W.Writer.contents g.W.Writer.has_failed g.W.Writer.write_takes g.W.Output.holds_back
    g.E.Writer.contents g.E.Writer.has_failed
    (record (job_of c.args.job.now) { request = ColumnsBy c.args.style c.args.named (map (λ t. t.now) c.args.texts.now) }) c.args.inputs.now c.args.inputs.now
    c.args.output.now c.write_names.new.output c.args.faults.now c.args.faults.now)
    c.from_residual-in_err-write_names.ensures.1
    (not_begun (Tabulate c.args.style qs) c.in_err-write_names.field-0.0 refl
    (qs, refl, c.in_ok-queries.ensures.read) c.in_err-write_names.ensures.stopped refl refl)

pub run_task-requires : goal.run_task-requires
run_task-requires g c =
    let planned : c.deref.result.now ≡ c.in_ok-queries.queries.items = search rules in
    let lent : c.deref-2.result.now ≡ c.in_ok-queries.queries.items = search rules in
    subst (λ ks. All (λ q. Serves q c.in_ok-plan.plan.portion) (map {A = Checked} (λ k. query_of k.query) ks))
    (planned ∙ sym lent) c.in_ok-plan.ensures

pub returns : goal.returns
returns g c =
    let lent : c.deref-2.result.now ≡ c.in_ok-queries.queries.items = search rules in
    let qs = map {A = Checked} (λ k. query_of k.query) c.deref-2.result.now in
    begun (Tabulate c.args.style qs) c.run_task.result refl (
      qs,
      refl,
      subst (λ ks. AreAsked c.args.job.now.options.profile (map (λ t. t.now) c.args.texts.now)
          (map {A = Checked} (λ k. query_of k.query) ks)) (sym lent) c.in_ok-queries.ensures.read,
    )
    (c.run_task.ensures c.args.output.now (ColumnsBy c.args.style c.args.named (map (λ t. t.now) c.args.texts.now))
    c.in_ok-write_names.ensures.ok)
