use Rattle.std.proofs.Common.{Bor, List, map, rules, subst, ℕ, ◌≡◌}
use Rattle.jp_lines.specs.Program.{RunsJob}
use Rattle.jp_lines.specs.Request.{ColumnsBy}
use Rattle.jp_lines.specs.Views.{job_of}
use Rattle.jp_lines.specs.declared.task.Request.TheVariants as requests
use Rattle.jp_lines.proofs.Closings.{job-as}
use Rattle.jp_lines.proofs.runs.run_job.Goals as goal

pub returns-in-SelectBy : goal.returns-in-SelectBy
returns-in-SelectBy g c =
    job-as c.args.job.now (requests.SelectBy c.in-SelectBy.wanted c.in-SelectBy.extent c.in-SelectBy.query)
    (λ job. RunsJob g.I.Inputs.opens g.I.Input.Source.remaining g.I.Input.Source.has_failed
    g.I.Input.Source.read_gives g.W.Writer.contents g.W.Writer.has_failed g.W.Writer.write_takes g.W.Output.holds_back
    g.E.Writer.contents g.E.Writer.has_failed
    job c.args.inputs.now c.run_selected.new.inputs c.args.output.now c.run_selected.new.output c.args.faults.now
    c.run_selected.new.faults c.run_selected.result) c.in-SelectBy.is c.run_selected.ensures

pub returns-in-KeepBy : goal.returns-in-KeepBy
returns-in-KeepBy g c =
    job-as c.args.job.now (requests.KeepBy c.in-KeepBy.text)
    (λ job. RunsJob g.I.Inputs.opens g.I.Input.Source.remaining g.I.Input.Source.has_failed
    g.I.Input.Source.read_gives g.W.Writer.contents g.W.Writer.has_failed g.W.Writer.write_takes g.W.Output.holds_back
    g.E.Writer.contents g.E.Writer.has_failed
    job c.args.inputs.now c.run_kept.new.inputs c.args.output.now c.run_kept.new.output c.args.faults.now
    c.run_kept.new.faults c.run_kept.result) c.in-KeepBy.is c.run_kept.ensures

pub returns-in-ColumnsBy : goal.returns-in-ColumnsBy
returns-in-ColumnsBy g c =
    job-as c.args.job.now (requests.ColumnsBy c.in-ColumnsBy.style c.in-ColumnsBy.named c.in-ColumnsBy.texts)
    (λ job. RunsJob g.I.Inputs.opens g.I.Input.Source.remaining g.I.Input.Source.has_failed
    g.I.Input.Source.read_gives g.W.Writer.contents g.W.Writer.has_failed g.W.Writer.write_takes g.W.Output.holds_back
    g.E.Writer.contents g.E.Writer.has_failed
    job c.args.inputs.now c.run_columns.new.inputs c.args.output.now c.run_columns.new.output c.args.faults.now
    c.run_columns.new.faults c.run_columns.result) c.in-ColumnsBy.is
    (subst (λ ts. RunsJob g.I.Inputs.opens g.I.Input.Source.remaining g.I.Input.Source.has_failed
    g.I.Input.Source.read_gives g.W.Writer.contents g.W.Writer.has_failed g.W.Writer.write_takes g.W.Output.holds_back
    g.E.Writer.contents g.E.Writer.has_failed
    (record (job_of c.args.job.now) {
      request = ColumnsBy c.in-ColumnsBy.style c.in-ColumnsBy.named (map {A = Bor (List ℕ)} (λ t. t.now) ts);
    }) c.args.inputs.now c.run_columns.new.inputs c.args.output.now c.run_columns.new.output
    c.args.faults.now c.run_columns.new.faults c.run_columns.result)
    (let lent : c.deref.result.now ≡ c.in-ColumnsBy.texts.items = search rules in lent)
    c.run_columns.ensures)
