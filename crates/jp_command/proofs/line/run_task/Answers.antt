use Rattle.std.proofs.Common.{Err, refl, subst, sym}
use Rattle.jp_command.specs.Line.{IsWrittenBy}
use Rattle.jp_command.specs.Writes.{WritesByCalls}
use Rattle.jp_command.proofs.line.run_task.Goals as goal

pub returns-in-Ok-clause-calls : goal.returns-in-Ok-clause-calls
returns-in-Ok-clause-calls g c = rw c.in-Check.is c.in-Ok.ensures.calls

pub returns-in-Err-clause-calls : goal.returns-in-Err-clause-calls
returns-in-Err-clause-calls g c =
    subst
    (λ task. WritesByCalls g.W.Writer.write_takes {X = Unit {0}}
    (IsWrittenBy c.args.asked.now.profile g.R.Source.remaining g.R.Source.has_failed
    g.R.Source.read_gives g.W.Writer.contents g.W.Writer.has_failed task c.args.asked.now.query.now
    c.args.input.now c.args.input.now)
    c.args.output.now c.run_check.new.output (Err c.in-Err.fault))
    (sym c.in-Check.is) c.in-Err.ensures.calls

pub returns-in-Ok-clause-done : goal.returns-in-Ok-clause-done
returns-in-Ok-clause-done g c =
    let calls = c.in-Ok.ensures.calls in
    rw c.in-Check.is (record { output = calls.0; is = calls.1; goes = calls.2; ends = refl })

pub returns-in-Ok-run_canon-clause-calls : goal.returns-in-Ok-run_canon-clause-calls
returns-in-Ok-run_canon-clause-calls g c = rw c.in-Canon.is c.in-Ok-run_canon.ensures.calls

pub returns-in-Err-run_canon-clause-calls : goal.returns-in-Err-run_canon-clause-calls
returns-in-Err-run_canon-clause-calls g c =
    subst
    (λ task. WritesByCalls g.W.Writer.write_takes {X = Unit {0}}
    (IsWrittenBy c.args.asked.now.profile g.R.Source.remaining g.R.Source.has_failed
    g.R.Source.read_gives g.W.Writer.contents g.W.Writer.has_failed task c.args.asked.now.query.now
    c.args.input.now c.args.input.now)
    c.args.output.now c.run_canon.new.output (Err c.in-Err-run_canon.fault))
    (sym c.in-Canon.is) c.in-Err-run_canon.ensures.calls

pub returns-in-Ok-run_canon-clause-done : goal.returns-in-Ok-run_canon-clause-done
returns-in-Ok-run_canon-clause-done g c =
    let calls = c.in-Ok-run_canon.ensures.calls in
    rw c.in-Canon.is (record { output = calls.0; is = calls.1; goes = calls.2; ends = refl })

pub returns-in-Eval-clause-calls : goal.returns-in-Eval-clause-calls
returns-in-Eval-clause-calls g c = rw c.in-Eval.is c.run_eval_keeping.ensures.calls
