use Rattle.std.proofs.Common.{Err, subst}
use Rattle.jp_command.specs.Run.{RunsNodes}
use Rattle.jp_command.proofs.eval.run_eval.Goals as goal

pub returns-clause-says : goal.returns-clause-says
returns-clause-says g c =
    subst
    (λ nodes. RunsNodes c.args.profile g.R.Source.remaining g.R.Source.has_failed g.R.Source.read_gives
    g.W.Writer.contents g.W.Writer.has_failed {X = Unit {0}} nodes c.args.query.now c.args.input.now
    c.run_eval_keeping.new.input c.args.output.now c.run_eval_keeping.new.output (Err c.in-Err.fault))
    c.all-nodes.ensures c.in-Err.ensures.says
