use Rattle.std.proofs.Common.{map, subst}
use Rattle.jp_lines.specs.Inputs.{HaltsAmong, RunsOver}
use Rattle.jp_lines.specs.Views.{task_of}
use Rattle.jp_lines.proofs.Ending.{err-so}
use Rattle.jp_lines.proofs.InTurn.{halts-among, passes-more, passes-none}
use Rattle.jp_lines.proofs.opening.pass_inputs.Goals as goal

pub loop-name-init : goal.loop-name-init
loop-name-init g c = record {
  passes = passes-none c.args.asked.options (map (λ t. t.now) c.args.named.now) g.I.Inputs.opens g.I.Input.Source.remaining
      g.I.Input.Source.has_failed g.I.Input.Source.read_gives g.W.Writer.contents g.W.Writer.has_failed
      g.E.Writer.contents g.E.Writer.has_failed (task_of c.args.asked.task) c.args.inputs.now
      c.args.output.now c.args.faults.now c.args.passed.now c.requires.start;
}

pub loop-name-preserved : goal.loop-name-preserved
loop-name-preserved g c = record {
  passes = passes-more c.args.asked.options (map (λ t. t.now) c.args.named.now) g.I.Inputs.opens g.I.Input.Source.remaining
      g.I.Input.Source.has_failed g.I.Input.Source.read_gives g.W.Writer.contents g.W.Writer.has_failed
      g.E.Writer.contents g.E.Writer.has_failed (task_of c.args.asked.task) c.args.inputs.now
      c.args.output.now c.args.faults.now (λ t. t.now) c.inputs_of-names.result.now
      c.loop-name.name-index _ c.loop-name-test.true c.loop-name.inputs c.pass_next.new.inputs
      c.loop-name.output c.pass_next.new.output c.loop-name.faults c.pass_next.new.faults
      c.loop-name.passed c.pass_next.new.passed c.loop-name.invariant.passes
      c.in_ok-pass_next.ensures.passed;
}

pub returns-in_err-pass_next : goal.returns-in_err-pass_next
returns-in_err-pass_next g c =
    err-so c.from_residual.result c.in_err-pass_next.field-0.0
    (RunsOver c.args.asked.options (map (λ t. t.now) c.args.named.now) g.I.Inputs.opens g.I.Input.Source.remaining
    g.I.Input.Source.has_failed g.I.Input.Source.read_gives g.W.Writer.contents g.W.Writer.has_failed
    g.E.Writer.contents g.E.Writer.has_failed (task_of c.args.asked.task) c.args.inputs.now c.pass_next.new.inputs
    c.args.output.now c.pass_next.new.output c.args.faults.now c.pass_next.new.faults
    c.pass_next.new.passed)
    c.from_residual.ensures.1
    (subst (λ names. HaltsAmong c.args.asked.options (map (λ t. t.now) c.args.named.now) g.I.Inputs.opens g.I.Input.Source.remaining
    g.I.Input.Source.has_failed g.I.Input.Source.read_gives g.W.Writer.contents g.W.Writer.has_failed
    g.E.Writer.contents g.E.Writer.has_failed (task_of c.args.asked.task) names c.args.inputs.now
    c.pass_next.new.inputs c.args.output.now c.pass_next.new.output c.args.faults.now
    c.pass_next.new.faults c.pass_next.new.passed c.in_err-pass_next.field-0.0)
    c.inputs_of-names.ensures
    (halts-among c.args.asked.options (map (λ t. t.now) c.args.named.now) g.I.Inputs.opens g.I.Input.Source.remaining
    g.I.Input.Source.has_failed g.I.Input.Source.read_gives g.W.Writer.contents g.W.Writer.has_failed
    g.E.Writer.contents g.E.Writer.has_failed (task_of c.args.asked.task) c.args.inputs.now
    c.args.output.now c.args.faults.now (λ t. t.now) c.inputs_of-names.result.now
    c.loop-name.name-index _ c.loop-name-test.true c.loop-name.inputs c.pass_next.new.inputs
    c.loop-name.output c.pass_next.new.output c.loop-name.faults c.pass_next.new.faults
    c.loop-name.passed c.pass_next.new.passed c.loop-name.invariant.passes
    c.in_err-pass_next.field-0.0 c.in_err-pass_next.ensures.halted))
