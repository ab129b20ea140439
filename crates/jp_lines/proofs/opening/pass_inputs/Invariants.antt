use Rattle.std.proofs.Common.{map, take}
use Rattle.jp_lines.specs.Inputs.{PassesInputs}
use Rattle.jp_lines.specs.Views.{task_of}
use Rattle.jp_lines.proofs.opening.pass_inputs.Given as goal

-- the inputs of the names that were gone through
abbrev pub invariant-loop-name : goal.invariant-loop-name
invariant-loop-name g l = record {
  passes : PassesInputs l.asked.options (map (λ t. t.now) l.named) g.I.Inputs.opens
      g.I.Input.Source.remaining g.I.Input.Source.has_failed g.I.Input.Source.read_gives
      g.W.Writer.contents g.W.Writer.has_failed g.E.Writer.contents g.E.Writer.has_failed
      (task_of l.asked.task) l.initial.inputs l.initial.output l.initial.faults
      (take l.name-index (map (λ t. t.now) l.names)) l.inputs l.output l.faults
      l.passed.tally l.passed.unread;
}
