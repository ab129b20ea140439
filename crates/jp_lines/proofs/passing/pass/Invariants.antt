use Rattle.std.proofs.Common.{◌≡◌, ℕ, List, ◌++◌, length}
use Rattle.jp_lines.specs.Private.Passing.{Keeps, PassesOn}
use Rattle.jp_lines.specs.Views.{task_of}
use Rattle.jp_lines.proofs.passing.pass.Given as goal

-- the bytes before the rest are passed
abbrev pub invariant-loop-end : goal.invariant-loop-end
invariant-loop-end g l = record {
  taken : List ℕ;
  is : l.fn.bytes ≡ taken ++ l.rest;
  passes : (line : List ℕ) → Keeps l.fn.progress line
      → PassesOn l.fn.asked.options l.fn.asked.lead.now g.W.Writer.contents g.W.Writer.has_failed
      g.E.Writer.contents g.E.Writer.has_failed (task_of l.fn.asked.task) taken
      l.fn.progress l.progress line l.fn.output l.output l.fn.faults l.faults;
}

abbrev pub decreases-loop-end : goal.decreases-loop-end
decreases-loop-end g l = length l.rest
