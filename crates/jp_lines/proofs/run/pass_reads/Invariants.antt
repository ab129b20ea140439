use Rattle.std.proofs.Common.{◌≡◌, ◌≤◌, ℕ, false, List, length, vec_len}
use Rattle.jp_command.specs.Limits.{chunk_size, document_limit}
use Rattle.jp_lines.specs.Reads.{ReadsSome}
use Rattle.jp_lines.specs.Private.Passing.{Keeps, Passes, standing}
use Rattle.jp_lines.specs.Views.{task_of}
use Rattle.jp_lines.proofs.Ending.{at_start}
use Rattle.jp_lines.proofs.run.pass_reads.Given as goal

-- the bytes that came are passed, and the line that has begun has not grown too large
abbrev pub invariant-loop : goal.invariant-loop
invariant-loop g l = record {
  bytes : List ℕ;
  line : List ℕ;
  reads : ReadsSome g.R.Source.remaining g.R.Source.has_failed g.R.Source.read_gives
      l.fn.input l.input bytes;
  keeps : Keeps l.progress line;
  few : l.fn.asked.options.keep_going ≡ false → length line ≤ document_limit;
  passes : Passes l.fn.asked.options l.fn.asked.lead.now g.W.Writer.contents g.W.Writer.has_failed
      g.E.Writer.contents g.E.Writer.has_failed (task_of l.fn.asked.task) bytes
      at_start (standing l.progress line) l.fn.output l.output l.fn.faults l.faults;
  room : vec_len l.chunk ≡ chunk_size;
}
