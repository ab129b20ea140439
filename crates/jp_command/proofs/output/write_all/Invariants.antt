use Rattle.std.proofs.Common.{◌≡◌, length}
use Rattle.jp_command.proofs.Streams.{IsLeft}
use Rattle.jp_command.proofs.output.write_all.Given as goal

-- what is written and the rest are the whole
abbrev pub invariant-loop-rest : goal.invariant-loop-rest
invariant-loop-rest g l = record {
  left : IsLeft g.W.Writer.contents g.W.Writer.write_takes l.fn.output l.output l.fn.bytes l.rest;
  works : g.W.Writer.has_failed l.output ≡ g.W.Writer.has_failed l.fn.output;
}

abbrev pub decreases-loop-rest : goal.decreases-loop-rest
decreases-loop-rest g l = length l.rest
