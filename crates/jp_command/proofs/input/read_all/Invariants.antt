use Rattle.std.proofs.Common.{◌≡◌, ◌≤◌, ◌+◌, ◌-◌, take, vec_len}
use Rattle.std.specs.Io.KnownBytes.{Consumes}
use Rattle.jp_command.specs.Limits.{chunk_size, document_limit}
use Rattle.jp_command.specs.Reads.{ComeByReads}
use Rattle.jp_command.proofs.input.read_all.Given as goal

-- so many of the bytes came, not more than a document may have, and the others are room for a read
abbrev pub invariant-chunks : goal.invariant-chunks
invariant-chunks g l = record {
  came : Consumes (g.R.Source.remaining l.fn.input) (g.R.Source.remaining l.input)
      (take l.count l.bytes.items);
  few : l.count ≤ document_limit;
  calls : ComeByReads g.R.Source.read_gives l.fn.input l.input (take l.count l.bytes.items);
  within : l.count ≤ vec_len l.bytes;
  room : vec_len l.bytes ≤ l.count + chunk_size;
  works : g.R.Source.has_failed l.input ≡ g.R.Source.has_failed l.fn.input;
}

abbrev pub decreases-chunks : goal.decreases-chunks
decreases-chunks g l = document_limit - l.count
