use Rattle.std.proofs.Common.{◌≡◌}
use Rattle.jp_match.specs.Private.Rows.{marks_of}
use Rattle.jp_match.proofs.Sets.Rowwise.{Unites}
use Rattle.jp_match.proofs.rows.follow.Given as goal

abbrev pub invariant-loop-start : goal.invariant-loop-start
invariant-loop-start l = record {
  from : l.from.items ≡ l.fn.offsets.items;
  unites : Unites (marks_of l.rows) l.fn.offsets.items l.offsets.items l.start;
}
