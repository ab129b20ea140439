use Rattle.std.proofs.Common.{◌≡◌, ◌+◌, ◌^◌, ◌≤◌, min, map, drop}
use Rattle.jp_iregexp.specs.Tree.{tree, pieces}
use Rattle.jp_iregexp.specs.Positions.{positions_of}
use Rattle.jp_match.specs.Private.Plain.{unrolled}
use Rattle.jp_match.specs.Private.Sweeps.{rounds_of}
use Rattle.jp_match.proofs.counts.+counts.Given as goal

abbrev pub invariant-counts_of_all-loop-part : goal.invariant-counts_of_all-loop-part
invariant-counts_of_all-loop-part l = record {
  positions_within : l.positions ≤ 4097;
  positions : min (l.positions + positions_of (pieces (map tree (drop l.part-index l.parts)))) 4097
      ≡ min (positions_of (pieces (map tree l.parts))) 4097;
  rounds_within : l.rounds ≤ 2 ^ 31;
  rounds : min (l.rounds + rounds_of (unrolled (pieces (map tree (drop l.part-index l.parts)))))
      (2 ^ 31) ≡ min (rounds_of (unrolled (pieces (map tree l.parts)))) (2 ^ 31);
}
