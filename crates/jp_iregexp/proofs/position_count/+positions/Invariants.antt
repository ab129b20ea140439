use Rattle.std.proofs.Common.{◌≡◌, ◌+◌, ◌≤◌, min, map, drop}
use Rattle.jp_iregexp.specs.Tree.{tree, pieces}
use Rattle.jp_iregexp.specs.Positions.{positions_of}
use Rattle.jp_iregexp.proofs.position_count.+positions.Given as goal

abbrev pub invariant-positions_of_all-loop-part : goal.invariant-positions_of_all-loop-part
invariant-positions_of_all-loop-part l = record {
  within : l.sum ≤ 4097;
  counted : min (l.sum + positions_of (pieces (map tree (drop l.part-index l.parts)))) 4097 ≡
      min (positions_of (pieces (map tree l.parts))) 4097;
}
