use Rattle.std.proofs.Common.{map, take}
use Rattle.jp_iregexp.specs.Tree.{tree}
use Rattle.jp_match.specs.Private.Cutting.{AreSameUpTo}
use Rattle.jp_match.proofs.cutting.+cut.Given as goal

abbrev pub invariant-cut_each-loop-part : goal.invariant-cut_each-loop-part
invariant-cut_each-loop-part l =
    AreSameUpTo l.chars (map tree l.all.items) (map tree (take l.part-index l.parts))
