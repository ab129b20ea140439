use Rattle.std.proofs.Common.{ℕ, ◌+◌, map, drop}
use Rattle.std.specs.Bool.{IsTrue}
use Rattle.jp_iregexp.specs.Tree.{tree, branches, pieces}
use Rattle.jp_match.specs.Private.OneWidth.{IsWidthOf, has_width}
use Rattle.jp_match.proofs.one_width.+width.Given as goal

abbrev pub invariant-width_of_each-loop-branch : goal.invariant-width_of_each-loop-branch
invariant-width_of_each-loop-branch l =
    IsTrue (has_width (branches (map tree (drop l.branch-index l.others))) l.width)
    → IsTrue (has_width (branches (map tree l.parts)) l.width)

abbrev pub invariant-width_of_all-loop-piece : goal.invariant-width_of_all-loop-piece
invariant-width_of_all-loop-piece l = (others : ℕ)
    → IsWidthOf (pieces (map tree (drop l.piece-index l.parts))) others
    → IsWidthOf (pieces (map tree l.parts)) (l.width + others)
