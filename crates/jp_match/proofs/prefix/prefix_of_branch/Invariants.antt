use Rattle.std.proofs.Common.{map, take}
use Rattle.jp_iregexp.specs.Tree.{tree}
use Rattle.jp_match.specs.Private.OnlyWords.{AreOnlyWords, characters, alone}
use Rattle.jp_match.proofs.prefix.prefix_of_branch.Given as goal

abbrev pub invariant-loop-piece : goal.invariant-loop-piece
invariant-loop-piece l = AreOnlyWords (map tree (take l.piece-index l.piece-items)) (map alone
    (characters l.prefix))
