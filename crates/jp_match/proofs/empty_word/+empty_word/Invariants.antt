use Rattle.std.proofs.Common.{◌≡◌, map, drop}
use Rattle.jp_iregexp.specs.Tree.{tree, branches, pieces}
use Rattle.jp_match.specs.Private.EmptyWord.{has_empty}
use Rattle.jp_match.proofs.empty_word.+empty_word.Given as goal

abbrev pub invariant-any_has_empty_word-loop-branch : goal.invariant-any_has_empty_word-loop-branch
invariant-any_has_empty_word-loop-branch l =
    has_empty (branches (map tree (drop l.branch-index l.parts))) ≡ has_empty (branches (map tree
    l.parts))

abbrev pub invariant-each_has_empty_word-loop-piece : goal.invariant-each_has_empty_word-loop-piece
invariant-each_has_empty_word-loop-piece l =
    has_empty (pieces (map tree (drop l.piece-index l.parts))) ≡ has_empty (pieces (map tree
    l.parts))
