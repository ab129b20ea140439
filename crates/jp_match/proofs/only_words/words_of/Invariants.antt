use Rattle.std.proofs.Common.{map, take}
use Rattle.jp_iregexp.specs.Tree.{tree}
use Rattle.jp_match.specs.Private.OnlyWords.{AreOnlyWords, characters}
use Rattle.jp_match.proofs.only_words.words_of.Given as goal

abbrev pub invariant-loop-branch : goal.invariant-loop-branch
invariant-loop-branch l = AreOnlyWords (map tree (take l.branch-index l.branches)) (map characters
    l.words.items)
