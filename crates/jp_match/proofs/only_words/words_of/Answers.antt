use Rattle.std.proofs.Common.{◌≡◌, [], ◌∷◌, ◌++◌, sym, true}
use Rattle.std.specs.Result.{is_ok}
use Rattle.std.proofs.lemmas.List.{map-append}
use Rattle.jp_match.specs.Private.OnlyWords.{characters}
use Rattle.jp_match.proofs.Texts.OnlyWords.{only_more}
use Rattle.jp_match.proofs.only_words.words_of.Goals as goal

pub loop-branch-preserved : goal.loop-branch-preserved
loop-branch-preserved c =
    let pushed : is_ok c.push.result ≡ true = sym c.in_ok-ok.ensures.variant in
    let more : c.push.new.self.items ≡ c.loop-branch.words.items ++ c.in_ok-word.word ∷ [] = rw
    pushed at c.push.ensures.items in
    rw (more, map-append characters c.loop-branch.words.items (c.in_ok-word.word ∷ [])) (only_more _
    _ _ _ _ c.loop-branch-test.true c.branch-item.is c.loop-branch.invariant c.in_ok-word.ensures)
