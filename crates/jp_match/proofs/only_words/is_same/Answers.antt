use Rattle.std.proofs.Common.{◌∙◌}
use Rattle.jp_match.proofs.Texts.OnlyWords.{finds_same}
use Rattle.jp_match.proofs.only_words.is_same.Goals as goal

pub returns : goal.returns
returns c = c.eq.ensures ∙ finds_same c.args.word.now c.args.text.now c.utf8.text c.utf8.word
