use Rattle.std.proofs.lemmas.Str.Pattern.{contains_text}
use Rattle.jp_match.proofs.Texts.OnlyWords.{finds_part}
use Rattle.jp_match.proofs.only_words.has_part.Goals as goal

pub returns : goal.returns
returns c = finds_part _ c.args.word.now c.args.text.now c.utf8.text c.utf8.word (contains_text _ _ _
    c.contains.ensures.cases)
