use Rattle.std.proofs.lemmas.Str.Pattern.{starts_text}
use Rattle.jp_match.proofs.Texts.OnlyWords.{finds_prefix}
use Rattle.jp_match.proofs.prefix.begins_with.Goals as goal

pub returns : goal.returns
returns c = finds_prefix _ c.args.prefix.now c.args.text.now c.utf8.text c.utf8.prefix (starts_text _
    _ _ c.starts_with.ensures.cases)
