use Rattle.std.proofs.Common.{◌∙◌, ap}
use Rattle.std.specs.List.{list_any}
use Rattle.std.specs.Str.{chars, bytes_eq}
use Rattle.jp_match.specs.Private.OnlyWords.{characters}
use Rattle.jp_match.proofs.Texts.OnlyWords.{mapped_any}
use Rattle.jp_match.proofs.only_words.OnlyWords.contain.Goals as goal

pub returns : goal.returns
returns c = c.is_one_of.ensures ∙ mapped_any (λ word. bytes_eq word (chars c.args.text.now)) characters
    c.deref.result.now ∙ ap (list_any (λ word. bytes_eq word (chars c.args.text.now))) (rw
    c.deref.ensures.value c.self.view_is)
