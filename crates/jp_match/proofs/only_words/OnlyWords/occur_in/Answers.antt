use Rattle.std.proofs.Common.{◌∙◌, ap}
use Rattle.std.specs.List.{list_any}
use Rattle.std.specs.Str.{chars}
use Rattle.jp_match.specs.Private.OnlyWords.{characters, is_part}
use Rattle.jp_match.proofs.Texts.OnlyWords.{mapped_any}
use Rattle.jp_match.proofs.only_words.OnlyWords.occur_in.Goals as goal

pub returns : goal.returns
returns c = c.has_one_of.ensures ∙ mapped_any (λ word. is_part word (chars c.args.text.now)) characters
    c.deref.result.now ∙ ap (list_any (λ word. is_part word (chars c.args.text.now))) (rw
    c.deref.ensures.value c.self.view_is)
