use Rattle.std.proofs.Common.{[], ap, ◌∙◌, refl}
use Rattle.std.specs.Str.{chars}
use Rattle.jp_reading.specs.Outcome.{after_blank}
use Rattle.jp_reading.proofs.Texts.Chars.{after_blank-same}
use Rattle.jp_reading.proofs.reader.Reader.peek_past_blank.Goals as goal

pub returns : goal.returns
returns c =
    let alone = after_blank-same (record {
      at = 0;
      rest = chars c.self.inside.rest.now;
      found = [];
    })
    (record {
      at = c.self.inside.place;
      rest = chars c.self.inside.rest.now;
      found = c.self.inside.spans.items;
    }) refl in
    c.first_past_blanks.ensures ∙ alone ∙ ap after_blank c.self.view_is
