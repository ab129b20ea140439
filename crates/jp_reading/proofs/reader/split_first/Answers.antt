-- What `next` and `as_str` of `chars` say of the text's characters and of its length.
use Rattle.std.proofs.Common.{◌≡◌, ◌++◌, ◌+◌, length, ap, sym, ◌∙◌, length-append}
use Rattle.std.proofs.lemmas.Str.{chars_past_char, length-encode}
use Rattle.std.specs.Char.{encode_utf8}
use Rattle.jp_reading.proofs.reader.split_first.Goals as goal

pub returns-clause-parts : goal.returns-clause-parts
returns-clause-parts c =
    let first = c.in_ok-first.first in
    let rest = c.as_str.result.now in
    let whole : c.args.text.now ≡ encode_utf8 first ++ rest =
    sym c.chars-characters.ensures.rest ∙ c.in_ok-first.ensures.steps.0
    ∙ ap (λ t. encode_utf8 first ++ t) (sym c.as_str.ensures) in (
      chars_past_char c.args.text.now rest first c.utf8.text whole,
      ap length whole ∙ length-append (encode_utf8 first) rest
          ∙ ap (λ n. n + length rest) (length-encode first),
    )
