use Rattle.std.proofs.Common.{◌≡◌, ◌<◌, false, length, get_or, ap, ◌∙◌, arith}
use Rattle.std.proofs.lemmas.List.{get_or_read}
use Rattle.std.specs.Str.{chars}
use Rattle.jp_match.proofs.Sets.WholeAndPart.{whole_reached}
use Rattle.jp_match.proofs.images.Images.whole.Goals as goal

pub returns-clause-exact : goal.returns-clause-exact
returns-clause-exact c =
    let text = c.deref.ensures.value ∙ c.in_ok-text.ensures in
    let to = c.in_ok-offsets.offsets.items in
    let image = rw text at c.in_ok-offsets.ensures.found in
    let last = whole_reached c.in_ok-start.ensures.only image in
    let end : c.len.result ≡ length (chars c.args.text.now) = c.len.ensures ∙ c.in_ok-text.text.ok.0 ∙
    ap length c.in_ok-text.ensures in
    let inside : c.len.result < length to = omega (
      arith,
      image.same_length,
      c.in_ok-start.ensures.same_length,
      ap length text,
      end,
    ) in
    let read : c.index.result.now ≡ get_or to (length (chars c.args.text.now)) false = get_or_read to
    _ _ inside c.index.ensures false ∙ ap (λ n. get_or to n false) end in
    rw read last
