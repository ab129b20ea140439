use Rattle.std.proofs.Common.{◌∙◌, ap, sym}
use Rattle.std.specs.Str.{bytes_eq}
use Rattle.std.proofs.lemmas.Map.Text.{is_eq-slice_cmp}
use Rattle.jp_flat.proofs.parts.is_same.Goals as goal

pub returns : goal.returns
returns c =
    c.eq.ensures ∙ ap (λ text. bytes_eq text c.args.bytes.now) c.as_bytes-text.ensures.value
    ∙ sym (is_eq-slice_cmp c.args.text.now c.args.bytes.now)
