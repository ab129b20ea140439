use Rattle.std.proofs.Common.{◌≡◌, ◌++◌, sym, ap, ◌∙◌, refl}
use Rattle.std.specs.Char.{encode_utf8}
use Rattle.std.proofs.lemmas.Str.{chars_past_char}
use Rattle.jp_match.proofs.word.cut_first.Goals as goal

pub returns : goal.returns
returns c =
    let is : c.args.text.now ≡ encode_utf8 c.in_ok-c.c ++ c.as_str.result.now = sym
    c.chars-rest.ensures.rest ∙ c.in_ok-c.ensures.steps.0 ∙ ap (λ rest. encode_utf8 c.in_ok-c.c ++
    rest) (sym c.as_str.ensures) in
    rw (chars_past_char _ _ c.in_ok-c.c c.utf8.text is) refl
