use Rattle.std.proofs.Common.{ap, sym, ◌∙◌}
use Rattle.json.specs.Lex.{after_comma, after_value, punctuate}
use Rattle.jp_flat.proofs.Punctuated.{comma_at, comma_passes}
use Rattle.jp_flat.proofs.lexing.behind_comma.Goals as goal

pub returns-clause-goes : goal.returns-clause-goes
returns-clause-goes c =
    let d = c.args.bytes.now in
    ap (punctuate after_comma) c.past_blanks.ensures.same ∙ sym (comma_passes _)
    ∙ ap (punctuate after_value) (sym (comma_at d c.args.comma c.requires.inside c.requires.byte))
