use Rattle.std.proofs.Common.{take, drop, ◌-◌, refl}
use Rattle.jp_flat.specs.Private.Tokens.{token_of}
use Rattle.jp_flat.proofs.Punctuated.{gives_literal}
use Rattle.jp_flat.proofs.lexing.literal.Goals as goal

pub returns-clause-gives : goal.returns-clause-gives
returns-clause-gives c =
    let d = c.args.bytes.now in
    let from = c.args.from in
    let end = c.args.end in
    gives_literal d (take (end - from.at) (drop from.at d)) (token_of c.args.token) from
    c.in_ok-point.point end c.requires.name c.requires.begins c.requires.inside.0 refl
    c.in_ok-point.ensures.ends.word c.in_ok-point.ensures.goes
