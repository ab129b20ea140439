use Rattle.std.proofs.Common.{◌≡◌, ◌<◌, get_or, length, arith}
use Rattle.jp_flat.proofs.Punctuated.{gives_key, gives_text}
use Rattle.jp_flat.proofs.lexing.text.Goals as goal

pub returns-then-bytes-at-eq58-clause-gives : goal.returns-then-bytes-at-eq58-clause-gives
returns-then-bytes-at-eq58-clause-gives c =
    let d = c.args.bytes.now in
    let at = c.past_blanks-at.result in
    let room : at < length d = grind arith in
    let byte : get_or d at 0 ≡ 58 = grind arith in
    gives_key d c.args.from c.begun.result c.in_ok-spelled.end at c.in_ok-spelled.spelled
    c.requires.inside c.requires.byte c.requires.begins c.in_ok-spelled.ensures
    c.past_blanks-at.ensures.same room byte c.begun.ensures.goes

pub returns-clause-gives : goal.returns-clause-gives
returns-clause-gives c =
    gives_text c.args.bytes.now c.args.from c.in_ok-point.point c.in_ok-spelled.end
    c.past_blanks-at.result c.in_ok-spelled.spelled c.requires.inside c.requires.byte
    c.requires.begins c.in_ok-spelled.ensures c.past_blanks-at.ensures.same
    c.in_ok-point.ensures.no_name c.in_ok-point.ensures.goes
