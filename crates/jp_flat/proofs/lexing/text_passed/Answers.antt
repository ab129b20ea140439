use Rattle.std.proofs.Common.{◌≡◌, ◌<◌, get_or, length, arith}
use Rattle.jp_flat.proofs.Punctuated.{no_colon_comma}
use Rattle.jp_flat.proofs.lexing.text_passed.Goals as goal

pub returns-then-bytes-at-eq44-clause-no_name : goal.returns-then-bytes-at-eq44-clause-no_name
returns-then-bytes-at-eq44-clause-no_name c =
    let d = c.args.bytes.now in
    let at = c.args.at in
    let room : at < length d = grind arith in
    let byte : get_or d at 0 ≡ 44 = grind arith in
    no_colon_comma d at room byte
