use Rattle.std.proofs.Common.{◌≡◌, ◌<◌, ◌≤◌, get_or, length, arith}
use Rattle.jp_flat.proofs.Punctuated.{no_colon_brace, no_colon_bracket, no_colon_end}
use Rattle.jp_flat.proofs.lexing.is_last.Goals as goal

pub returns-then-at-bytes : goal.returns-then-at-bytes
returns-then-at-bytes c same =
    let over : length c.args.bytes.now ≤ c.args.at = grind arith in
    no_colon_end c.args.bytes.now c.args.at over

pub returns-in-125 : goal.returns-in-125
returns-in-125 c same =
    let d = c.args.bytes.now in
    let room : c.args.at < length d = grind arith in
    let byte : get_or d c.args.at 0 ≡ 125 = grind arith in
    no_colon_brace d c.args.at room byte

pub returns-in-93 : goal.returns-in-93
returns-in-93 c same =
    let d = c.args.bytes.now in
    let room : c.args.at < length d = grind arith in
    let byte : get_or d c.args.at 0 ≡ 93 = grind arith in
    no_colon_bracket d c.args.at room byte
