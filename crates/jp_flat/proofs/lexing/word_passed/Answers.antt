use Rattle.std.proofs.Common.{◌≡◌, ◌<◌, true, get_or, length, ap, arith}
use Rattle.jp_flat.specs.Private.Tokens.{ends_byte}
use Rattle.jp_flat.proofs.Punctuated.{ends_at}
use Rattle.jp_flat.proofs.lexing.word_passed.Goals as goal

pub returns-then-bytes-end-eq44-clause-ends : goal.returns-then-bytes-end-eq44-clause-ends
returns-then-bytes-end-eq44-clause-ends c =
    let d = c.args.bytes.now in
    let end = c.args.end in
    let room : end < length d = grind arith in
    let byte : get_or d end 0 ≡ 44 = grind arith in
    let ends : ends_byte (get_or d end 0) ≡ true = ap ends_byte byte in
    ends_at d end room ends
