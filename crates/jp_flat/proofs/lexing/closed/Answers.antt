use Rattle.std.proofs.Common.{◌≡◌, true, get_or, arith}
use Rattle.json.specs.Lex.{may_close}
use Rattle.jp_flat.specs.Private.Tokens.{expected_of}
use Rattle.jp_flat.proofs.Punctuated.{gives_end_array, gives_end_object}
use Rattle.jp_flat.proofs.lexing.closed.Goals as goal

pub returns-then-byte-eq125-clause-gives : goal.returns-then-byte-eq125-clause-gives
returns-then-byte-eq125-clause-gives c =
    let byte : get_or c.args.bytes.now c.args.from.at 0 ≡ 125 = grind arith in
    let closes : may_close (expected_of c.args.from.expected) ≡ true = grind arith in
    gives_end_object c.args.bytes.now c.args.from c.passed-point.result c.requires.inside byte closes
    c.passed-point.ensures.goes

pub returns-else-byte-eq125-clause-gives : goal.returns-else-byte-eq125-clause-gives
returns-else-byte-eq125-clause-gives c =
    let byte : get_or c.args.bytes.now c.args.from.at 0 ≡ 93 = grind arith in
    let closes : may_close (expected_of c.args.from.expected) ≡ true = grind arith in
    gives_end_array c.args.bytes.now c.args.from c.passed-point.result c.requires.inside byte closes
    c.passed-point.ensures.goes
