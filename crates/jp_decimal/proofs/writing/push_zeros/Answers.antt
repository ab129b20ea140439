-- For `push_zeros`.
use Rattle.std.proofs.Common.{◌≡◌, arith, rules, string_bytes}
use Rattle.jp_decimal.proofs.Written.{one-more-zero, some-zeros}
use Rattle.jp_decimal.proofs.writing.push_zeros.Goals as goal

pub loop-preserved : goal.loop-preserved
loop-preserved c =
    one-more-zero (string_bytes c.args.text.now) (string_bytes c.loop.text) (string_bytes c.push_str.new.self) c.loop.counter
    c.loop.invariant c.in_ok-push_str.ensures.bytes

pub returns-in_err-push_str-clause-kept : goal.returns-in_err-push_str-clause-kept
returns-in_err-push_str-clause-kept c =
    let stays : string_bytes c.push_str.new.self ≡ string_bytes c.loop.text = search rules in
    some-zeros (string_bytes c.args.text.now) (string_bytes c.loop.text) (string_bytes c.push_str.new.self) c.loop.counter c.args.count
    (omega (arith, c.loop-test.true)) c.loop.invariant stays
