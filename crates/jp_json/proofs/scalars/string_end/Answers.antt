use Rattle.std.proofs.Common.{◌+◌, arith}
use Rattle.jp_json.proofs.Strings.{string-end, quote-reach, escape-reach, no-reach}
use Rattle.jp_json.proofs.scalars.string_end.Goals as goal

pub returns-in-34-clause-string : goal.returns-in-34-clause-string
returns-in-34-clause-string c =
    let whole = c.characters.invariant.whole in
    let len = quote-reach c.args.text.now c.characters.at c.characters-test.true c.in-34.is in
    string-end c.args.text.now c.args.from (c.characters.at + 1) (omega (arith, whole, len))

pub characters-preserved-then-at-text : goal.characters-preserved-then-at-text
characters-preserved-then-at-text c =
    let low = c.characters.invariant.low in
    let whole = c.characters.invariant.whole in
    let within = c.if-at-text.true in
    let len = escape-reach c.args.text.now c.characters.at within c.in-92.is in
    record {
      low = omega (arith, low);
      high = omega (arith, within);
      whole = omega (arith, whole, len);
    }

pub returns-clause-string : goal.returns-clause-string
returns-clause-string c =
    let whole = c.characters.invariant.whole in
    let len = no-reach c.args.text.now c.characters.at c.characters-test.false in
    string-end c.args.text.now c.args.from c.characters.at (omega (arith, whole, len))
