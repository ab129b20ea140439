use Rattle.std.proofs.Common.{sym}
use Rattle.jp_query.proofs.CappedIntegers.{size-natural}
use Rattle.jp_query.proofs.ints.size.Goals as goal

pub returns-in-Some : goal.returns-in-Some
returns-in-Some c =
    rw (size-natural c.args.reader.now c.in-Some.first (sym c.in-Some.ensures)
    (sym c.if-is_leading_digit.ensures.test)) c.natural.ensures.taken
