use Rattle.jp_decimal.proofs.Written.{one-more-zero}
use Rattle.jp_canon.proofs.writer.Writer.zeros.Goals as goal

pub zeros-preserved : goal.zeros-preserved
zeros-preserved c =
    one-more-zero c.args.self.now c.zeros.self c.character.new.self c.zeros.counter
    c.zeros.invariant c.in_ok-character.ensures
