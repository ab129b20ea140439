use Rattle.jp_reading.specs.Texts.{is_among}
use Rattle.jp_explain.proofs.Signs.{free-before, sign-behind}
use Rattle.jp_explain.proofs.mends.cuts.cut_at.Goals as goal

pub returns-clause-before : goal.returns-clause-before
returns-clause-before c =
    rw (c.cut_before.ensures.before, c.first_among.ensures)
    (free-before (is_among c.args.signs.now) c.args.text.now)

pub returns-clause-sign : goal.returns-clause-sign
returns-clause-sign c =
    rw (c.cut_before.ensures.after, c.first_among.ensures)
    (sign-behind c.args.signs.now c.args.text.now)
