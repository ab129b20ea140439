use Rattle.std.proofs.Common.{sym, ◌∙◌}
use Rattle.jp_reading.proofs.Texts.Chars.{skip-past, skip-none}
use Rattle.jp_reading.proofs.reader.Reader.skip.Goals as goal

pub blanks-preserved : goal.blanks-preserved
blanks-preserved c =
    rw c.bump.ensures.past
    (skip-past c.blanks.self (sym c.is_at_blank.ensures ∙ c.blanks-test.true) ∙ c.blanks.invariant)

pub returns : goal.returns
returns c = sym (skip-none c.blanks.self (sym c.is_at_blank.ensures ∙ c.blanks-test.false))
    ∙ c.blanks.invariant
