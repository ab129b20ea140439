use Rattle.jp_match.proofs.Bools.{is_false}
use Rattle.jp_match.proofs.marks.stays_within.Goals as goal

pub returns-2-clause-refuses : goal.returns-2-clause-refuses
returns-2-clause-refuses c = λ e. c.is_at_rest.ensures.refuses c.if-not-is_at_rest.false c.args.c
    (c.may_begin.ensures.never (is_false _ e))
