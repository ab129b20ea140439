use Rattle.jp_select.proofs.Stepping.{takes_then}
use Rattle.jp_lines.proofs.count.count_rest.Goals as goal

pub returns-in_err-next-clause-takes : goal.returns-in_err-next-clause-takes
returns-in_err-next-clause-takes g c =
    takes_then c.loop-next.invariant.taken c.next_value.ensures.takes

pub returns-in_err-count-clause-takes : goal.returns-in_err-count-clause-takes
returns-in_err-count-clause-takes g c =
    takes_then c.loop-next.invariant.taken c.next_value.ensures.takes

pub returns-clause-takes : goal.returns-clause-takes
returns-clause-takes g c = takes_then c.loop-next.invariant.taken c.next_value.ensures.takes
