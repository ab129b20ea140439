use Rattle.std.proofs.lemmas.Result.{IfOk-weaker}
use Rattle.jp_command.proofs.Matches.{fails_as, fails_on_ok, fails_on_err, matches_as}
use Rattle.jp_lines.proofs.Matches.{jp_lines_is_free, jp_lines_is_simple}
use Rattle.jp_lines.proofs.words.matches_of.Goals as goal

pub returns-clause-taken : goal.returns-clause-taken
returns-clause-taken c = fails_on_ok _ _
    (fails_as _ _ _ c.in_ok-command.ensures _ jp_lines_is_free
    c.try_get_matches_from.ensures.kinds)

pub returns-clause-entered : goal.returns-clause-entered
returns-clause-entered c =
    IfOk-weaker c.try_get_matches_from.result _ _
    (λ m h. matches_as _ _ _ c.in_ok-command.ensures m jp_lines_is_simple h)
    c.try_get_matches_from.ensures.matches

pub returns-clause-refused : goal.returns-clause-refused
returns-clause-refused c = fails_on_err _ _
    (fails_as _ _ _ c.in_ok-command.ensures _ jp_lines_is_free
    c.try_get_matches_from.ensures.kinds)
