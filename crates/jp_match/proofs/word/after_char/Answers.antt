use Rattle.std.proofs.Common.{sym, ◌∙◌}
use Rattle.jp_match.proofs.Texts.OneWidth.{cut-is, leaves-held}
use Rattle.jp_match.proofs.word.after_char.Goals as goal

pub returns-then-holds-clause-leaves : goal.returns-then-holds-clause-leaves
returns-then-holds-clause-leaves c = rw (cut-is _ _ _ c.in_ok-c.ensures) (leaves-held _ _ c.in_ok-c.c
    _ (sym c.holds.ensures.answer ∙ c.if-holds.true))
