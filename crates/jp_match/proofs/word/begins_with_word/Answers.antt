use Rattle.std.proofs.Common.{◌∙◌, sym}
use Rattle.jp_match.proofs.Texts.OneWidth.{never-prefix, prefix-found, no-prefix}
use Rattle.jp_match.proofs.word.begins_with_word.Goals as goal

pub returns-clause-only : goal.returns-clause-only
returns-clause-only c =
    let rules_out = rw c.in-Some.is at c.requires.begins in
    λ e h. never-prefix _ c.args.c _ (rules_out c.args.c (sym c.rule_out.ensures ∙
    c.if-rule_out.true)) c.requires.first h

pub returns-2-clause-begins : goal.returns-2-clause-begins
returns-2-clause-begins c = λ e. prefix-found _ _ _ c.after_first_word.result c.after_first_word.ensures.leaves
    (sym c.is_some.ensures ∙ e)

pub returns-2-clause-only : goal.returns-2-clause-only
returns-2-clause-only c = λ e h. no-prefix _ _ _ c.after_first_word.result c.after_first_word.ensures.leaves
    (sym c.is_some.ensures ∙ e) h
