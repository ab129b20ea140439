use Rattle.std.proofs.Common.{sym, ◌∙◌}
use Rattle.std.specs.Prelude.{string_bytes}
use Rattle.std.specs.Str.{chars}
use Rattle.jp_explain.proofs.FromEnd.{told, last-index, script-index}
use Rattle.jp_explain.proofs.mends.words.last_item.Goals as goal

pub returns-then-begins : goal.returns-then-begins
returns-then-begins c =
    told c.spliced.result _ _
    (λ text is. last-index c.args.front.now c.args.rest.now (chars (string_bytes text))
    (sym c.begins.ensures ∙ c.if-begins.true) (rw c.past_word.ensures at is))
    c.spliced.ensures

pub returns : goal.returns
returns c =
    told c.joined.result _ _
    (λ text is. script-index c.args.front.now c.args.rest.now _ _ _ _ _ _ _ (chars (string_bytes text))
    c.cut_at.ensures.parts c.cut_at.ensures.before c.cut_at.ensures.sign c.without_first.ensures
    c.past_blanks.ensures c.split_prefix.ensures.prefix c.split_prefix.ensures.after
    (sym c.begins-2.ensures ∙ c.if-not-begins.false) c.without_first-after.ensures is)
    c.joined.ensures
