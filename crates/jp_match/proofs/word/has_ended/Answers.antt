use Rattle.std.proofs.Common.{◌∙◌, sym, eq-eqb}
use Rattle.std.proofs.lemmas.Bool.{eqb-true}
use Rattle.jp_match.proofs.Texts.OneWidth.{no-chars}
use Rattle.jp_match.proofs.word.has_ended.Goals as goal

pub returns : goal.returns
returns c = (
  λ e. (no-chars c.args.text.now c.utf8.text).0 (eqb-true _ 0 (sym c.is_empty.ensures ∙ e)),
  λ e. c.is_empty.ensures ∙ eq-eqb _ 0 ((no-chars c.args.text.now c.utf8.text).1 e),
)
