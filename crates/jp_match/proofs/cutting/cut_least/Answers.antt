use Rattle.std.proofs.Common.{None, sym, ◌∙◌, arith}
use Rattle.jp_iregexp.specs.Tree.{tree}
use Rattle.jp_match.proofs.Bools.{not_false}
use Rattle.jp_match.proofs.Steps.EmptyWords.{empty_is}
use Rattle.jp_match.proofs.Texts.Cutting.{no_least, too_many, same_self}
use Rattle.jp_match.proofs.cutting.cut_least.Goals as goal

pub returns-then-least-chars-clause-same : goal.returns-then-least-chars-clause-same
returns-then-least-chars-clause-same c = same_self _ _

pub returns-then-not-has_empty_word-clause-none : goal.returns-then-not-has_empty_word-clause-none
returns-then-not-has_empty_word-clause-none c = λ e. too_many (tree c.args.inner.now) c.args.least
    None c.args.chars (omega (arith, c.if-least-chars.false)) (λ nil. not_false c.has_empty_word.result
    c.if-not-has_empty_word.true (c.has_empty_word.ensures ∙ (empty_is (tree c.args.inner.now)).1
    nil))

pub returns-clause-same : goal.returns-clause-same
returns-clause-same c = no_least (tree c.args.inner.now) c.args.least None c.args.chars tt (omega (
  arith,
  c.if-least-chars.false,
)) ((empty_is (tree c.args.inner.now)).0 (sym c.has_empty_word.ensures ∙
    c.if-not-has_empty_word.false))
