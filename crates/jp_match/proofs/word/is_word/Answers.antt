use Rattle.std.proofs.Common.{Some, ap}
use Rattle.std.specs.Str.{chars}
use Rattle.jp_iregexp.specs.Tree.{tree}
use Rattle.jp_match.proofs.Steps.EmptyWords.{empty_is}
use Rattle.jp_match.proofs.Texts.OneWidth.{whole-is}
use Rattle.jp_match.proofs.word.is_word.Goals as goal

pub returns-then-has_ended-clause-answer : goal.returns-then-has_ended-clause-answer
returns-then-has_ended-clause-answer c =
    let none = c.has_ended.ensures.0 c.if-has_ended.true in
    rw (none, c.has_empty_word.ensures) (empty_is (tree c.args.pattern.now))

pub returns-in-Some-clause-answer : goal.returns-in-Some-clause-answer
returns-in-Some-clause-answer c =
    let whole = whole-is (tree c.args.pattern.now) (chars c.args.text.now) _ c.in-Some.ensures.leaves
    in (
      λ e. whole.1 (ap Some (c.has_ended-in-Some.ensures.0 e)),
      λ h. c.has_ended-in-Some.ensures.1 (let e = whole.0 h in cc),
    )

pub returns-in-None-clause-answer : goal.returns-in-None-clause-answer
returns-in-None-clause-answer c =
    let whole = whole-is (tree c.args.pattern.now) (chars c.args.text.now) _ c.in-None.ensures.leaves
    in (λ e. absurd (cc), λ h. let e = whole.0 h in absurd (cc))
