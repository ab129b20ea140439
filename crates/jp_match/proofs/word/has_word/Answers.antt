use Rattle.std.proofs.Common.{length, refl, rules, arith}
use Rattle.std.specs.Str.{chars}
use Rattle.std.proofs.Math.Nat.{mul-suc}
use Rattle.jp_iregexp.specs.Tree.{tree}
use Rattle.jp_iregexp.specs.Language.{Language}
use Rattle.jp_iregexp.specs.Positions.{positions_of}
use Rattle.jp_match.proofs.Bools.{then_iff}
use Rattle.jp_match.proofs.Steps.EmptyWords.{empty_is}
use Rattle.jp_match.proofs.Texts.OneWidth.{cut-is, cut-end, part-here, part-later, part-end}
use Rattle.jp_match.proofs.word.has_word.Goals as goal

pub returns-then-begins_with_word-clause-answer : goal.returns-then-begins_with_word-clause-answer
returns-then-begins_with_word-clause-answer c = (
  λ e. c.loop-c.invariant.same.0 (part-here _ _ (c.begins_with_word.ensures.begins
      c.if-begins_with_word.true)),
  λ h. refl,
)

pub loop-c-preserved : goal.loop-c-preserved
loop-c-preserved c =
    let cut = cut-is (chars c.loop-c.left.now) c.in-Some.c (chars c.in-Some.next.now)
    c.in-Some.ensures in
    let none = rw cut at (c.begins_with_word.ensures.only c.if-begins_with_word.false) in
    let later = part-later (Language (tree c.args.pattern.now)) c.in-Some.c (chars
    c.in-Some.next.now) none in
    let counted = rw cut at c.loop-c.invariant.counted in
    record {
      text = search rules;
      same = then_iff later (rw cut at c.loop-c.invariant.same);
      counted = omega (
        arith,
        counted,
        c.begins_with_word.ensures.tests.counted,
        mul-suc
            (positions_of (tree c.args.pattern.now)) (length (chars c.in-Some.next.now)),
      );
      kept = omega (arith, c.loop-c.invariant.kept, c.begins_with_word.ensures.tests.kept);
    }

pub returns-clause-answer : goal.returns-clause-answer
returns-clause-answer c =
    let none = cut-end (chars c.loop-c.left.now) c.in_default.ensures in
    let at_end = rw none at c.loop-c.invariant.same in
    rw c.has_empty_word.ensures (then_iff (empty_is (tree c.args.pattern.now))
    (then_iff (part-end (Language (tree c.args.pattern.now))) at_end))
