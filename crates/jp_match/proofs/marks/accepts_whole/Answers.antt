use Rattle.std.proofs.Common.{length, drop, sym, subst, ◌∙◌, arith}
use Rattle.std.proofs.lemmas.Iterator.{YieldsList-from_chars}
use Rattle.std.proofs.lemmas.Iterator.Consumers.{YieldsList-turn, YieldsList-end}
use Rattle.std.proofs.lemmas.List.{length_push}
use Rattle.std.specs.Str.{chars}
use Rattle.jp_match.specs.Scan.{Left}
use Rattle.jp_match.proofs.Texts.Prefixes.{taken_more, taken_all, taken_rest, left_more, left_nil}
use Rattle.jp_match.proofs.marks.accepts_whole.Goals as goal

pub returns-then-is_spent-clause-accepted : goal.returns-then-is_spent-clause-accepted
returns-then-is_spent-clause-accepted c = (
  λ e. absurd (cc),
  λ h. absurd (c.is_spent.ensures c.if-is_spent.true (drop (length c.loop-c.yielded) (chars
      c.args.text.now))
      ((c.loop-c.invariant.left (drop (length c.loop-c.yielded) (chars c.args.text.now))).1 (subst
      (Left c.args.scan.now) (taken_rest (chars c.args.text.now) c.loop-c.yielded
      c.loop-c.invariant.taken) h))),
)

pub loop-c-preserved : goal.loop-c-preserved
loop-c-preserved c =
    let t = YieldsList-turn (YieldsList-from_chars c.args.text.now c.utf8.text cc) c.loop-c.yielded
    _ c.loop-c.yielded_by _ _ c.in-Some.c c.in-Some.is c.next.ensures.steps in
    let more = length_push c.loop-c.yielded c.in-Some.c in
    record {
      taken = taken_more (chars c.args.text.now) c.loop-c.yielded c.in-Some.c
          c.loop-c.invariant.taken t.0 t.1;
      within = omega (arith, t.0, more);
      left = left_more _ _ (Left c.args.scan.now) c.loop-c.yielded c.in-Some.c
          c.loop-c.invariant.left c.step.ensures.left;
      same = c.step.ensures.same ∙ c.loop-c.invariant.same;
      counted = rw more (let step = rw c.loop-c.invariant.same at c.step.ensures.tests.counted in
          omega (arith, step, c.loop-c.invariant.counted));
      kept = omega (arith, c.step.ensures.tests.kept, c.loop-c.invariant.kept);
    }

pub returns-clause-accepted : goal.returns-clause-accepted
returns-clause-accepted c =
    let t = YieldsList-end (YieldsList-from_chars c.args.text.now c.utf8.text cc) c.loop-c.yielded
    _ c.loop-c.yielded_by _ _ c.in-None.is c.next.ensures.steps in
    let all = taken_all (chars c.args.text.now) c.loop-c.yielded c.loop-c.invariant.taken t.1 in
    let last = left_nil _ (Left c.args.scan.now) c.loop-c.yielded c.loop-c.invariant.left in (
      λ e. subst (Left c.args.scan.now) all (last.0 (c.accepts.ensures.0 e)),
      λ h. c.accepts.ensures.1 (last.1 (subst (Left c.args.scan.now) (sym all) h)),
    )
