use Rattle.std.proofs.Common.{◌≡◌, inl, inr, ◌+◌, ◌*◌, ◌≤◌, length, take, sym, ap, subst, ◌∙◌, arith}
use Rattle.std.proofs.lemmas.Bool.{cases_lt}
use Rattle.std.proofs.lemmas.Iterator.{YieldsList-from_chars}
use Rattle.std.proofs.lemmas.Iterator.Consumers.{YieldsList-turn, YieldsList-end}
use Rattle.std.proofs.lemmas.List.{length_push}
use Rattle.std.specs.Str.{chars}
use Rattle.jp_iregexp.specs.Positions.{positions_of}
use Rattle.jp_match.specs.Scan.{Left, tree_of}
use Rattle.jp_match.proofs.Bools.{not_false}
use Rattle.jp_match.proofs.Steps.Sweeping.{no_tests, tests_up_to}
use Rattle.jp_match.proofs.Texts.Prefixes.{taken_more, left_more, left_nil, within_all, tests_more}
use Rattle.jp_match.proofs.marks.accepts_prefix.Goals as goal

pub returns-then-advance-clause-tests : goal.returns-then-advance-clause-tests
returns-then-advance-clause-tests c =
    let t = YieldsList-turn (YieldsList-from_chars c.args.text.now c.utf8.text cc) c.loop-c.yielded
    _ c.loop-c.yielded_by _ _ c.in-Some.c c.in-Some.is c.next.ensures.steps in
    let P = positions_of (tree_of c.args.scan.now) in
    let n = length c.loop-c.yielded in
    let step = rw c.loop-c.invariant.same at c.advance.ensures.tests in
    let room = rw c.loop-c.invariant.same at c.stays_within.ensures.tests in
    let added = rw c.loop-c.invariant.same at c.positions.ensures in
    let budget : c.saturating_add-budget.result ≤ c.args.tests.now + P * (n + 1) = omega (
      arith,
      c.saturating_add-budget.ensures,
      added,
      c.loop-c.invariant.budget,
    ) in
    let all = within_all P (n + 1) (length (chars c.args.text.now)) (omega (arith, t.0)) in
    tests_up_to all (tests_more n budget c.loop-c.invariant.tests room step)

pub returns-then-advance-clause-accepted : goal.returns-then-advance-clause-accepted
returns-then-advance-clause-accepted c =
    let last = left_nil _ (Left c.args.scan.now) c.loop-c.yielded c.loop-c.invariant.left in
    let here = last.0 (c.advance.ensures.accepted.0 c.if-advance.true) in (
      λ e. (
        length c.loop-c.yielded,
        c.loop-c.invariant.within,
        subst (Left c.args.scan.now) c.loop-c.invariant.taken here,
      ),
      λ h. cc,
    )

pub loop-c-preserved-then-stays_within : goal.loop-c-preserved-then-stays_within
loop-c-preserved-then-stays_within c =
    let t = YieldsList-turn (YieldsList-from_chars c.args.text.now c.utf8.text cc) c.loop-c.yielded
    _ c.loop-c.yielded_by _ _ c.in-Some.c c.in-Some.is c.next.ensures.steps in
    let P = positions_of (tree_of c.args.scan.now) in
    let n = length c.loop-c.yielded in
    let more = length_push c.loop-c.yielded c.in-Some.c in
    let last = left_nil _ (Left c.args.scan.now) c.loop-c.yielded c.loop-c.invariant.left in
    let room = rw c.loop-c.invariant.same at c.stays_within.ensures.tests in
    let added = rw c.loop-c.invariant.same at c.positions.ensures in
    let budget : c.saturating_add-budget.result ≤ c.args.tests.now + P * (n + 1) = omega (
      arith,
      c.saturating_add-budget.ensures,
      added,
      c.loop-c.invariant.budget,
    ) in
    record {
      taken = taken_more (chars c.args.text.now) c.loop-c.yielded c.in-Some.c
          c.loop-c.invariant.taken t.0 t.1;
      within = omega (arith, t.0, more);
      none = λ count below left. elim (cases_lt count (length c.loop-c.yielded)) [
        | inl earlier ↦ c.loop-c.invariant.none count earlier left
        | inr here ↦
            let at : count ≡ length c.loop-c.yielded = omega (arith, more) in
            let now = subst (Left c.args.scan.now) (ap (λ n. take n (chars c.args.text.now)) at ∙
            sym c.loop-c.invariant.taken) left in
            c.stays_within.ensures.refuses c.if-stays_within.true (last.1 now)
      ];
      left = left_more _ _ (Left c.args.scan.now) c.loop-c.yielded c.in-Some.c
          c.loop-c.invariant.left (c.stays_within.ensures.stays c.if-stays_within.true);
      same = c.loop-c.invariant.same;
      tests = rw more (tests_more n budget c.loop-c.invariant.tests room no_tests);
      budget = rw more budget;
    }

pub loop-c-preserved : goal.loop-c-preserved
loop-c-preserved c =
    let P = positions_of (tree_of c.args.scan.now) in
    let n = length c.loop-c.yielded in
    let step = rw c.loop-c.invariant.same at c.advance.ensures.tests in
    let room = rw c.loop-c.invariant.same at c.stays_within.ensures.tests in
    let added = rw c.loop-c.invariant.same at c.positions.ensures in
    let budget : c.saturating_add-budget.result ≤ c.args.tests.now + P * (n + 1) = omega (
      arith,
      c.saturating_add-budget.ensures,
      added,
      c.loop-c.invariant.budget,
    ) in
    let t = YieldsList-turn (YieldsList-from_chars c.args.text.now c.utf8.text cc) c.loop-c.yielded
    _ c.loop-c.yielded_by _ _ c.in-Some.c c.in-Some.is c.next.ensures.steps in
    let more = length_push c.loop-c.yielded c.in-Some.c in
    let last = left_nil _ (Left c.args.scan.now) c.loop-c.yielded c.loop-c.invariant.left in
    record {
      taken = taken_more (chars c.args.text.now) c.loop-c.yielded c.in-Some.c
          c.loop-c.invariant.taken t.0 t.1;
      within = omega (arith, t.0, more);
      none = λ count below left. elim (cases_lt count (length c.loop-c.yielded)) [
        | inl earlier ↦ c.loop-c.invariant.none count earlier left
        | inr here ↦
            let at : count ≡ length c.loop-c.yielded = omega (arith, more) in
            let now = subst (Left c.args.scan.now) (ap (λ n. take n (chars c.args.text.now)) at ∙
            sym c.loop-c.invariant.taken) left in
            not_false c.advance.result c.if-advance.false (c.advance.ensures.accepted.1 (last.1
            now))
      ];
      left = left_more _ _ (Left c.args.scan.now) c.loop-c.yielded c.in-Some.c
          c.loop-c.invariant.left c.advance.ensures.left;
      same = c.advance.ensures.same ∙ c.loop-c.invariant.same;
      tests = rw more (tests_more n budget c.loop-c.invariant.tests room step);
      budget = rw more budget;
    }

pub returns-clause-accepted : goal.returns-clause-accepted
returns-clause-accepted c =
    let t = YieldsList-end (YieldsList-from_chars c.args.text.now c.utf8.text cc) c.loop-c.yielded
    _ c.loop-c.yielded_by _ _ c.in-None.is c.next.ensures.steps in
    let last = left_nil _ (Left c.args.scan.now) c.loop-c.yielded c.loop-c.invariant.left in (
      λ e. (
        length c.loop-c.yielded,
        c.loop-c.invariant.within,
        subst (Left c.args.scan.now) c.loop-c.invariant.taken (last.0 (c.accepts.ensures.0 e)),
      ),
      λ h. elim (cases_lt h.0 (length c.loop-c.yielded)) [
        | inl earlier ↦ absurd (c.loop-c.invariant.none h.0 earlier h.2)
        | inr here ↦
            let at : h.0 ≡ length c.loop-c.yielded = (let within = h.1 in omega (arith, t.1)) in
            c.accepts.ensures.1 (last.1 (subst (Left c.args.scan.now) (ap (λ n. take n (chars
            c.args.text.now)) at ∙ sym c.loop-c.invariant.taken) h.2))
      ],
    )
