use Rattle.std.proofs.Common.{◌≤◌, ◌+◌, ◌-◌, arith}
use Rattle.std.specs.Str.{chars}
use Rattle.jp_json.proofs.Fronts.{passed-behind}
use Rattle.jp_json.proofs.Places.{IsPassed, passed-feed-sized, passed-other-sized}
use Rattle.jp_json.proofs.place.line_and_column.Goals as goal
use Rattle.jp_json.proofs.place.line_and_column.Goals.{then-next-eq10, else-next-eq10}

pub characters-preserved : goal.characters-preserved
characters-preserved c =
    let l = c.characters in
    let f = c.behind_plain_front-rest.ensures.front in
    let passed : IsPassed (chars c.args.text.now) (chars c.in-Some.after.now) c.args.offset
    (l.left - c.len_utf8-left.result) c.if-next-eq10.feeds c.if-next-eq10.since =
    elim c.if-next-eq10.branch [
      | then-next-eq10 w ↦ rw (w.feeds-is, w.since-is)
          (passed-feed-sized _ _ _ _ _ _ _ _ _ c.len_utf8-left.ensures.value l.invariant.passed
          c.in-Some.ensures.parts.0 w.if-next-eq10.true)
      | else-next-eq10 w ↦ rw (w.feeds-is, w.since-is)
          (passed-other-sized _ _ _ _ _ _ _ _ _ c.len_utf8-left.ensures.value l.invariant.passed
          c.in-Some.ensures.parts.0 w.if-next-eq10.false)
    ] in
    let feeds : c.if-next-eq10.feeds ≤ l.feeds + 1 =
    elim c.if-next-eq10.branch [
      | then-next-eq10 w ↦ omega (arith, w.feeds-is)
      | else-next-eq10 w ↦ omega (arith, w.feeds-is)
    ] in
    let since : c.if-next-eq10.since ≤ l.since + 1 =
    elim c.if-next-eq10.branch [
      | then-next-eq10 w ↦ omega (arith, w.since-is)
      | else-next-eq10 w ↦ omega (arith, w.since-is)
    ] in
    record {
      utf8 = c.behind_plain_front-rest.ensures.utf8;
      passed = passed-behind _ _ _ _ _ _ _ _ f (omega arith) passed;
      feeds_fit = omega (
        arith,
        feeds,
        f.size,
        c.in-Some.ensures.parts.2,
        c.len_utf8-left.ensures.value,
        c.len_utf8-left.ensures.lower_bound,
        l.invariant.feeds_fit,
      );
      since_fits = omega (
        arith,
        since,
        f.size,
        c.in-Some.ensures.parts.2,
        c.len_utf8-left.ensures.value,
        c.len_utf8-left.ensures.lower_bound,
        l.invariant.since_fits,
      );
    }
