use Rattle.std.proofs.Common.{arith}
use Rattle.std.proofs.lemmas.Result.{IfOk-weaker}
use Rattle.std.specs.Str.{chars}
use Rattle.jp_match.proofs.marks.whole_of_many.Goals as goal

pub returns-in-Some : goal.returns-in-Some
returns-in-Some c =
    let begins = rw c.in-Some.is at c.in_ok-scan.ensures in
    let same = c.in_ok-cut.ensures.each (chars c.args.text.now) (omega (
      arith,
      c.char_count.ensures,
    )) in
    record {
      found = (
        λ e. same.0 ((begins.1.left _).0 (c.accepts_whole.ensures.accepted.0 e)),
        λ h. c.accepts_whole.ensures.accepted.1 ((begins.1.left _).1 (same.1 h)),
      );
      kept = c.accepts_whole.ensures.tests.kept;
    }

pub returns : goal.returns
returns c =
    let same = c.in_ok-cut.ensures.each (chars c.args.text.now) (omega (
      arith,
      c.char_count.ensures,
    )) in
    record {
      found = IfOk-weaker c.whole.result _ _ (λ answer exact. (
        λ e. same.0 (exact.0 e),
        λ h. exact.1 (same.1 h),
      )) c.whole.ensures.exact;
      kept = c.whole.ensures.kept;
    }
