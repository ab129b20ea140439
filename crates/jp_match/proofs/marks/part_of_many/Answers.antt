use Rattle.std.proofs.lemmas.Result.{IfOk-weaker}
use Rattle.std.specs.Str.{chars}
use Rattle.jp_iregexp.specs.Tree.{tree}
use Rattle.jp_iregexp.specs.Language.{Language}
use Rattle.jp_match.proofs.Texts.Cutting.{same_part}
use Rattle.jp_match.proofs.Texts.Prefixes.{part_is}
use Rattle.jp_match.proofs.marks.part_of_many.Goals as goal

pub returns-in-Some : goal.returns-in-Some
returns-in-Some c =
    let begins = rw c.in-Some.is at c.in_ok-scan.ensures in
    let same = same_part (Language (tree c.in_ok-cut.cut)) (Language (tree c.args.pattern.now))
    (chars c.args.text.now) (rw c.char_count.ensures at c.in_ok-cut.ensures) in
    let part = part_is (Language (tree c.in_ok-cut.cut)) (chars c.args.text.now) in
    record {
      found = (
        λ e. let (count, within, left) = c.accepts_prefix.ensures.accepted.0 e in
            same.0 (part.0 (count, within, (begins.1.left _).0 left)),
        λ h. let (count, within, suffix) = part.1 (same.1 h) in
            c.accepts_prefix.ensures.accepted.1 (count, within, (begins.1.left _).1 suffix),
      );
      kept = c.accepts_prefix.ensures.tests.kept;
    }

pub returns : goal.returns
returns c =
    let same = same_part (Language (tree c.in_ok-cut.cut)) (Language (tree c.args.pattern.now))
    (chars c.args.text.now) (rw c.char_count.ensures at c.in_ok-cut.ensures) in
    record {
      found = IfOk-weaker c.part.result _ _ (λ answer exact. (
        λ e. same.0 (exact.0 e),
        λ h. exact.1 (same.1 h),
      )) c.part.ensures.exact;
      kept = c.part.ensures.kept;
    }
