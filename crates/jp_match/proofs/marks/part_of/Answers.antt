use Rattle.std.specs.Str.{chars}
use Rattle.jp_iregexp.specs.Tree.{tree}
use Rattle.jp_iregexp.specs.Language.{Language}
use Rattle.jp_match.proofs.Texts.Prefixes.{part_is}
use Rattle.jp_match.proofs.marks.part_of.Goals as goal

pub returns-in-Some-clause-found : goal.returns-in-Some-clause-found
returns-in-Some-clause-found c =
    let begins = rw c.in-Some.is at c.in_ok-scan.ensures in
    let part = part_is (Language (tree c.args.counted.pattern.now)) (chars c.args.text.now) in
    record {
      found = (
        λ e. let (count, within, left) = c.accepts_prefix.ensures.accepted.0 e in
            part.0 (count, within, (begins.1.left _).0 left),
        λ h. let (count, within, suffix) = part.1 h in
            c.accepts_prefix.ensures.accepted.1 (count, within, (begins.1.left _).1 suffix),
      );
      kept = c.accepts_prefix.ensures.tests.kept;
    }
