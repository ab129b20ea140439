use Rattle.jp_iregexp.specs.Tree.{tree}
use Rattle.jp_match.proofs.Texts.Scanning.{left_ends, left_step}
use Rattle.jp_match.proofs.scan.Scan.advance.Goals as goal

pub returns-clause-accepted : goal.returns-clause-accepted
returns-clause-accepted c = left_ends _ _ _ _ _ c.step-ended.ensures.step.ends

pub returns-clause-left : goal.returns-clause-left
returns-clause-left c = λ word.
    rw c.step-ended.ensures.same (left_step (tree c.args.self.now.marking.pattern.now)
    c.args.self.now.anywhere c.args.self.now.at_start c.args.c _ _ _ c.step-ended.ensures.step
    word)
