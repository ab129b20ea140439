use Rattle.jp_match.proofs.Steps.Copies.{marked_from}
use Rattle.jp_match.proofs.copies.Copies.is_end_marked.Goals as goal

pub returns : goal.returns
returns c =
    marked_from _ _ c.args.self.least _ c.args.marks.now c.saturating_sub.ensures
    c.if-marks-self.false c.if-self.false c.is_any-2.ensures
