use Rattle.jp_match.proofs.Steps.Idle.{unmarked_slice}
use Rattle.jp_match.proofs.sweep.Sweep.is_unmarked.Goals as goal

pub returns : goal.returns
returns c = unmarked_slice c.args.self.now.at c.args.positions c.args.self.now.marks.items _ (rw
    c.deref.ensures.value at c.is_any.ensures)
