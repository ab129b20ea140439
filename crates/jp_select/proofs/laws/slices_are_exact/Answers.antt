use Rattle.jp_select.proofs.Slices.Laws.{slice_law}
use Rattle.jp_select.proofs.laws.slices_are_exact.Goals as goal

pub returns : goal.returns
returns c = slice_law
