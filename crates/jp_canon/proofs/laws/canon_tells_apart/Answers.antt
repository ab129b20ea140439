use Rattle.jp_canon.proofs.Spells.Induction.{canon-tells-apart}
use Rattle.jp_canon.proofs.laws.canon_tells_apart.Goals as goal

pub returns : goal.returns
returns c = canon-tells-apart c.one_reading.ensures
