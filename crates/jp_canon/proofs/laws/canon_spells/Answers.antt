use Rattle.jp_canon.proofs.Spells.Induction.{canon-accepted, canon-spells}
use Rattle.jp_canon.proofs.laws.canon_spells.Goals as goal

pub returns-clause-spells : goal.returns-clause-spells
returns-clause-spells c = canon-spells

pub returns-clause-accepted : goal.returns-clause-accepted
returns-clause-accepted c = canon-accepted
