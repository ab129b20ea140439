use Rattle.jp_check.proofs.OwnText.{fault-at_its_component}
use Rattle.jp_check.proofs.laws.fault_at_its_component.Goals as goal

pub returns : goal.returns
returns c = λ profile. fault-at_its_component profile c.spans_of_components.ensures
