use Rattle.jp_query.proofs.ComponentSpans.{spans-of_components}
use Rattle.jp_query.proofs.laws.spans_of_components.Goals as goal

pub returns : goal.returns
returns c = spans-of_components
