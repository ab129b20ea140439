use Rattle.jp_query.proofs.Levels.{levels-only_add}
use Rattle.jp_query.proofs.laws.levels_only_add.Goals as goal

pub returns : goal.returns
returns c = levels-only_add
