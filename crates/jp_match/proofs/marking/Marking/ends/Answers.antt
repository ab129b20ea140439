use Rattle.jp_match.proofs.Steps.Kept.{ends_by}
use Rattle.jp_match.proofs.marking.Marking.ends.Goals as goal

pub returns : goal.returns
returns c = ends_by _ _ _ _ _ c.args.self.now.reached c.args.self.now.reached_entered
