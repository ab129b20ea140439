use Rattle.std.proofs.lemmas.Result.{on_ok_weaker}
use Rattle.jp_evaluate.proofs.Walks.Kept.{keeps_then}
use Rattle.jp_evaluate.proofs.lent.LentNodes.reach.Goals as goal

pub returns-clause-keeps : goal.returns-clause-keeps
returns-clause-keeps g c =
    on_ok_weaker c.advance.result
    (keeps_then c.args.self.now.walk c.begin.new.self.walk c.advance.new.self c.in_ok-begin.ensures.keeps)
    c.advance.ensures.keeps
