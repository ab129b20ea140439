use Rattle.std.proofs.Common.{inl, inr}
use Rattle.jp_match.proofs.Bools.{not_false}
use Rattle.jp_match.proofs.Steps.StepParts.{rest_none}
use Rattle.jp_match.proofs.scan.Scan.is_spent.Goals as goal

pub returns-then-not-self : goal.returns-then-not-self
returns-then-not-self c = λ e word left. elim left [
  | inl r ↦ rest_none _ _ word (c.args.self.now.marking.no_mark e) r
  | inr s ↦ not_false c.args.self.now.at_start c.if-not-self.true s.0
]
