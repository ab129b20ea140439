use Rattle.std.proofs.Common.{◌≡◌, ◌∷◌, ◌∙◌, ap, refl, rules}
use Rattle.jp_evaluate.specs.Lent.{rest_of}
use Rattle.jp_evaluate.specs.Private.Walk.{reached_node}
use Rattle.jp_evaluate.specs.declared.lent.LentNodes.{LentNodes}
use Rattle.jp_evaluate.proofs.Walks.Given.{given-node}
use Rattle.jp_evaluate.proofs.lent.LentNodes.next_placed.Goals as goal

pub returns-in-Ok-clause-gives : goal.returns-in-Ok-clause-gives
returns-in-Ok-clause-gives g c =
    let m = g.V.Lent.meaning in
    let w = c.reach-next.new.self in
    let p = c.in-Ok.reached in
    let v : LentNodes g.row.V.Denot g.row.M.Denot = record {
      evaluation = w.evaluation;
      work = w.work;
      segments = w.segments;
      walk = w.walk;
      last = p.step;
      failed = c.is_err-self.result;
    } in
    let first : rest_of m c.args.self.now ≡ reached_node m w.walk p ∷ rest_of m w = search rules in
    (search rules, search rules, first ∙ ap (λ n. n ∷ rest_of m w) (given-node m v p refl))
