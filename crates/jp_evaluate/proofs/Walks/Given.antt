-- Where the node is that was given last.
use Rattle.std.proofs.Common.{◌≡◌, ◌++◌, [], ap₂, sym}
use Rattle.jp_document.specs.Node.{node_at}
use Rattle.jp_document.specs.Value.{Value}
use Rattle.jp_evaluate.specs.Lent.{given_node}
use Rattle.jp_evaluate.specs.Private.Walk.{reached_node, steps_of, walk_frames}
use Rattle.jp_evaluate.specs.declared.lent.LentNodes.{LentNodes}
use Rattle.jp_evaluate.specs.declared.walk.Reached.{Reached}
use Rattle.jp_evaluate.proofs.Walks.Kept.{reached-steps}

-- the node that was reached is where its last step leads
pub given-node : {V M : Type 0} (m : V → Value) (v : LentNodes V M) (p : Reached V) → v.last ≡ p.step
    → reached_node m v.walk p ≡ given_node m v p.value
given-node m v p last =
    ap₂ (λ l o. node_at (l ++ steps_of o) (m p.value)) (reached-steps [] (walk_frames v.walk)) (sym last)
