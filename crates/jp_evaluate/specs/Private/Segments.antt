-- What an iterator of nodes follows, and what is still to come; m says what a value that is lent
-- stands for.
use Rattle.std.specs.Prelude.{◌≡◌, Bool, true, false, List}
use Rattle.jp_document.specs.Node.{Node}
use Rattle.jp_document.specs.Value.{Value}
use Rattle.jp_tree.specs.Views.{query_of}
use Rattle.jp_tree.specs.declared.tree.Query.{Query, out-Query}
use Rattle.jp_tree.specs.declared.tree.Segment.{Segment}
use Rattle.jp_evaluate.specs.Nodelist.{nodelist}
use Rattle.jp_evaluate.specs.Private.Walk.{walk_reaches}
use Rattle.jp_evaluate.specs.declared.lent.Segments.{Segments}
use Rattle.jp_evaluate.specs.declared.lent.Segments.TheVariants.{Lent, Settled, Unsettled}
use Rattle.jp_evaluate.specs.declared.walk.Walk.{Walk}

abbrev pub followed : Segments → List Segment
followed (Unsettled q) = (out-Query q.now).segments.items
followed (Lent s) = s.now
followed (Settled s) = s.items

-- nothing is to be answered before the walk
abbrev pub is_begun : Segments → Bool
is_begun (Unsettled q) = false
is_begun (Lent s) = true
is_begun (Settled s) = true

-- those of a query of which no node was taken
abbrev pub AreOf : Segments → Query → Type 0
AreOf (Unsettled r) q = r.now ≡ q
AreOf (Lent s) q = s.now ≡ (out-Query q).segments.items
AreOf (Settled s) q = ⊥

-- the nodes to come, in a document of value d: before the walk has begun, all of the query
abbrev pub nodes_to_come : {V : Type 0} → (V → Value) → Value → Segments → Walk V → List Node
nodes_to_come m d (Unsettled q) w = nodelist (query_of q.now) d
nodes_to_come m d (Lent s) w = walk_reaches m s.now d w
nodes_to_come m d (Settled s) w = walk_reaches m s.items d w
