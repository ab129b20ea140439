-- An iterator of nodes that begins, and one whose walk is under way.
use Rattle.std.proofs.Common.{◌≡◌, Bool, List, true, false, [], Some, refl, ap, sym, ◌∙◌}
use Rattle.jp_document.specs.Node.{root_of}
use Rattle.jp_document.specs.Value.{Value}
use Rattle.jp_tree.specs.Views.{query_of}
use Rattle.jp_tree.specs.declared.tree.Query.{Query, out-Query}
use Rattle.jp_tree.specs.declared.tree.Segment.{Segment}
use Rattle.jp_evaluate.specs.Nodelist.{nodelist, nodelist_at, start_of}
use Rattle.jp_evaluate.specs.Private.Segments.{AreOf, followed, is_begun, nodes_to_come}
use Rattle.jp_evaluate.specs.Private.Settled.{settled_query}
use Rattle.jp_evaluate.specs.Private.Walk.{walk_frames, walk_reaches}
use Rattle.jp_evaluate.specs.declared.lent.Segments.{Segments}
use Rattle.jp_evaluate.specs.declared.lent.Segments.TheVariants.{Lent, Settled, Unsettled}
use Rattle.jp_evaluate.specs.declared.walk.Walk.{Walk}
use Rattle.jp_evaluate.proofs.Settling.Same.{query-same}
use Rattle.jp_evaluate.proofs.Walks.Begun.{begun_nodelist}

pub at_the_root : (absolute : Bool) (d : Value) → root_of d ≡ start_of absolute d (root_of d)
at_the_root true d = refl
at_the_root false d = refl

-- a walk that begins at the root reaches the query's nodelist
begun_at_root : {V : Type 0} (means : V → Value) (q : Query) (all : List Segment) (w : Walk V) (v : V)
    → (out-Query q).segments.items ≡ all → w.first ≡ Some v → walk_frames w ≡ []
    → walk_reaches means all (means v) w ≡ nodelist (query_of q) (means v)
begun_at_root means q all w v are first frames =
    begun_nodelist means q all (means v) (root_of (means v)) w v are
    (at_the_root (out-Query q).absolute (means v)) first frames

pub all_to_come : {V : Type 0} (means : V → Value) (s : Segments) (q : Query) (w : Walk V) (v : V)
    → AreOf s q → w.first ≡ Some v → walk_frames w ≡ []
    → nodes_to_come means (means v) s w ≡ nodelist (query_of q) (means v)
all_to_come means (Unsettled r) q w v are first frames =
    ap (λ p. nodelist (query_of p) (means v)) are
all_to_come means (Lent s) q w v are first frames =
    begun_at_root means q s.now w v (sym are) first frames
all_to_come means (Settled s) q w v are first frames = absurd are

pub walk_to_come : {V : Type 0} (means : V → Value) (d : Value) (s : Segments) (w : Walk V)
    → is_begun s ≡ true → nodes_to_come means d s w ≡ walk_reaches means (followed s) d w
walk_to_come means d (Unsettled q) w begun = absurd (cc)
walk_to_come means d (Lent s) w begun = refl
walk_to_come means d (Settled s) w begun = refl

-- the walk of a query with answers begins with the nodes of the query that it was
pub settled_to_come : {V : Type 0} (means : V → Value) (q r : Query) (w : Walk V) (v : V)
    → query_of r ≡ settled_query (means v) (query_of q) → w.first ≡ Some v → walk_frames w ≡ []
    → walk_reaches means (out-Query r).segments.items (means v) w ≡ nodelist (query_of q) (means v)
settled_to_come means q r w v settled first frames =
    begun_at_root means r (out-Query r).segments.items w v refl first frames
    ∙ ap (λ t. nodelist_at t (means v) (root_of (means v))) settled
    ∙ query-same (query_of q) (means v) (root_of (means v))
