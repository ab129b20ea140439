-- Walks that begin.
use Rattle.std.proofs.Common.{◌≡◌, List, [], ◌∷◌, ◌++◌, Option, Some, None, MatchOption, is_some, map, option_to_list}
use Rattle.std.proofs.Common.{ap, ap₂, sym, ◌∙◌}
use Rattle.std.specs.List.{flat_map}
use Rattle.std.proofs.lemmas.List.{append-nil}
use Rattle.jp_document.specs.Node.{Node, root_of}
use Rattle.jp_document.specs.Value.{Value}
use Rattle.jp_tree.specs.Tree.{segments}
use Rattle.jp_tree.specs.Views.{query_of, segment_of}
use Rattle.jp_tree.specs.declared.tree.Query.{Query, out-Query}
use Rattle.jp_tree.specs.declared.tree.Segment.{Segment}
use Rattle.jp_evaluate.specs.Nodelist.{has_node, nodelist_at, result, start_of}
use Rattle.jp_evaluate.specs.Private.Walk.{choice_at, choice_reaches, frames_pending, reached_at}
use Rattle.jp_evaluate.specs.Private.Walk.{reaches, start_choice, walk_frames, walk_reaches}
use Rattle.jp_evaluate.specs.declared.walk.Walk.{Walk}
use Rattle.jp_evaluate.proofs.Walks.Choices.{drop_none}
use Rattle.jp_tree.proofs.Views.{query_of-is}

-- a walk that begins with v reaches what the segments do
begun_reaches : {V : Type 0} (means : V → Value) (all : List Segment) (d : Value) (w : Walk V) (v : V)
    → w.first ≡ Some v → walk_frames w ≡ []
    → walk_reaches means all d w ≡ reaches (segments (map segment_of all)) d (root_of (means v))
begun_reaches means all d w v first frames =
    ap (flat_map (choice_reaches d))
    (ap₂
    (λ o fs. map (choice_at (reached_at [] fs)) (map (start_choice means all) (option_to_list o))
    ++ frames_pending means all [] fs) first frames)
    ∙ append-nil (choice_reaches d (choice_at [] (start_choice means all v)))
    ∙ ap (λ xs. reaches (segments (map segment_of xs)) d (root_of (means v))) (drop_none all)

-- from where a query begins it reaches the query's nodelist
pub begun_nodelist : {V : Type 0} (means : V → Value) (q : Query) (all : List Segment) (d : Value)
    (c : Node) (w : Walk V) (v : V) → (out-Query q).segments.items ≡ all
    → root_of (means v) ≡ start_of (out-Query q).absolute d c
    → w.first ≡ Some v → walk_frames w ≡ []
    → walk_reaches means all d w ≡ nodelist_at (query_of q) d c
begun_nodelist means q all d c w v are starts first frames =
    begun_reaches means all d w v first frames
    ∙ ap₂ (λ xs n. result (segments (map segment_of xs)) d (n ∷ [])) (sym are) starts
    ∙ sym (ap (λ t. nodelist_at t d c) (query_of-is q))

-- whether a first node was given is whether there are nodes
pub first-told : {X : Type 0} (o : Option X) (ns ms : List Node) (f : X → Node)
    → MatchOption o ((ns ≡ []) × (ms ≡ [])) (λ x. ns ≡ f x ∷ ms) → is_some o ≡ has_node ns
first-told None ns ms f none = ap has_node (sym none.0)
first-told (Some x) ns ms f some = ap has_node (sym some)
