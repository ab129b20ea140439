-- The nodes of a query inside an expression, those that count.
use Rattle.std.proofs.Common.{◌≡◌, Bool, true, false, not, ◌&&◌, ◌||◌, List, []}
use Rattle.std.proofs.Common.{◌∷◌, Option, Some, None}
use Rattle.std.proofs.Common.{is_eq, refl, ap, sym, ◌∙◌}
use Rattle.std.specs.List.{filter as those_of}
use Rattle.jp_document.specs.Location.{Location, location_cmp}
use Rattle.jp_document.specs.Node.{Node, root_of}
use Rattle.jp_tree.specs.Views.{query_of}
use Rattle.jp_tree.specs.declared.tree.Query.{Query, out-Query}
use Rattle.jp_document.specs.Value.{Value}
use Rattle.jp_evaluate.specs.Functions.{is_same_node, without_repeats}
use Rattle.jp_evaluate.specs.Nodelist.{nodelist_at, start_of}
use Rattle.jp_evaluate.specs.Private.Calls.{counted}
use Rattle.jp_evaluate.specs.Private.Walk.{walk_frames, walk_reaches}
use Rattle.jp_evaluate.specs.declared.selecting.Selecting.{Selecting}
use Rattle.jp_evaluate.proofs.Walks.Begun.{begun_nodelist}
use Rattle.jp_evaluate.proofs.Walks.Locations.{location-told}
use Rattle.jp_evaluate.specs.Private.LocationSet.{has}
use Rattle.jp_evaluate.specs.Private.Selecting.{IsFresh, TellsNew, counted_of, to_come}
use Rattle.jp_evaluate.specs.declared.location_set.LocationSet.{LocationSet}
use Rattle.jp_evaluate.proofs.Nodelists.Repeats.{Respects, counts-new, counts-not, others}
use Rattle.jp_evaluate.proofs.Nodelists.Repeats.{same-symmetric, those-same}

-- ---- among locations

new-respects : (s : LocationSet) → Respects (λ n. not (has s n.location))
new-respects s n m same =
    ap (λ l. not (has s l)) (location-told n.location m.location same)

neither : (a b : Bool) → not (a || b) ≡ (not a && not b)
neither true b = refl
neither false b = refl

-- ---- a node that was reached

tells-old : (s t : LocationSet) (n : Node) → has s n.location ≡ true
    → ((l : Location) → has t l ≡ has s l) → TellsNew (Some s) n false (Some t)
tells-old s t n among same ns =
    counts-not (λ m. not (has s m.location)) n ns (new-respects s) (ap not among)
    ∙ those-same (λ m. not (has s m.location)) (λ m. not (has t m.location)) (without_repeats ns)
    (λ m. sym (ap not (same m.location)))

tells-new : (s t : LocationSet) (n : Node) → has s n.location ≡ false
    → ((l : Location) → has t l ≡ (is_eq (location_cmp l n.location) || has s l))
    → TellsNew (Some s) n true (Some t)
tells-new s t n absent more ns =
    counts-new (λ m. not (has s m.location)) n ns (ap not absent)
    ∙ ap (λ xs. n ∷ xs)
    (those-same (λ m. others n m && not (has s m.location)) (λ m. not (has t m.location))
    (without_repeats ns)
    (λ m. sym
    (ap not (more m.location ∙ ap (λ b. b || has s m.location) (same-symmetric m n))
    ∙ neither (is_same_node n m) (has s m.location))))

-- a set that has a location has no more once that is put into it
nothing-more : (s t : LocationSet) (k : Location) → has s k ≡ true
    → ((l : Location) → has t l ≡ (is_eq (location_cmp l k) || has s l))
    → (l : Location) → has t l ≡ has s l
nothing-more s t k there more l = decided (is_eq (location_cmp l k)) refl
  where
    decided : (b : Bool) → is_eq (location_cmp l k) ≡ b → has t l ≡ has s l
    decided true is =
        more l ∙ ap (λ b. b || has s l) is
        ∙ sym (ap (has s) (location-told l k is) ∙ there)
    decided false is = more l ∙ ap (λ b. b || has s l) is

-- what putting its location into the set tells of a node
pub tells : (s t : LocationSet) (n : Node) (added : Bool) → added ≡ not (has s n.location)
    → ((l : Location) → has t l ≡ (is_eq (location_cmp l n.location) || has s l))
    → TellsNew (Some s) n added (Some t)
tells s t n added is more = decided added (has s n.location) refl is
  where
    decided : (a b : Bool) → has s n.location ≡ b → a ≡ not b → TellsNew (Some s) n a (Some t)
    decided true true there told = cc
    decided true false there told = tells-new s t n there more
    decided false true there told = tells-old s t n there (nothing-more s t n.location there more)
    decided false false there told = cc

-- where each counts
pub tells-each : (n : Node) → TellsNew None n true None
tells-each n ns = refl

-- ---- the beginning

all-new : (ns : List Node) → those_of (λ n. true) ns ≡ ns
all-new [] = refl
all-new (n ∷ ns) = ap (λ t. n ∷ t) (all-new ns)

-- nothing was seen, so that those count that are asked for
pub fresh-counts : (distinct : Bool) (seen : Option LocationSet) (ns : List Node)
    → IsFresh distinct seen → counted_of seen ns ≡ counted distinct ns
fresh-counts false seen ns fresh = ap (λ o. counted_of o ns) fresh
fresh-counts true None ns fresh = absurd fresh
fresh-counts true (Some s) ns fresh =
    those-same (λ n. not (has s n.location)) (λ n. true) (without_repeats ns)
    (λ n. ap not (fresh n.location))
    ∙ all-new (without_repeats ns)

-- from where a query begins those of its nodelist are to come that count
pub begun_to_come : {V : Type 0} (means : V → Value) (q : Query) (d : Value) (c : Node)
    (s : Selecting V) (v : V) (b : Bool) → s.segments.now ≡ (out-Query q).segments.items
    → root_of (means v) ≡ start_of (out-Query q).absolute d c
    → s.walk.first ≡ Some v → walk_frames s.walk ≡ [] → IsFresh b s.seen
    → to_come means d s ≡ counted b (nodelist_at (query_of q) d c)
begun_to_come means q d c s v b are starts first frames fresh =
    fresh-counts b s.seen (walk_reaches means s.segments.now d s.walk) fresh
    ∙ ap (counted b)
    (begun_nodelist means q s.segments.now d c s.walk v (sym are) starts first frames)
