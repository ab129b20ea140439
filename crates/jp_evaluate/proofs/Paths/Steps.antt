-- The steps that selectors and segments name, and the location that the segments of a query do.
use Rattle.std.proofs.Common.{◌≡◌, ◌^◌, ℕ, pos, negsuc, Bool, true, false, if◌then◌else◌}
use Rattle.std.proofs.Common.{List, [], ◌∷◌, ◌++◌, Option, Some, None, map, option_map}
use Rattle.std.proofs.Common.{option_and_then, option_to_list, nat_lt}
use Rattle.std.proofs.Common.{refl, sym, subst, ap, ◌∙◌, ltb}
use Rattle.std.specs.Str.{encode_utf8_all}
use Rattle.std.proofs.lemmas.Bool.{ltb-false}
use Rattle.std.proofs.lemmas.List.{append-nil, append_assoc}
use Rattle.std.proofs.lemmas.Option.{same_Some, slice_get_past}
use Rattle.jp_document.proofs.Members.ByName.{child-object_nth}
use Rattle.jp_document.specs.Location.{Step, Location, child, child_entry, named, nth, value_at}
use Rattle.jp_document.specs.Node.{Node, child_of, node_at, node_below, root_of}
use Rattle.jp_document.specs.Value.{Items, Value, boolean, item_count, list, list_length, null}
use Rattle.jp_document.specs.Value.{object, text, whole, decimal}
use Rattle.jp_tree.proofs.Views.{query_of-is}
use Rattle.jp_tree.specs.Tree.{QueryTree, SegmentTree, SegmentTrees, SelectorTree, filter, index}
use Rattle.jp_tree.specs.Tree.{name, no_segments, no_selectors, query, segment, segment_then}
use Rattle.jp_tree.specs.Tree.{selector_then, slice, wildcard}
use Rattle.jp_tree.specs.Views.{query_of, segment_of}
use Rattle.jp_tree.specs.declared.tree.Numeral.TheVariants.{Whole, Beyond, Fraction}
use Rattle.jp_tree.specs.declared.tree.Query.{Query, out-Query}
use Rattle.jp_tree.specs.declared.tree.Segment.{Segment}
use Rattle.jp_select.proofs.Items.{child-item, item_list, length-item_list}
use Rattle.jp_select.proofs.Locations.{value_at-append}
use Rattle.jp_select.specs.Selectors.{item_at, item_of}
use Rattle.jp_evaluate.proofs.Nodelists.Along.{of_segments}
use Rattle.jp_evaluate.proofs.Nodelists.Only.{IsOfOne}
use Rattle.jp_evaluate.specs.Named.{NamesLocation, location_named, nodes_at, step_of_segment}
use Rattle.jp_evaluate.specs.Named.{step_of_selector, steps_of_segments}
use Rattle.jp_evaluate.specs.Nodelist.{result, segment_result, selection, start_of}

-- at each node the selector selects the child at this step alone, if there is one
abbrev SelectorNames : SelectorTree → Step → Type 0
SelectorNames s k = (d : Value) (n : Node) → selection s d n ≡ option_to_list (child_of n k)

-- the same of a segment
abbrev SegmentNames : SegmentTree → Step → Type 0
SegmentNames s k =
    (d : Value) (n : Node) → segment_result s d (n ∷ []) ≡ option_to_list (child_of n k)

-- the child at a step, if there is one, as an entry and as a node
entry-node : (l : Location) (k : Step) (o : Option Value)
    → map (node_below l) (option_to_list (option_map (λ w. (k, w)) o))
    ≡ option_to_list (option_map (λ w. node_below l (k, w)) o)
entry-node l k None = refl
entry-node l k (Some w) = refl

-- ---- indexes from 0 on

list_item : (vs : Items) (i : ℕ) (b : Bool) → ltb i (item_count vs) ≡ b
    → option_and_then (item_of (list vs)) (if b then Some i else None) ≡ child_entry (list vs) (nth i)
list_item vs i true is = refl
list_item vs i false is =
    let past = ltb-false i (item_count vs) is in
    sym
    (ap (option_map (λ w. (nth i, w)))
    (child-item vs i ∙ slice_get_past (item_list vs) i (rw (length-item_list vs) past)))

index_item : (v : Value) (i : ℕ)
    → option_and_then (item_of v) (option_and_then (λ n. item_at n (pos i)) (list_length v))
    ≡ child_entry v (nth i)
index_item (list vs) i = list_item vs i (ltb i (item_count vs)) refl
index_item (object ms) i = sym (ap (option_map (λ w. (nth i, w))) (child-object_nth i ms))
index_item null i = refl
index_item (boolean b) i = refl
index_item (whole z) i = refl
index_item (decimal c e) i = refl
index_item (text s) i = refl

index-names : (i : ℕ) → SelectorNames (index (Whole (pos i))) (nth i)
index-names i d n =
    ap (λ o. map (node_below n.location) (option_to_list o)) (index_item n.value i)
    ∙ entry-node n.location (nth i) (child n.value (nth i))

-- ---- selectors and segments

in_range : (b : Bool) (i : ℕ) (k : Step) → (if b then Some (nth i) else None) ≡ Some k
    → SelectorNames (index (Whole (pos i))) k
in_range true i k is = subst (SelectorNames (index (Whole (pos i)))) (same_Some (nth i) k is)
    (index-names i)
in_range false i k is = absurd (cc)

selector-names : (s : SelectorTree) (k : Step) → step_of_selector s ≡ Some k → SelectorNames s k
selector-names (name cs) k is = λ d n.
    entry-node n.location (named (encode_utf8_all cs)) (child n.value (named (encode_utf8_all cs)))
    ∙ ap (λ j. option_to_list (child_of n j)) (same_Some (named (encode_utf8_all cs)) k is)
selector-names (index (Whole (pos i))) k is = in_range (nat_lt i (2 ^ 64)) i k is
selector-names (index (Whole (negsuc i))) k is = absurd (cc)
selector-names (index (Beyond d)) k is = absurd (cc)
selector-names (index (Fraction n)) k is = absurd (cc)
selector-names wildcard k is = absurd (cc)
selector-names (slice s) k is = absurd (cc)
selector-names (filter e) k is = absurd (cc)

segment-names : (s : SegmentTree) (k : Step) → step_of_segment s ≡ Some k → SegmentNames s k
segment-names (segment true ss) k is = absurd (cc)
segment-names (segment false no_selectors) k is = absurd (cc)
segment-names (segment false (selector_then x no_selectors)) k is = λ d n.
    append-nil _ ∙ append-nil _ ∙ selector-names x k is d n
segment-names (segment false (selector_then x (selector_then y more))) k is = absurd (cc)

-- only a child segment with one selector names a step
pub of_one : IsOfOne step_of_segment
of_one = record { descends = λ ss. refl; empty = refl; several = λ x y more. refl }

-- ---- locations

child_nodes : (l : Location) (o : Option Value)
    → option_to_list (option_map (λ v. node_at l v) o)
    ≡ map (node_at l) (option_to_list (option_and_then (λ v. value_at v []) o))
child_nodes l None = refl
child_nodes l (Some v) = refl

segment-none : (s : SegmentTree) (d : Value) → segment_result s d [] ≡ []
segment-none (segment false xs) d = refl
segment-none (segment true xs) d = refl

step_from : (s : SegmentTree) (k : Step) (l : Location) (d : Value) (o : Option Value)
    → SegmentNames s k
    → segment_result s d (map (node_at l) (option_to_list o))
    ≡ map (node_at (l ++ k ∷ [])) (option_to_list (option_and_then (λ w. value_at w (k ∷ [])) o))
step_from s k l d None names = segment-none s d
step_from s k l d (Some w) names =
    names d (node_at l w) ∙ child_nodes (l ++ k ∷ []) (child w k)

-- a segment leads from the node at a location to that one step further
step_on : (s : SegmentTree) (k : Step) (l : Location) (d : Value) → SegmentNames s k
    → segment_result s d (nodes_at l d) ≡ nodes_at (l ++ k ∷ []) d
step_on s k l d names =
    step_from s k l d (value_at d l) names
    ∙ ap (λ o. map (node_at (l ++ k ∷ [])) (option_to_list o)) (sym (value_at-append d l (k ∷ [])))

pub root_starts : (absolute : Bool) (d : Value) → root_of d ≡ start_of absolute d (root_of d)
root_starts true d = refl
root_starts false d = refl

-- where the first segment leads, if the others lead on
lead_on : (s : SegmentTree) (rest : SegmentTrees) (l m : Location) (d : Value) (o : Option Step)
    (p : Option Location) → step_of_segment s ≡ o → steps_of_segments rest ≡ p
    → ((at t : Location) → steps_of_segments rest ≡ Some t
    → result rest d (nodes_at at d) ≡ nodes_at (at ++ t) d)
    → option_and_then (λ k. option_map (λ t. k ∷ t) p) o ≡ Some m
    → result rest d (segment_result s d (nodes_at l d)) ≡ nodes_at (l ++ m) d
lead_on s rest l m d None p one others on is = absurd (cc)
lead_on s rest l m d (Some k) None one others on is = absurd (cc)
lead_on s rest l m d (Some k) (Some t) one others on is =
    ap (result rest d) (step_on s k l d (segment-names s k one))
    ∙ on (l ++ k ∷ []) t others
    ∙ ap (λ x. nodes_at x d)
    (append_assoc l (k ∷ []) t ∙ ap (λ x. l ++ x) (same_Some (k ∷ t) m is))

-- segments that name steps lead from the node at a location to that at these steps from there
lead : (all : SegmentTrees) (l m : Location) (d : Value) → steps_of_segments all ≡ Some m
    → result all d (nodes_at l d) ≡ nodes_at (l ++ m) d
lead no_segments l m d is =
    ap (λ x. nodes_at x d) (sym (append-nil l) ∙ ap (λ x. l ++ x) (same_Some [] m is))
lead (segment_then s rest) l m d is =
    lead_on s rest l m d (step_of_segment s) (steps_of_segments rest) refl refl
    (λ at t. lead rest at t d) is

-- a query selects the node at the location that it names
pub location-names : (q : QueryTree) (l : Location) → location_named q ≡ Some l → NamesLocation q l
location-names (query absolute all) l is d =
    ap (λ n. result all d (n ∷ [])) (sym (root_starts absolute d)) ∙ lead all [] l d is

pub named_if : (is_named : Bool) (l : Location) (q : QueryTree)
    → (if is_named then Some l else None) ≡ location_named q → is_named ≡ true → NamesLocation q l
named_if true l q is same = location-names q l (sym is)
named_if false l q is same = absurd (cc)

-- ---- the steps of a query, one segment after another

-- the query names these steps with those of the segments to come, if these name any
abbrev pub Continues : QueryTree → Location → List Segment → Type 0
Continues q l rest =
    option_map (λ m. l ++ m) (steps_of_segments (of_segments rest)) ≡ location_named q

none_before : (o : Option Location) → option_map (λ m. [] ++ m) o ≡ o
none_before None = refl
none_before (Some m) = refl

pub continues-first : (q : Query) → Continues (query_of q) [] (out-Query q).segments.items
continues-first q =
    none_before (steps_of_segments (of_segments (out-Query q).segments.items))
    ∙ sym (ap location_named (query_of-is q))

one_more : (l : Location) (k : Step) (o : Option Location)
    → option_map (λ m. (l ++ k ∷ []) ++ m) o
    ≡ option_map (λ m. l ++ m) (option_map (λ m. k ∷ m) o)
one_more l k None = refl
one_more l k (Some m) = ap Some (append_assoc l (k ∷ []) m)

pub continues-next : (q : QueryTree) (l : Location) (s : Segment) (rest : List Segment) (k : Step)
    → step_of_segment (segment_of s) ≡ Some k → Continues q l (s ∷ rest)
    → Continues q (l ++ k ∷ []) rest
continues-next q l s rest k one here =
    let more = steps_of_segments (of_segments rest) in
    one_more l k more
    ∙ ap (λ o. option_map (λ m. l ++ m) (option_and_then (λ j. option_map (λ m. j ∷ m) more) o))
    (sym one)
    ∙ here

pub continues-none : (q : QueryTree) (l : Location) (s : Segment) (rest : List Segment)
    → step_of_segment (segment_of s) ≡ None → Continues q l (s ∷ rest) → location_named q ≡ None
continues-none q l s rest one here =
    let more = steps_of_segments (of_segments rest) in
    sym here
    ∙ ap (λ o. option_map (λ m. l ++ m) (option_and_then (λ j. option_map (λ m. j ∷ m) more) o)) one

pub continues-last : (q : QueryTree) (l : Location) → Continues q l []
    → Some l ≡ location_named q
continues-last q l here = ap Some (sym (append-nil l)) ∙ here
