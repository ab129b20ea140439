-- Leaves that are members of other names may be missing where members of one name are selected
-- anywhere.
use Rattle.std.proofs.Common.{◌≡◌, ◌++◌, ℕ, suc, Bool, true, false, if◌then◌else◌, List, [], ◌∷◌}
use Rattle.std.proofs.Common.{Option, Some, None, cond, map, option_map, option_to_list, refl}
use Rattle.std.proofs.Common.{ap, ap₂, subst, sym, ◌∙◌}
use Rattle.std.specs.BTreeMap.{is_at}
use Rattle.std.specs.List.{flat_map}
use Rattle.std.specs.Map.{lookup}
use Rattle.std.specs.Str.{encode_utf8_all}
use Rattle.std.proofs.lemmas.Grind.{flat_map-append}
use Rattle.std.proofs.lemmas.List.{append-nil}
use Rattle.std.proofs.lemmas.Option.{same_Some}
use Rattle.jp_document.specs.Location.{Location, Step, child, child_entry, items_from, named, nth, step_cmp}
use Rattle.jp_document.specs.Node.{Node, node_below, root_of}
use Rattle.jp_document.specs.Value.{Items, Members, Value, boolean, item, list, member, no_items}
use Rattle.jp_document.specs.Value.{null, object, text, whole, decimal}
use Rattle.jp_flat.specs.Asked.{AreThinned, IsThinned, LeavesMembers, all, in_list, in_object}
use Rattle.jp_flat.specs.Asked.{is_leaf, is_name, kept, missing, next_item, no_item, no_member}
use Rattle.jp_flat.specs.Asked.{thinned}
use Rattle.jp_select.specs.Subtree.{after, beyond, nodes_in, nodes_in_items, nodes_in_members}
use Rattle.jp_tree.specs.Tree.{SegmentTrees, SelectorTrees, filter, index, name, no_segments}
use Rattle.jp_tree.specs.Tree.{no_selectors, query, segment, segment_then, selector_then, slice}
use Rattle.jp_tree.specs.Tree.{wildcard}
use Rattle.jp_evaluate.specs.Nodelist.{nodelist, result}
use Rattle.jp_evaluate.specs.Private.Asks.{asked_anywhere, has_no_filter, only_name}
use Rattle.jp_evaluate.proofs.Kept.Plain.{result-plain}
use Rattle.jp_evaluate.proofs.Nodelists.Beyond.{beyond-nothing, flat_map-beyond}
use Rattle.jp_evaluate.proofs.Paths.Steps.{root_starts}

-- the member of that name in a node, if there is one, and in each of the nodes
abbrev member_in : List ℕ → Node → List Node
member_in k n = map (node_below n.location) (option_to_list (child_entry n.value (named k))) ++ []

abbrev found : List ℕ → List Node → List Node
found k ns = flat_map (member_in k) ns

-- ---- one step further

below-after : (s : Step) (l : Location) (k : Step) (o : Option Value)
    → map (node_below (s ∷ l)) (option_to_list (option_map (λ w. (k, w)) o)) ++ []
    ≡ map (after s) (map (node_below l) (option_to_list (option_map (λ w. (k, w)) o)) ++ [])
below-after s l k None = refl
below-after s l k (Some w) = refl

found-after : (k : List ℕ) (s : Step) (ns : List Node)
    → found k (map (after s) ns) ≡ map (after s) (found k ns)
found-after k s ns =
    flat_map-beyond (s ∷ []) (member_in k) ns
    (λ n. below-after s n.location (named k) (child n.value (named k)))

-- what is found in one child, and then in the others
found-both : (k : List ℕ) (s : Step) (xs ws ys zs : List Node) → found k xs ≡ found k ws
    → found k ys ≡ found k zs
    → found k (map (after s) xs ++ ys) ≡ found k (map (after s) ws ++ zs)
found-both k s xs ws ys zs one others =
    flat_map-append (member_in k) (map (after s) xs) ys
    ∙ ap₂ (λ ns ms. ns ++ ms)
    (found-after k s xs ∙ ap (map (after s)) one ∙ sym (found-after k s ws)) others
    ∙ sym (flat_map-append (member_in k) (map (after s) ws) zs)

-- nothing is found in a leaf
found-leaf : (k : List ℕ) (s : Step) (v : Value) (ns : List Node) → is_leaf v ≡ true
    → found k ns ≡ found k (map (after s) (nodes_in v) ++ ns)
found-leaf k s null ns leaf = refl
found-leaf k s (boolean b) ns leaf = refl
found-leaf k s (whole z) ns leaf = refl
found-leaf k s (decimal c e) ns leaf = refl
found-leaf k s (text t) ns leaf = refl
found-leaf k s (list vs) ns leaf = absurd (cc)
found-leaf k s (object ms) ns leaf = absurd (cc)

-- ---- the member itself

no_member-nth : (k : List ℕ) (i : ℕ) (vs : Items)
    → lookup (is_at (step_cmp (named k))) (items_from i vs) ≡ None
no_member-nth k i no_items = refl
no_member-nth k i (item v vs) = no_member-nth k (suc i) vs

passed : (k m : List ℕ) (v : Value) (ms : Members) → is_name k m ≡ false
    → child (object (member m v ms)) (named k) ≡ child (object ms) (named k)
passed k m v ms other = ap (λ b. cond b (Some v) (child (object ms) (named k))) other

member-thinned : {k : List ℕ} {ms ks : Members} → LeavesMembers k ms ks
    → child (object ks) (named k) ≡ child (object ms) (named k)
member-thinned no_member = refl
member-thinned {k = k} (kept m v ms ks more) = ap (cond (is_name k m) (Some v)) (member-thinned more)
member-thinned {k = k} (thinned m v u ms ks other one more) =
    passed k m u ks other ∙ member-thinned more ∙ sym (passed k m v ms other)
member-thinned {k = k} (missing m v ms ks other leaf more) =
    member-thinned more ∙ sym (passed k m v ms other)

root-member : (k : List ℕ) (v u : Value) → child u (named k) ≡ child v (named k)
    → member_in k (root_of u) ≡ member_in k (root_of v)
root-member k v u same =
    ap (λ o. map (node_below []) (option_to_list (option_map (λ w. (named k, w)) o)) ++ []) same

-- ---- everything inside

mutual
  found-thinned : {k : List ℕ} {v u : Value} → IsThinned k v u
      → found k (nodes_in u) ≡ found k (nodes_in v)
  found-thinned (all w) = refl
  found-thinned {k = k} (in_list vs us items) =
      ap₂ (λ ns ms. ns ++ ms)
      (root-member k (list vs) (list us) (no_member-nth k 0 us ∙ sym (no_member-nth k 0 vs)))
      (items-thinned 0 items)
  found-thinned {k = k} (in_object ms ks members) =
      ap₂ (λ ns os. ns ++ os)
      (root-member k (object ms) (object ks) (member-thinned members)) (members-thinned members)

  items-thinned : {k : List ℕ} {vs us : Items} (i : ℕ) → AreThinned k vs us
      → found k (nodes_in_items i us) ≡ found k (nodes_in_items i vs)
  items-thinned i no_item = refl
  items-thinned {k = k} i (next_item v u vs us one more) =
      found-both k (nth i) (nodes_in u) (nodes_in v) (nodes_in_items (suc i) us)
      (nodes_in_items (suc i) vs) (found-thinned one) (items-thinned (suc i) more)

  members-thinned : {k : List ℕ} {ms ks : Members} → LeavesMembers k ms ks
      → found k (nodes_in_members ks) ≡ found k (nodes_in_members ms)
  members-thinned no_member = refl
  members-thinned {k = k} (kept m v ms ks more) =
      found-both k (named m) (nodes_in v) (nodes_in v) (nodes_in_members ks) (nodes_in_members ms)
      refl (members-thinned more)
  members-thinned {k = k} (thinned m v u ms ks other one more) =
      found-both k (named m) (nodes_in u) (nodes_in v) (nodes_in_members ks) (nodes_in_members ms)
      (found-thinned one) (members-thinned more)
  members-thinned {k = k} (missing m v ms ks other leaf more) =
      members-thinned more ∙ found-leaf k (named m) v (nodes_in_members ms) leaf

-- ---- a query

root-found : (k : List ℕ) (v : Value)
    → found k (map (beyond []) (nodes_in v) ++ []) ≡ found k (nodes_in v)
root-found k v =
    ap (found k) (append-nil (map (beyond []) (nodes_in v)) ∙ sym (beyond-nothing (nodes_in v)))

result-anywhere : (k cs : List ℕ) (rest : SegmentTrees) (d u : Value) → encode_utf8_all cs ≡ k
    → has_no_filter rest ≡ true → IsThinned k d u
    → result (segment_then (segment true (selector_then (name cs) no_selectors)) rest) u
    (root_of u ∷ [])
    ≡ result (segment_then (segment true (selector_then (name cs) no_selectors)) rest) d
    (root_of d ∷ [])
result-anywhere k cs rest d u spells plain thin =
    let j = encode_utf8_all cs in
    let same : found j (nodes_in u) ≡ found j (nodes_in d) =
    subst (λ m. found m (nodes_in u) ≡ found m (nodes_in d)) (sym spells) (found-thinned thin) in
    ap (result rest u) (root-found j u ∙ same ∙ sym (root-found j d))
    ∙ result-plain rest d u _ plain

named-anywhere : (k : List ℕ) (ss : SelectorTrees) (rest : SegmentTrees) (d u : Value)
    → only_name ss ≡ Some k → has_no_filter rest ≡ true → IsThinned k d u
    → result (segment_then (segment true ss) rest) u (root_of u ∷ [])
    ≡ result (segment_then (segment true ss) rest) d (root_of d ∷ [])
named-anywhere k no_selectors rest d u is plain thin = absurd (cc)
named-anywhere k (selector_then (name cs) no_selectors) rest d u is plain thin =
    result-anywhere k cs rest d u (same_Some (encode_utf8_all cs) k is) plain thin
named-anywhere k (selector_then s (selector_then t more)) rest d u is plain thin = absurd (cc)
named-anywhere k (selector_then wildcard no_selectors) rest d u is plain thin = absurd (cc)
named-anywhere k (selector_then (index i) no_selectors) rest d u is plain thin = absurd (cc)
named-anywhere k (selector_then (slice s) no_selectors) rest d u is plain thin = absurd (cc)
named-anywhere k (selector_then (filter e) no_selectors) rest d u is plain thin = absurd (cc)

where-plain : (b : Bool) (o : Option (List ℕ)) (k : List ℕ)
    → (if b then o else None) ≡ Some k → (b ≡ true) × (o ≡ Some k)
where-plain true o k is = (refl, is)
where-plain false o k is = absurd (cc)

-- a query that asks for members of one name alone selects the same without other leaves
pub nodelist-anywhere : (k : List ℕ) (absolute : Bool) (path : SegmentTrees) (d u : Value)
    → asked_anywhere path ≡ Some k → IsThinned k d u
    → nodelist (query absolute path) u ≡ nodelist (query absolute path) d
nodelist-anywhere k absolute path d u is thin =
    ap (λ n. result path u (n ∷ [])) (sym (root_starts absolute u))
    ∙ from-root path is
    ∙ ap (λ n. result path d (n ∷ [])) (root_starts absolute d)
  where
    from-root : (path : SegmentTrees) → asked_anywhere path ≡ Some k
        → result path u (root_of u ∷ []) ≡ result path d (root_of d ∷ [])
    from-root no_segments is = absurd (cc)
    from-root (segment_then (segment false ss) rest) is = absurd (cc)
    from-root (segment_then (segment true ss) rest) is =
        let both : (has_no_filter rest ≡ true) × (only_name ss ≡ Some k) =
        where-plain (has_no_filter rest) (only_name ss) k is in
        named-anywhere k ss rest d u both.1 both.0 thin
