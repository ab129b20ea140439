-- Members of other names may be missing where segments select children by names alone.
use Rattle.std.proofs.Common.{◌≡◌, ◌++◌, ℕ, Bool, true, false, if◌then◌else◌, List}
use Rattle.std.proofs.Common.{Some, map, option_map, option_to_list, cond, refl, ap, ap₂, sym, ◌∙◌}
use Rattle.std.specs.Cmp.Lexicographic.{slice_cmp}
use Rattle.std.specs.List.{flat_map}
use Rattle.std.specs.Ordering.{nat_cmp}
use Rattle.std.specs.Str.{encode_utf8_all}
use Rattle.std.proofs.Math.Path.{fun_ext}
use Rattle.std.proofs.lemmas.List.Folds.{flat_map-map}
use Rattle.std.proofs.lemmas.Map.Lookups.{exact_bytes}
use Rattle.jp_document.specs.Location.{child, named}
use Rattle.jp_document.specs.Node.{Node, node_at, node_below}
use Rattle.jp_document.specs.Value.{Members, Value, boolean, list, member, no_members, null}
use Rattle.jp_document.specs.Value.{object, text, whole, decimal}
use Rattle.jp_flat.specs.Asked.{is_name, members_named, with_members}
use Rattle.jp_reading.proofs.Conjunctions.{and-left, and-right}
use Rattle.jp_tree.specs.Tree.{SegmentTrees, SelectorTrees, filter, index, name, no_segments}
use Rattle.jp_tree.specs.Tree.{no_selectors, segment, segment_then, selector_then, slice, wildcard}
use Rattle.jp_evaluate.specs.Nodelist.{result, segment_result, selected}
use Rattle.jp_evaluate.specs.Private.Asks.{asks_names, asks_members}
use Rattle.jp_evaluate.proofs.Kept.Plain.{result-plain}
use Rattle.jp_evaluate.proofs.Nodelists.Repeats.{equal_from}

-- the node with these members alone, if it is an object
abbrev pub thin : (List ℕ → Bool) → Node → Node
thin p n = node_at n.location (with_members p n.value)

-- ---- one member

-- a name that passes is not one that does not
other : (p : List ℕ → Bool) (n m : List ℕ) (b : Bool) → p n ≡ true → p m ≡ false
    → is_name n m ≡ b → is_name n m ≡ false
other p n m false passes fails is = is
other p n m true passes fails is =
    let same : n ≡ m = exact_bytes n m (equal_from (slice_cmp nat_cmp n m) is) in
    let clash : p n ≡ p m = ap p same in
    absurd (cc)

-- the first member, where the others are as they were
first-kept : (p : List ℕ → Bool) (n m : List ℕ) (v : Value) (ms : Members) (b : Bool)
    → p n ≡ true → p m ≡ b
    → child (object (members_named p ms)) (named n) ≡ child (object ms) (named n)
    → child (object (if b then member m v (members_named p ms) else members_named p ms)) (named n)
    ≡ child (object (member m v ms)) (named n)
first-kept p n m v ms true passes is more = ap (cond (is_name n m) (Some v)) more
first-kept p n m v ms false passes is more =
    more
    ∙ sym (ap (λ b. cond b (Some v) (child (object ms) (named n)))
    (other p n m (is_name n m) passes is refl))

member-kept : (p : List ℕ → Bool) (n : List ℕ) (ms : Members) → p n ≡ true
    → child (object (members_named p ms)) (named n) ≡ child (object ms) (named n)
member-kept p n no_members passes = refl
member-kept p n (member m v ms) passes =
    first-kept p n m v ms (p m) passes refl (member-kept p n ms passes)

pub child-kept : (p : List ℕ → Bool) (n : List ℕ) (v : Value) → p n ≡ true
    → child (with_members p v) (named n) ≡ child v (named n)
child-kept p n (object ms) passes = member-kept p n ms passes
child-kept p n null passes = refl
child-kept p n (boolean b) passes = refl
child-kept p n (whole z) passes = refl
child-kept p n (decimal c e) passes = refl
child-kept p n (text s) passes = refl
child-kept p n (list vs) passes = refl

-- ---- segments

selected-names : (p : List ℕ → Bool) (ss : SelectorTrees) (d u : Value) (n : Node)
    → asks_names p ss ≡ true → selected ss u (thin p n) ≡ selected ss d n
selected-names p no_selectors d u n names = refl
selected-names p (selector_then (name cs) rest) d u n names =
    let k = encode_utf8_all cs in
    ap₂ (λ o ns.
    map (node_below n.location) (option_to_list (option_map (λ w. (named k, w)) o)) ++ ns)
    (child-kept p k n.value (and-left _ _ names))
    (selected-names p rest d u n (and-right _ _ names))
selected-names p (selector_then wildcard rest) d u n names = absurd (cc)
selected-names p (selector_then (index i) rest) d u n names = absurd (cc)
selected-names p (selector_then (slice s) rest) d u n names = absurd (cc)
selected-names p (selector_then (filter e) rest) d u n names = absurd (cc)

pub result-members : (p : List ℕ → Bool) (all : SegmentTrees) (d u : Value) (ns : List Node)
    → asks_members p all ≡ true → result all u (map (thin p) ns) ≡ result all d ns
result-members p no_segments d u ns asks = absurd (cc)
result-members p (segment_then (segment true ss) rest) d u ns asks = absurd (cc)
result-members p (segment_then (segment false ss) rest) d u ns asks =
    ap (result rest u)
    (flat_map-map (selected ss u) (thin p) ns
    ∙ ap (λ (f : Node → List Node). flat_map f ns)
    (fun_ext (λ n. selected-names p ss d u n (and-left _ _ asks))))
    ∙ result-plain rest d u (segment_result (segment false ss) d ns) (and-right _ _ asks)
