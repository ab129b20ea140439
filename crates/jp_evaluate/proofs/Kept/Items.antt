-- Of the items of a list other members may be missing than those that a query asks for.
use Rattle.std.proofs.Common.{◌≡◌, ◌++◌, ℕ, suc, Bool, true, false, List, [], ◌∷◌}
use Rattle.std.proofs.Common.{Option, Some, None, map, option_map, option_to_list, refl, ap, ap₂}
use Rattle.std.proofs.Common.{sym, ◌∙◌}
use Rattle.std.specs.BTreeMap.{is_at}
use Rattle.std.specs.List.{filter as those_of, flat_map}
use Rattle.std.specs.Map.{lookup}
use Rattle.std.specs.Option.{option_and_then}
use Rattle.std.specs.Str.{encode_utf8_all}
use Rattle.std.proofs.lemmas.List.{append-nil, map-append}
use Rattle.std.proofs.lemmas.Map.Made.{lookup-map_values}
use Rattle.jp_document.specs.Location.{Step, child, child_entry, items_from, named, nth}
use Rattle.jp_document.specs.Location.{step_cmp}
use Rattle.jp_document.specs.Node.{children, node_below, root_of}
use Rattle.jp_document.specs.Value.{Items, Value, boolean, item, item_count, list, no_items, null}
use Rattle.jp_document.specs.Value.{object, text, whole, decimal}
use Rattle.jp_flat.specs.Asked.{items_with, with_items_of, with_members}
use Rattle.jp_reading.proofs.Conjunctions.{and-left, and-right}
use Rattle.jp_select.specs.Selectors.{candidates, indexes_chosen, item_at, item_entry, item_of}
use Rattle.jp_tree.specs.Tree.{SegmentTrees, SelectorTree, SelectorTrees, filter, index}
use Rattle.jp_tree.specs.Tree.{name, no_segments, no_selectors, query, segment, segment_then}
use Rattle.jp_tree.specs.Tree.{selector_then, slice, wildcard}
use Rattle.jp_tree.specs.declared.tree.Numeral.TheVariants.{Beyond, Fraction, Whole}
use Rattle.jp_evaluate.specs.Nodelist.{holds, nodelist, result, selected, selection}
use Rattle.jp_evaluate.specs.Private.Asks.{asks_items, asks_selector, asks_selectors}
use Rattle.jp_evaluate.proofs.Kept.Filters.{holds-thin}
use Rattle.jp_evaluate.proofs.Kept.Members.{result-members, thin}
use Rattle.jp_evaluate.proofs.Nodelists.Beyond.{those_of-map}
use Rattle.jp_evaluate.proofs.Paths.Steps.{root_starts}

-- the entry with these members alone, if it is an object
abbrev within : (List ℕ → Bool) → Step × Value → Step × Value
within p e = (e.0, with_members p e.1)

-- ---- the items of a list

items-within : (p : List ℕ → Bool) (i : ℕ) (vs : Items)
    → items_from i (items_with p vs) ≡ map (within p) (items_from i vs)
items-within p i no_items = refl
items-within p i (item v vs) = ap (λ es. (nth i, with_members p v) ∷ es) (items-within p (suc i) vs)

count-within : (p : List ℕ → Bool) (vs : Items) → item_count (items_with p vs) ≡ item_count vs
count-within p no_items = refl
count-within p (item v vs) = ap suc (count-within p vs)

entry-within : (p : List ℕ → Bool) (k : Step) (o : Option Value)
    → option_map (λ w. (k, w)) (option_map (with_members p) o)
    ≡ option_map (within p) (option_map (λ w. (k, w)) o)
entry-within p k None = refl
entry-within p k (Some w) = refl

child-within : (p : List ℕ → Bool) (vs : Items) (k : Step)
    → child_entry (list (items_with p vs)) k ≡ option_map (within p) (child_entry (list vs) k)
child-within p vs k =
    ap (option_map (λ w. (k, w)))
    (ap (lookup (is_at (step_cmp k))) (items-within p 0 vs)
    ∙ lookup-map_values (with_members p) (is_at (step_cmp k)) (items_from 0 vs))
    ∙ entry-within p k (child (list vs) k)

list-within : (p : List ℕ → Bool) (o : Option (Step × Value))
    → option_to_list (option_map (within p) o) ≡ map (within p) (option_to_list o)
list-within p None = refl
list-within p (Some e) = refl

-- ---- what a selector chooses from

item-within : (p : List ℕ → Bool) (vs : Items) (o : Option ℕ)
    → option_and_then (item_of (list (items_with p vs))) o
    ≡ option_map (within p) (option_and_then (item_of (list vs)) o)
item-within p vs None = refl
item-within p vs (Some i) = child-within p vs (nth i)

items-chosen : (p : List ℕ → Bool) (vs : Items) (is : List ℕ)
    → flat_map (item_entry (list (items_with p vs))) is
    ≡ map (within p) (flat_map (item_entry (list vs)) is)
items-chosen p vs [] = refl
items-chosen p vs (i ∷ is) =
    ap₂ (λ xs ys. xs ++ ys)
    (ap option_to_list (child-within p vs (nth i)) ∙ list-within p (item_of (list vs) i))
    (items-chosen p vs is)
    ∙ sym (map-append (within p) (item_entry (list vs) i) (flat_map (item_entry (list vs)) is))

candidates-within : (p : List ℕ → Bool) (s : SelectorTree) (vs : Items)
    → candidates s (list (items_with p vs)) ≡ map (within p) (candidates s (list vs))
candidates-within p (name cs) vs =
    ap option_to_list (child-within p vs (named (encode_utf8_all cs)))
    ∙ list-within p (child_entry (list vs) (named (encode_utf8_all cs)))
candidates-within p wildcard vs = items-within p 0 vs
candidates-within p (index (Whole i)) vs =
    ap (λ c. option_to_list (option_and_then (item_of (list (items_with p vs))) (item_at c i)))
    (count-within p vs)
    ∙ ap option_to_list (item-within p vs (item_at (item_count vs) i))
    ∙ list-within p (option_and_then (item_of (list vs)) (item_at (item_count vs) i))
candidates-within p (index (Beyond d)) vs = refl
candidates-within p (index (Fraction n)) vs = refl
candidates-within p (slice s) vs =
    ap (λ c. flat_map (item_entry (list (items_with p vs))) (indexes_chosen s c)) (count-within p vs)
    ∙ items-chosen p vs (indexes_chosen s (item_count vs))
candidates-within p (filter e) vs = items-within p 0 vs

-- ---- what it selects

nodes-thin : (p : List ℕ → Bool) (es : List (Step × Value))
    → map (node_below []) (map (within p) es) ≡ map (thin p) (map (node_below []) es)
nodes-thin p [] = refl
nodes-thin p (e ∷ es) = ap (λ ns. thin p (node_below [] e) ∷ ns) (nodes-thin p es)

children-thin : (p : List ℕ → Bool) (s : SelectorTree) (vs : Items)
    → map (node_below []) (candidates s (list (items_with p vs)))
    ≡ map (thin p) (map (node_below []) (candidates s (list vs)))
children-thin p s vs =
    ap (map (node_below [])) (candidates-within p s vs) ∙ nodes-thin p (candidates s (list vs))

selection-thin : (p : List ℕ → Bool) (s : SelectorTree) (vs : Items) → asks_selector p s ≡ true
    → selection s (list (items_with p vs)) (root_of (list (items_with p vs)))
    ≡ map (thin p) (selection s (list vs) (root_of (list vs)))
selection-thin p (name cs) vs asks = children-thin p (name cs) vs
selection-thin p wildcard vs asks = children-thin p wildcard vs
selection-thin p (index i) vs asks = children-thin p (index i) vs
selection-thin p (slice s) vs asks = children-thin p (slice s) vs
selection-thin p (filter e) vs asks =
    ap (those_of (holds e (list (items_with p vs)))) (children-thin p (filter e) vs)
    ∙ those_of-map (thin p) (holds e (list (items_with p vs))) (holds e (list vs))
    (children (root_of (list vs)))
    (λ n. holds-thin p e (list vs) (list (items_with p vs)) n asks)

selected-thin : (p : List ℕ → Bool) (ss : SelectorTrees) (vs : Items)
    → asks_selectors p ss ≡ true
    → selected ss (list (items_with p vs)) (root_of (list (items_with p vs)))
    ≡ map (thin p) (selected ss (list vs) (root_of (list vs)))
selected-thin p no_selectors vs asks = refl
selected-thin p (selector_then s rest) vs asks =
    ap₂ (λ xs ys. xs ++ ys) (selection-thin p s vs (and-left _ _ asks))
    (selected-thin p rest vs (and-right _ _ asks))
    ∙ sym (map-append (thin p) (selection s (list vs) (root_of (list vs)))
    (selected rest (list vs) (root_of (list vs))))

-- ---- a query

result-items : (p : List ℕ → Bool) (all : SegmentTrees) (d : Value) → asks_items p all ≡ true
    → result all (with_items_of p d) (root_of (with_items_of p d) ∷ [])
    ≡ result all d (root_of d ∷ [])
result-items p no_segments d asks = absurd (cc)
result-items p (segment_then (segment true ss) rest) d asks = absurd (cc)
result-items p (segment_then (segment false ss) rest) null asks = refl
result-items p (segment_then (segment false ss) rest) (boolean b) asks = refl
result-items p (segment_then (segment false ss) rest) (whole z) asks = refl
result-items p (segment_then (segment false ss) rest) (decimal c e) asks = refl
result-items p (segment_then (segment false ss) rest) (text s) asks = refl
result-items p (segment_then (segment false ss) rest) (object ms) asks = refl
result-items p (segment_then (segment false ss) rest) (list vs) asks =
    let u = list (items_with p vs) in
    ap (result rest u)
    (append-nil (selected ss u (root_of u))
    ∙ selected-thin p ss vs (and-left _ _ asks)
    ∙ ap (map (thin p)) (sym (append-nil (selected ss (list vs) (root_of (list vs))))))
    ∙ result-members p rest (list vs) u
    (selected ss (list vs) (root_of (list vs)) ++ []) (and-right _ _ asks)

-- a query that asks for these members of items alone selects the same without the others
pub nodelist-items : (p : List ℕ → Bool) (absolute : Bool) (all : SegmentTrees) (d : Value)
    → asks_items p all ≡ true
    → nodelist (query absolute all) (with_items_of p d) ≡ nodelist (query absolute all) d
nodelist-items p absolute all d asks =
    let u = with_items_of p d in
    ap (λ n. result all u (n ∷ [])) (sym (root_starts absolute u))
    ∙ result-items p all d asks
    ∙ ap (λ n. result all d (n ∷ [])) (root_starts absolute d)
