-- The values that singular queries select, step by step.
use Rattle.std.proofs.Common.{◌≡◌, ℕ, Bool, true, false, if◌then◌else◌}
use Rattle.std.proofs.Common.{List, [], ◌∷◌, ◌++◌, Option, Some, None}
use Rattle.std.proofs.Common.{map, option_map, option_to_list}
use Rattle.std.proofs.Common.{option_and_then, IsUtf8, refl, ap, sym, ◌∙◌, subst}
use Rattle.std.specs.Str.{chars, encode_utf8_all}
use Rattle.std.proofs.lemmas.Str.{encodes-chars}
use Rattle.jp_document.specs.Location.{Step, Location}
use Rattle.jp_document.specs.Node.{Node, node_below, root_of}
use Rattle.jp_document.specs.Value.{Value}
use Rattle.jp_tree.specs.Singular.{are_single}
use Rattle.jp_tree.specs.Tree.{SegmentTrees, SelectorTree, filter, index, name, no_segments}
use Rattle.jp_tree.specs.Tree.{no_selectors, segment, segment_then, segments}
use Rattle.jp_tree.specs.Views.{query_of, segment_of}
use Rattle.jp_tree.specs.Tree.{selector_then, slice, wildcard}
use Rattle.jp_tree.specs.declared.tree.Query.{Query, out-Query}
use Rattle.jp_tree.specs.declared.tree.Segment.{Segment}
use Rattle.jp_select.specs.Selectors.{single as single_entry}
use Rattle.jp_evaluate.specs.Nodelist.{nodelist_at, result, single_node_value, start_of}
use Rattle.jp_evaluate.specs.Functions.{only_value}
use Rattle.jp_evaluate.specs.Private.Singular.{chosen_value, single_value, values_along}
use Rattle.jp_evaluate.proofs.Nodelists.Joined.{result-none}
use Rattle.jp_evaluate.proofs.Nodelists.Only.{IsOfOne}
use Rattle.jp_tree.proofs.Views.{query_of-is}

-- the characters of a text spell its bytes
pub text-spelled : (bytes text : List ℕ) → IsUtf8 bytes → bytes ≡ text
    → encode_utf8_all (chars text) ≡ bytes
text-spelled bytes text utf8 same =
    let P : List ℕ → Type 0 = λ b. encode_utf8_all (chars b) ≡ bytes in
    subst P same (encodes-chars bytes utf8)

-- ---- one segment

-- only a child segment with one selector selects a single value
pub of_one : (v : Value) → IsOfOne (λ s. single_value s v)
of_one v = record { descends = λ ss. refl; empty = refl; several = λ x y more. refl }

-- ---- the segments of a query

abbrev pub of_segments : List Segment → SegmentTrees
of_segments xs = segments (map segment_of xs)

-- ---- what the standard has for it

abbrev pub singular_value : SegmentTrees → Value → Node → Option Value
singular_value all d n = if are_single all then only_value (result all d (n ∷ [])) else None

none_if : (b : Bool) → let none : Option Value = None in none ≡ (if b then none else none)
none_if true = refl
none_if false = refl

-- at the one value that a selector chose, or at none
along_entry : (rest : SegmentTrees) (d : Value) (l : Location) (o : Option (Step × Value))
    → ((n : Node) → values_along rest n.value ≡ singular_value rest d n)
    → option_and_then (values_along rest) (option_map (λ e. e.1) o)
    ≡
    (if are_single rest then only_value
    (result rest d ((map (node_below l) (option_to_list o) ++ []) ++ [])) else None)
along_entry rest d l None each =
    none_if (are_single rest)
    ∙ ap (λ ns. if are_single rest then only_value ns else None) (sym (result-none rest d))
along_entry rest d l (Some e) each = each (node_below l e)

along_one : (x : SelectorTree) (rest : SegmentTrees) (d : Value) (n : Node)
    → ((m : Node) → values_along rest m.value ≡ singular_value rest d m)
    → option_and_then (values_along rest) (chosen_value x n.value) ≡
    singular_value (segment_then (segment false (selector_then x no_selectors)) rest) d n
along_one (name cs) rest d n each =
    along_entry rest d n.location (single_entry (name cs) n.value) each
along_one (index i) rest d n each =
    along_entry rest d n.location (single_entry (index i) n.value) each
along_one wildcard rest d n each = refl
along_one (slice s) rest d n each = refl
along_one (filter e) rest d n each = refl

-- the segments of a singular query lead to the value of its node, others to none
pub along : (all : SegmentTrees) (d : Value) (n : Node)
    → values_along all n.value ≡ singular_value all d n
along no_segments d n = refl
along (segment_then (segment true ss) rest) d n = refl
along (segment_then (segment false no_selectors) rest) d n = refl
along (segment_then (segment false (selector_then x no_selectors)) rest) d n =
    along_one x rest d n (λ m. along rest d m)
along (segment_then (segment false (selector_then x (selector_then y more))) rest) d n = refl

-- from where a query begins they lead to the value of its node
pub along_query : (q : Query) (d v : Value) (c : Node)
    → root_of v ≡ start_of (out-Query q).absolute d c
    → values_along (of_segments (out-Query q).segments.items) v
    ≡ single_node_value (query_of q) (nodelist_at (query_of q) d c)
along_query q d v c starts =
    let all = of_segments (out-Query q).segments.items in
    along all d (root_of v)
    ∙ ap (singular_value all d) starts
    ∙ sym (ap (λ t. single_node_value t (nodelist_at t d c)) (query_of-is q))
