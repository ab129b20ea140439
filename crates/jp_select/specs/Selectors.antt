-- What a selector selects (RFC 9535 section 2.3), each value with its step, and as nodes.
use Rattle.std.specs.Prelude.{ℕ, suc, ℤ, pos, negsuc, ◌-◌, nat_lt, List, [], Option, Some, None}
use Rattle.std.specs.Prelude.{map, option_map, option_and_then, option_to_list, if◌then◌else◌}
use Rattle.std.specs.List.{flat_map}
use Rattle.std.specs.Option.{option_map_or}
use Rattle.std.specs.Str.{encode_utf8_all}
use Rattle.jp_document.specs.Location.{Step, child_entry, entries, named, nth}
use Rattle.jp_document.specs.Node.{Node, node_below}
use Rattle.jp_document.specs.Value.{Value, list_length}
use Rattle.jp_tree.specs.Tree.{SelectorTree, name, wildcard, index, slice, filter}
use Rattle.jp_tree.specs.declared.tree.Numeral.{Numeral}
use Rattle.jp_tree.specs.declared.tree.Numeral.TheVariants.{Whole}
use Rattle.jp_tree.specs.declared.tree.Slice.{Slice}
use Rattle.jp_select.specs.Slice.{slice_of}

-- which of n items an index selects, counted from the end where it is negative, if it is there
-- (section 2.3.3.2)
abbrev pub item_at : ℕ → ℤ → Option ℕ
item_at n (pos i) = if nat_lt i n then Some i else None
item_at n (negsuc i) = if nat_lt i n then Some (n - suc i) else None

-- the whole number that a numeral is, if it is one in range
abbrev pub whole_of : Numeral → Option ℤ
whole_of (Whole z) = Some z
whole_of _ = None

-- a bound of a slice, which may be omitted; None where it is a number that is not whole or out of
-- range
abbrev pub bound_of : Option Numeral → Option (Option ℤ)
bound_of None = Some None
bound_of (Some n) = option_map Some (whole_of n)

-- the indexes that these bounds and this step select among n items (section 2.3.4.2), where all are
-- whole and in range
abbrev pub indexes_of : ℕ → Option (Option ℤ) → Option (Option ℤ) → Option ℤ → List ℕ
indexes_of n (Some start) (Some end) (Some step) = slice_of n start end step
indexes_of n _ _ _ = []

-- the indexes that a slice of the query selects among n items
abbrev pub indexes_chosen : Slice → ℕ → List ℕ
indexes_chosen s n = indexes_of n (bound_of s.start) (bound_of s.end) (whole_of s.step)

-- the item of v with index i, if it is there
abbrev pub item_of : Value → ℕ → Option (Step × Value)
item_of v i = child_entry v (nth i)

-- the one value that a name selects in v, or an index, if it is there; other selectors have none
abbrev pub single : SelectorTree → Value → Option (Step × Value)
single (name cs) v = child_entry v (named (encode_utf8_all cs))
single (index (Whole i)) v =
    option_and_then (item_of v) (option_and_then (λ n. item_at n i) (list_length v))
single _ v = None

-- the same as a list
abbrev pub item_entry : Value → ℕ → List (Step × Value)
item_entry v i = option_to_list (item_of v i)

-- what a selector chooses from at v, in its order: a name that member, an index that item, a slice
-- its items, a wildcard and a filter all children, of which a filter takes those for which its
-- expression is true
abbrev pub candidates : SelectorTree → Value → List (Step × Value)
candidates (name cs) v = option_to_list (single (name cs) v)
candidates wildcard v = entries v
candidates (index i) v = option_to_list (single (index i) v)
candidates (slice s) v =
    option_map_or (λ n. flat_map (item_entry v) (indexes_chosen s n)) (list_length v) []
candidates (filter e) v = entries v

-- what a plain selector selects at n: a name, a wildcard, an index or a slice. A filter is none of
-- these: what it selects depends on queries of its own, and here it chooses nothing
abbrev pub chosen : SelectorTree → Node → List Node
chosen (filter e) n = []
chosen s n = map (node_below n.location) (candidates s n.value)
