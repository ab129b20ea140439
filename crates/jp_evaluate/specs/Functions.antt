-- What the functions answer for what their arguments stand for: those of RFC 9535 section 2.4, and
-- `distinct`. Nothing is None.
use Rattle.std.specs.Prelude.{ℕ, pos, Bool, false, not, List, [], ◌∷◌, filter as those_of, length}
use Rattle.std.specs.Prelude.{Option, Some, None, option_and_then, option_map}
use Rattle.std.specs.Ordering.{is_eq}
use Rattle.std.specs.Str.{chars}
use Rattle.jp_document.specs.Location.{location_cmp}
use Rattle.jp_document.specs.Node.{Node}
use Rattle.jp_document.specs.Value.{Value, item_count, list, names_of, object, text, whole}
use Rattle.jp_iregexp.specs.MatchTests.{has_match, is_match}
use Rattle.jp_tree.specs.declared.function.Function.{Function}
use Rattle.jp_tree.specs.declared.function.Function.TheVariants.{Count, Distinct, Length, Match}
use Rattle.jp_tree.specs.declared.function.Function.TheVariants.{Search, ValueOf}

-- how many scalar values a text has, items a list, members an object
abbrev pub size_of : Option Value → Option ℕ
size_of (Some (text s)) = Some (length (chars s))
size_of (Some (list vs)) = Some (item_count vs)
size_of (Some (object ms)) = Some (length (names_of ms))
size_of _ = None

-- length: the size of such a value; others have no length, and neither has Nothing (section 2.4.4)
abbrev pub length_of : Option Value → Option Value
length_of v = option_map (λ n. whole (pos n)) (size_of v)

-- count: how many nodes a list has (section 2.4.5)
abbrev pub count_of : List Node → Option Value
count_of ns = Some (whole (pos (length ns)))

-- value: the value of the only node of a list; other lists have none (section 2.4.8)
abbrev pub only_value : List Node → Option Value
only_value (n ∷ []) = Some n.value
only_value _ = None

-- the nodes have one location
abbrev pub is_same_node : Node → Node → Bool
is_same_node n m = is_eq (location_cmp n.location m.location)

-- distinct: nodes without repeats, each at its first occurrence
abbrev pub without_repeats : List Node → List Node
without_repeats [] = []
without_repeats (n ∷ ns) = n ∷ those_of (λ m. not (is_same_node n m)) (without_repeats ns)

-- match: whether a text, the whole of it, matches a pattern; not so where the pattern does not
-- conform, or one of both is no text (section 2.4.6)
abbrev pub is_matched : Option Value → Option Value → Bool
is_matched (Some (text s)) (Some (text p)) = is_match (chars s) (chars p)
is_matched _ _ = false

-- search: the same of some part of the text (section 2.4.7)
abbrev pub is_found : Option Value → Option Value → Bool
is_found (Some (text s)) (Some (text p)) = has_match (chars s) (chars p)
is_found _ _ = false

-- what a function makes of its arguments (section 2.4.1): a value of a value, a value of nodes,
-- nodes of nodes, or true or false of two values
pub data Meaning : Type 0 where
  value_of_value : (Option Value → Option Value) → Meaning
  value_of_nodes : (List Node → Option Value) → Meaning
  nodes_of_nodes : (List Node → List Node) → Meaning
  truth_of_values : (Option Value → Option Value → Bool) → Meaning

-- the meaning of each function of the standard (sections 2.4.4 to 2.4.8), and of `distinct`
abbrev pub meaning : Function → Meaning
meaning Length = value_of_value length_of
meaning Count = value_of_nodes count_of
meaning Match = truth_of_values is_matched
meaning Search = truth_of_values is_found
meaning ValueOf = value_of_nodes only_value
meaning Distinct = nodes_of_nodes without_repeats

-- what a function of one argument answers as a value: for its value v, or for its nodes ns, which an
-- argument that is no query does not have; other functions answer no value
abbrev pub value_answer : Option Meaning → Option Value → Option (List Node) → Option Value
value_answer (Some (value_of_value f)) v ns = f v
value_answer (Some (value_of_nodes f)) v ns = option_and_then f ns
value_answer _ v ns = None

-- what it answers as nodes, for the argument's nodes ns; other functions answer no nodes
abbrev pub nodes_answer : Option Meaning → Option (List Node) → Option (List Node)
nodes_answer (Some (nodes_of_nodes f)) ns = option_map f ns
nodes_answer _ ns = None

-- whether a function of two arguments is true of their values; other functions are false here
abbrev pub logical_answer : Option Meaning → Option Value → Option Value → Bool
logical_answer (Some (truth_of_values f)) v w = f v w
logical_answer _ v w = false
