-- Worked rows of the definitions.
use Rattle.std.proofs.Common.{◌≡◌, ℕ, pos, negsuc, true, false, List, [], ◌∷◌, codes, map, refl}
use lib.Utf8.{encode}
use Rattle.jp_document.specs.Location.{Step, Location, named, nth}
use Rattle.jp_document.specs.Node.{location_of}
use Rattle.jp_document.specs.Value.{Value, null, list, object, no_items, item, no_members, member}
use Rattle.jp_tree.specs.Tree.{CallTree, ExprTree, QueryTree, SegmentTree, all_of, any_of}
use Rattle.jp_tree.specs.Tree.{argument_then, call, call_argument, call_test, call_value}
use Rattle.jp_tree.specs.Tree.{comparison, exists, exprs, filter, index, literal}
use Rattle.jp_tree.specs.Tree.{literal_argument, name, negation, no_arguments, no_segments}
use Rattle.jp_tree.specs.Tree.{node_value, null_literal, number, query, query_argument, segment}
use Rattle.jp_tree.specs.Tree.{segments, selectors, text, wildcard}
use Rattle.jp_tree.specs.declared.tree.Numeral.TheVariants.{Whole}
use Rattle.jp_tree.specs.declared.tree.Op.TheVariants.{Equal}
use Rattle.jp_evaluate.specs.Nodelist.{nodelist}

-- {"a": [null, [null]], "b": null}
abbrev nested_lists : Value
nested_lists =
    object
    (member (codes "a") (list (item null (item (list (item null no_items)) no_items)))
    (member (codes "b") null no_members))

abbrev key_a : Step
key_a = named (codes "a")

abbrev key_b : Step
key_b = named (codes "b")

abbrev of_segments : List SegmentTree → List Location
of_segments ss = map location_of (nodelist (query true (segments ss)) nested_lists)

-- $
root_alone : of_segments [] ≡ [] ∷ []
root_alone = refl

-- $[*][*,0]
first_item_twice : of_segments
    (segment false (selectors (wildcard ∷ [])) ∷ segment false
    (selectors (wildcard ∷ index (Whole (pos 0)) ∷ [])) ∷ [])
    ≡ (key_a ∷ nth 0 ∷ []) ∷ (key_a ∷ nth 1 ∷ []) ∷ (key_a ∷ nth 0 ∷ []) ∷ []
first_item_twice = refl

-- $[*][-1]
joined : of_segments
    (segment false (selectors (wildcard ∷ [])) ∷ segment false
    (selectors (index (Whole (negsuc 0)) ∷ [])) ∷ [])
    ≡ (key_a ∷ nth 1 ∷ []) ∷ []
joined = refl

-- $..[0]
below_a_first : of_segments (segment true (selectors (index (Whole (pos 0)) ∷ [])) ∷ []) ≡
    (key_a ∷ nth 0 ∷ []) ∷ (key_a ∷ nth 1 ∷ nth 0 ∷ []) ∷ []
below_a_first = refl

-- $..*: the children of each visited node stand together
each_in_turn : of_segments (segment true (selectors (wildcard ∷ [])) ∷ [])
    ≡ (key_a ∷ []) ∷ (key_b ∷ []) ∷ (key_a ∷ nth 0 ∷ []) ∷ (key_a ∷ nth 1 ∷ [])
    ∷ (key_a ∷ nth 1 ∷ nth 0 ∷ []) ∷ []
each_in_turn = refl

-- $..[*]..[0]: a node that is visited twice is selected twice
visited_twice : of_segments
    (segment true (selectors (wildcard ∷ [])) ∷ segment true
    (selectors (index (Whole (pos 0)) ∷ [])) ∷ [])
    ≡ (key_a ∷ nth 0 ∷ []) ∷ (key_a ∷ nth 1 ∷ nth 0 ∷ []) ∷ (key_a ∷ nth 1 ∷ nth 0 ∷ []) ∷ []
visited_twice = refl

-- $[0]
nothing : of_segments (segment false (selectors (index (Whole (pos 0)) ∷ [])) ∷ []) ≡ []
nothing = refl

-- ---- filters

abbrev kept_by : ExprTree → List Location
kept_by e = of_segments (segment false (selectors (filter e ∷ [])) ∷ [])

-- a query of the current node, or of the root, by one member
abbrev member_of_current : List ℕ → QueryTree
member_of_current name_chars =
    query false (segments (segment false (selectors (name name_chars ∷ [])) ∷ []))

abbrev current : QueryTree
current = query false no_segments

abbrev root_b : QueryTree
root_b = query true (segments (segment false (selectors (name (codes "b") ∷ [])) ∷ []))

abbrev children : QueryTree
children = query false (segments (segment false (selectors (wildcard ∷ [])) ∷ []))

-- $[?@.*]: a value without children has no node to test
tested : kept_by (exists children) ≡ (key_a ∷ []) ∷ []
tested = refl

-- $[?@]: null is there
present_null : kept_by (exists current) ≡ (key_a ∷ []) ∷ (key_b ∷ []) ∷ []
present_null = refl

-- $[?@==null]
equal_null : kept_by (comparison (node_value current) Equal (literal null_literal))
    ≡ (key_b ∷ []) ∷ []
equal_null = refl

-- $[?@.x==null]: no value is not null
missing_null : kept_by
    (comparison (node_value (member_of_current (codes "x"))) Equal (literal null_literal)) ≡ []
missing_null = refl

-- $[?@.x==@.y]: no value equals no value
both_missing : kept_by
    (comparison (node_value (member_of_current (codes "x"))) Equal
    (node_value (member_of_current (codes "y")))) ≡
    (key_a ∷ []) ∷ (key_b ∷ []) ∷ []
both_missing = refl

-- $[?$.b==@]: the root is that of the document
root_of_document : kept_by (comparison (node_value root_b) Equal (node_value current))
    ≡ (key_b ∷ []) ∷ []
unfolding encode
root_of_document = refl

-- $[?@[?@==null]]: in the inner filter the current node is the inner child
nested : kept_by
    (exists
    (query false
    (segments
    (segment false
    (selectors
    (filter (comparison (node_value current) Equal (literal null_literal)) ∷ [])) ∷ []))))
    ≡ (key_a ∷ []) ∷ []
nested = refl

-- $[?!@.*||@.*&&@]
joined_truths : kept_by
    (any_of
    (exprs
    (negation (exists children) ∷ all_of
    (exprs (exists children ∷ exists current ∷ [])) ∷ []))) ≡ (key_a ∷ []) ∷ (key_b ∷ []) ∷ []
joined_truths = refl

-- ---- functions, of each kind

abbrev called : List ℕ → QueryTree → CallTree
called name_chars q = call name_chars (argument_then (query_argument q) no_arguments)

abbrev is_two : CallTree → ExprTree
is_two f = comparison (call_value f) Equal (literal (number (Whole (pos 2))))

-- the first child twice
abbrev first_twice : QueryTree
first_twice =
    query false
    (segments
    (segment false (selectors (index (Whole (pos 0)) ∷ index (Whole (pos 0)) ∷ [])) ∷ []))

abbrev first : QueryTree
first = query false (segments (segment false (selectors (index (Whole (pos 0)) ∷ [])) ∷ []))

-- $[?length(@)==2]: null has no length
length_two : kept_by (is_two (called (codes "length") current)) ≡ (key_a ∷ []) ∷ []
length_two = refl

-- $[?count(@[0,0])==2]
count_two : kept_by (is_two (called (codes "count") first_twice)) ≡ (key_a ∷ []) ∷ []
count_two = refl

-- $[?value(@[0,0])==null]: two nodes have no one value
value_of_two : kept_by
    (comparison (call_value (called (codes "value") first_twice)) Equal (literal null_literal)) ≡ []
value_of_two = refl

-- $[?value(distinct(@[0,0]))==null]
value_of_one : kept_by
    (comparison
    (call_value
    (call (codes "value")
    (argument_then (call_argument (called (codes "distinct") first_twice)) no_arguments))) Equal
    (literal null_literal)) ≡ (key_a ∷ []) ∷ []
value_of_one = refl

-- $[?match(@[0],'')]: null is no text
match_of_null : kept_by
    (call_test
    (call (codes "match")
    (argument_then (query_argument first)
    (argument_then (literal_argument (text [])) no_arguments)))) ≡ []
match_of_null = refl
