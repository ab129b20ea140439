-- What is still to come of the nodes of a query inside an expression.
use Rattle.std.specs.Prelude.{◌≡◌, Bool, true, false, not, List, ◌∷◌, Option, Some, None}
use Rattle.std.specs.Prelude.{filter as those_of, if◌then◌else◌}
use Rattle.jp_document.specs.Location.{Location}
use Rattle.jp_document.specs.Node.{Node}
use Rattle.jp_document.specs.Value.{Value}
use Rattle.jp_tree.specs.Views.{query_of}
use Rattle.jp_evaluate.specs.Functions.{without_repeats}
use Rattle.jp_evaluate.specs.Private.Calls as calls
use Rattle.jp_evaluate.specs.Private.LocationSet.{has}
use Rattle.jp_evaluate.specs.Private.Walk.{walk_reaches}
use Rattle.jp_evaluate.specs.declared.location_set.LocationSet.{LocationSet}
use Rattle.jp_evaluate.specs.declared.selecting.NodesQuery.{NodesQuery}
use Rattle.jp_evaluate.specs.declared.selecting.Selecting.{Selecting}

-- the query that it is, and whether each of its nodes counts once
abbrev pub nodes_query : NodesQuery → calls.NodesQuery
nodes_query n = (query_of n.query.now, n.distinct)

-- of nodes to come those that count: all, or, where each counts once, those that did not come
-- before
abbrev pub counted_of : Option LocationSet → List Node → List Node
counted_of None ns = ns
counted_of (Some seen) ns = those_of (λ n. not (has seen n.location)) (without_repeats ns)

-- the nodes to come that count, in a document of value d, where m says what a value that is lent
-- stands for
abbrev pub to_come : {V : Type 0} → (V → Value) → Value → Selecting V → List Node
to_come m d s = counted_of s.seen (walk_reaches m s.segments.now d s.walk)

-- nothing was seen, where it is asked
abbrev pub IsFresh : Bool → Option LocationSet → Type 0
IsFresh false seen = seen ≡ None
IsFresh true None = ⊥
IsFresh true (Some seen) = (l : Location) → has seen l ≡ false

-- what is to come of n and the nodes after it, where n was found to count or not
abbrev pub TellsNew : Option LocationSet → Node → Bool → Option LocationSet → Type 0
TellsNew before n is_new after =
    (ns : List Node)
    → counted_of before (n ∷ ns)
    ≡ (if is_new then n ∷ counted_of after ns else counted_of after ns)
