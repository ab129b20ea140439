-- What is read of a document for a query, and which nodes it then has (RFC 9535 section 2.1.2).
use Rattle.std.specs.Prelude.{◌≡◌, ⊤, ℕ, List, Option, Some, None, map, option_map, option_to_list}
use Rattle.jp_decimal.specs.declared.numbers.Numbers.{Numbers}
use Rattle.jp_document.specs.Exact.{IsDocumentIn}
use Rattle.jp_document.specs.Location.{Location, owned_step}
use Rattle.jp_document.specs.Node.{Node, node_at, root_of}
use Rattle.jp_document.specs.Value.{Value as DocumentValue}
use Rattle.jp_flat.specs.FlatValue.{document_in, flat_found}
use Rattle.jp_flat.specs.declared.flat.Flat.{Flat}
use Rattle.jp_held.specs.declared.portion.Excerpt.{Excerpt}
use Rattle.jp_held.specs.declared.portion.Excerpt.TheVariants as read
use Rattle.jp_held.specs.declared.portion.Portion.{Portion}
use Rattle.jp_held.specs.declared.portion.Portion.TheVariants.{Value, Members, Whole}
use Rattle.jp_tree.specs.Tree.{ExprTree, QueryTree}
use Rattle.jp_evaluate.specs.Asked.{AsksNoMore, TestsNoMore}
use Rattle.jp_evaluate.specs.Named.{NamesLocation}
use Rattle.jp_evaluate.specs.Nodelist.{holds, nodelist}

-- the query selects over each document what it selects in that portion of it: the location is the one
-- that it names, or it asks for no more
abbrev pub Serves : QueryTree → Portion → Type 0
Serves q (Value l) = NamesLocation q (map owned_step l.items)
Serves q (Members asked) = AsksNoMore q asked
Serves q Whole = ⊤

-- the expression is as true of each document as of that portion of it: it asks for no more
abbrev pub ServesTest : ExprTree → Portion → Type 0
ServesTest e (Value l) = ⊥
ServesTest e (Members asked) = TestsNoMore e asked
ServesTest e Whole = ⊤

-- the location that is wanted, if only the value there is
abbrev pub location_in : Portion → Option Location
location_in (Value l) = Some (map owned_step l.items)
location_in (Members asked) = None
location_in Whole = None

-- the nodes that a query has in what was read of a document for it: those that it selects there, or
-- the one at the location that it names
abbrev pub nodes_read : QueryTree → Excerpt → List Node
nodes_read q (read.Document f) = nodelist q (document_in f)
nodes_read q (read.Value l found) =
    map (node_at (map owned_step l.now)) (option_to_list (option_map document_in (flat_found found)))

-- the bytes are a document with such numbers, and what was read of it has the nodes that the query
-- selects in it
pub record IsReadToAnswer (numbers : Numbers) (q : QueryTree) (bytes : List ℕ) (e : Excerpt) : Type 0
  where
    pub document : DocumentValue
    pub is : IsDocumentIn numbers bytes document
    pub same : nodes_read q e ≡ nodelist q document

-- the bytes are a document with such numbers, of which so much is in the tables that each query which
-- that portion serves selects the same nodes there, and each expression is as true (section 2.3.5)
pub record HoldsPortion (numbers : Numbers) (p : Portion) (bytes : List ℕ) (f : Flat) : Type 0 where
  pub document : DocumentValue
  pub is : IsDocumentIn numbers bytes document
  pub nodes : (q : QueryTree) → Serves q p → nodelist q (document_in f) ≡ nodelist q document
  pub truth : (e : ExprTree) → ServesTest e p
      → holds e (document_in f) (root_of (document_in f)) ≡ holds e document (root_of document)
