-- What a query asks of a document, of which the rest may be left out (RFC 9535 section 2.1.2).
use Rattle.std.specs.Prelude.{◌≡◌}
use Rattle.jp_document.specs.Node.{root_of}
use Rattle.jp_document.specs.Value.{Value}
use Rattle.jp_flat.specs.Asked.{IsKept}
use Rattle.jp_flat.specs.declared.asked.AskedFor.{AskedFor}
use Rattle.jp_tree.specs.Tree.{ExprTree, QueryTree}
use Rattle.jp_evaluate.specs.Nodelist.{holds, nodelist}

-- over each document the query selects in what is kept of it the same nodes as in all of it
abbrev pub AsksNoMore : QueryTree → AskedFor → Type 0
AsksNoMore q asked = (d u : Value) → IsKept asked d u → nodelist q u ≡ nodelist q d

-- the expression is as true of what is kept of each document as of all of it, where that is its root
-- and its current node (section 2.3.5)
abbrev pub TestsNoMore : ExprTree → AskedFor → Type 0
TestsNoMore e asked = (d u : Value) → IsKept asked d u
    → holds e u (root_of u) ≡ holds e d (root_of d)
