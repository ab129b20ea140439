-- The row of a document: a cell for each query.
use Rattle.std.specs.Prelude.{ℕ, Bool, List, length, map}
use Rattle.std.specs.List.{flat_map}
use Rattle.jp_document.specs.Value.{Value}
use Rattle.jp_evaluate.specs.Nodelist.{nodelist}
use Rattle.jp_tree.specs.Tree.{QueryTree}
use Rattle.jp_cells.specs.Cells.{cell_text, values_in}
use Rattle.jp_cells.specs.Rows.{row_text}
use Rattle.jp_cells.specs.declared.style.Style.{Style}

-- the text of the cell of a query: that of the values in its nodelist (RFC 9535 section 2.1.2)
abbrev pub cell_of : Bool → Value → QueryTree → List ℕ
cell_of raw d q = cell_text raw (values_in (nodelist q d))

-- how many nodes the queries select in the document d, all together
abbrev pub nodes_in : Value → List QueryTree → ℕ
nodes_in d qs = length (flat_map (λ q. nodelist q d) qs)

-- the row of the cells of these queries, in their order
abbrev pub columns_text : Style → List QueryTree → Value → List ℕ
columns_text style qs d = row_text style (map (cell_of style.raw d) qs)
