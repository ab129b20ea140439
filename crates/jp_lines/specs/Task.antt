-- What a run does with each document: what is written of it, and how many nodes in it are selected.
use Rattle.std.specs.Prelude.{ℕ, Bool, List, [], ◌++◌, codes, if◌then◌else◌, length, take}
use Rattle.std.specs.Fmt.{decimal}
use Rattle.std.specs.List.{flat_map}
use Rattle.jp_command.specs.Lead.{line_behind}
use Rattle.jp_reading.specs.Characters.{tab}
use Rattle.jp_cells.specs.Columns.{columns_text, nodes_in}
use Rattle.jp_cells.specs.Rows.{separator}
use Rattle.jp_cells.specs.declared.style.Style.{Style}
use Rattle.jp_document.specs.Node.{Node, root_of}
use Rattle.jp_document.specs.Value.{Value}
use Rattle.jp_evaluate.specs.Nodelist.{holds, nodelist}
use Rattle.jp_tree.specs.Tree.{ExprTree, QueryTree}
use Rattle.jp_lines.specs.declared.options.Extent.{Extent}
use Rattle.jp_lines.specs.declared.options.Extent.TheVariants.{All, First}
use Rattle.jp_lines.specs.declared.options.Wanted.{Wanted}
use Rattle.jp_lines.specs.declared.options.Wanted.TheVariants.{Nodes, Count}

pub data Task : Type 0 where
  -- writes what is wanted of the nodes that the query selects
  Select : Wanted → Extent → QueryTree → Task
  -- writes the line itself where the expression is true of the document, which is its root and its
  -- current node (RFC 9535 section 2.3.5)
  Keep : ExprTree → Task
  -- writes a row in this style, with a cell for each query
  Tabulate : Style → List QueryTree → Task

-- what stands behind the number of the input's line: between the cells of a row what stands between
-- these, and else a tab
abbrev pub mark_behind_number : Task → ℕ
mark_behind_number (Select wanted extent q) = tab
mark_behind_number (Keep e) = tab
mark_behind_number (Tabulate style qs) = separator style.format

-- all nodes, or the first alone
abbrev pub nodes_within : Extent → List Node → List Node
nodes_within All ns = ns
nodes_within First ns = take 1 ns

-- what is written of these nodes, behind such a lead: their lines, or how many they are
abbrev pub nodes_output : Wanted → List ℕ → List Node → List ℕ
nodes_output (Nodes form) lead ns = flat_map (line_behind lead form) ns
nodes_output Count lead ns = lead ++ decimal (length ns) ++ codes "\n"

-- the expression is true of the document d
abbrev pub is_kept : ExprTree → Value → Bool
is_kept e d = holds e d (root_of d)

-- what is written of the document d, which stands in this line of the input, behind such a lead
abbrev pub written_for : Task → List ℕ → List ℕ → Value → List ℕ
written_for (Select wanted extent q) lead line d =
    nodes_output wanted lead (nodes_within extent (nodelist q d))
written_for (Keep e) lead line d =
    if is_kept e d then lead ++ (line ++ codes "\n") else []
written_for (Tabulate style qs) lead line d = lead ++ columns_text style qs d

-- how many nodes are selected in the document d, or whether it is kept
abbrev pub selected_in : Task → Value → ℕ
selected_in (Select wanted extent q) d = length (nodes_within extent (nodelist q d))
selected_in (Keep e) d = if is_kept e d then 1 else 0
selected_in (Tabulate style qs) d = nodes_in d qs
