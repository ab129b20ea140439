-- What is asked for of a nodelist: the lines of all its nodes, or of the first alone, and perhaps that the status
-- tells whether it is empty. `Run` and `Line` cite it.
use Rattle.std.specs.Prelude.{ℕ, Bool, true, false, List, [], ◌∷◌, take}
use Rattle.jp_document.specs.Node.{Node}
use Rattle.jp_document.specs.Value.{Value}
use Rattle.jp_evaluate.specs.Nodelist.{nodelist}
use Rattle.jp_tree.specs.Tree.{QueryTree}
use Rattle.jp_command.specs.Lines.{lines_of}
use Rattle.jp_command.specs.declared.form.Form.{Form}
use Rattle.jp_command.specs.declared.node_task.NodeTask.{NodeTask}

-- all nodes in that form
abbrev pub all_nodes : Form → NodeTask
all_nodes form = record { form = form; is_first = false; tells_none = false }

-- those of the nodes that are asked for: all of them, or at most the first
abbrev pub nodes_taken : Bool → List Node → List Node
nodes_taken false ns = ns
nodes_taken true ns = take 1 ns

-- what is written of a query over a document: the lines of these nodes of its nodelist, in order
abbrev pub output_asked : NodeTask → QueryTree → Value → List ℕ
output_asked nodes q d = lines_of nodes.form (nodes_taken nodes.is_first (nodelist q d))

-- the status of a run that is done over this nodelist: where that is asked for, 6 if nothing is selected, else 0
abbrev pub status_done : Bool → List Node → ℕ
status_done true [] = 6
status_done true (n ∷ ns) = 0
status_done false ns = 0
