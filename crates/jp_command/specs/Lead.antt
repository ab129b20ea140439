-- The lines of a nodelist behind a text, as that of a file's name. Clauses of what writes lines cite it.
use Rattle.std.specs.Prelude.{ℕ, List, ◌++◌}
use Rattle.std.specs.List.{flat_map}
use Rattle.jp_document.specs.Node.{Node}
use Rattle.jp_document.specs.Value.{Value}
use Rattle.jp_evaluate.specs.Nodelist.{nodelist}
use Rattle.jp_tree.specs.Tree.{QueryTree}
use Rattle.jp_command.specs.Lines.{line_of}
use Rattle.jp_command.specs.declared.form.Form.{Form}

-- the line of a node behind a text
abbrev pub line_behind : List ℕ → Form → Node → List ℕ
line_behind lead form n = lead ++ line_of form n

-- the output of a query over a document with a text before each line
abbrev pub output_behind : List ℕ → Form → QueryTree → Value → List ℕ
output_behind lead form q d = flat_map (line_behind lead form) (nodelist q d)
