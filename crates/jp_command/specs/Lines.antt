-- What is written of a nodelist: a line for each node, which has its normalized path or not, and its value
-- compact, raw or not at all. `Run` cites it.
use Rattle.std.specs.Prelude.{ℕ, Bool, true, false, List, [], ◌++◌, codes}
use Rattle.std.specs.List.{flat_map}
use Rattle.jp_document.specs.Node.{Node}
use Rattle.jp_document.specs.Path.{path_of}
use Rattle.jp_document.specs.Text.{text_of}
use Rattle.jp_document.specs.Value.{Value}
use Rattle.jp_evaluate.specs.Nodelist.{nodelist}
use Rattle.jp_lent.specs.Raw.{raw_text}
use Rattle.jp_tree.specs.Tree.{QueryTree}
use Rattle.jp_command.specs.declared.form.Form.{Form}
use Rattle.jp_command.specs.declared.form.ValueForm.{ValueForm}
use Rattle.jp_command.specs.declared.form.ValueForm.TheVariants.{Compact, Omitted, Raw}

-- what is written of a value: nothing, its compact text, or raw, a string by its characters
abbrev pub value_in_line : ValueForm → Value → List ℕ
value_in_line Omitted v = []
value_in_line Compact v = text_of v
value_in_line Raw v = raw_text v

-- what stands in a line without a path, and with one (RFC 9535 section 2.7): the value, the normalized path, or
-- both with a tab between
abbrev pub text_with_path : Bool → ValueForm → Node → List ℕ
text_with_path false value n = value_in_line value n.value
text_with_path true Omitted n = path_of n.location
text_with_path true value n = path_of n.location ++ codes "\t" ++ value_in_line value n.value

-- what stands in the line of a node
abbrev pub text_in_line : Form → Node → List ℕ
text_in_line form n = text_with_path form.has_path form.value n

-- the line of a node, which a newline ends
abbrev pub line_of : Form → Node → List ℕ
line_of form n = text_in_line form n ++ codes "\n"

-- a line for each node
abbrev pub lines_of : Form → List Node → List ℕ
lines_of form ns = flat_map (line_of form) ns

-- the output of a query over a document: the lines of its nodelist, in order
abbrev pub output_of : Form → QueryTree → Value → List ℕ
output_of form q d = lines_of form (nodelist q d)

-- the forms that have names: the value, the normalized path, or both; and those with the value raw
abbrev pub values : Form
values = record { has_path = false; value = Compact }

abbrev pub paths : Form
paths = record { has_path = true; value = Omitted }

abbrev pub both : Form
both = record { has_path = true; value = Compact }

abbrev pub raw_values : Form
raw_values = record { has_path = false; value = Raw }

abbrev pub raw_both : Form
raw_both = record { has_path = true; value = Raw }
