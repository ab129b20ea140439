-- What paths begin with, and what a line has behind one. The clauses of `Front` and of `push_line` cite it.
use Rattle.std.specs.Prelude.{◌≡◌, ◌≤◌, ◌++◌, [], ℕ, Bool, true, false, List, Option, codes}
use Rattle.std.specs.Prelude.{if◌then◌else◌, string_bytes, take}
use Rattle.std.specs.List.{flat_map}
use Rattle.jp_document.specs.Location.{Location}
use Rattle.jp_document.specs.Path.{path_of, step_text}
use Rattle.jp_document.specs.Value.{Value}
use Rattle.jp_document.specs.declared.location.Step.{Step}
use Rattle.jp_evaluate.specs.Lent.{kept_of, location_of, way_of}
use Rattle.jp_evaluate.specs.declared.lent.LentNodes.{LentNodes}
use Rattle.jp_command.specs.Lines.{value_in_line}
use Rattle.jp_command.specs.declared.front.Front.{Front}
use Rattle.jp_command.specs.declared.form.Form.{Form}
use Rattle.jp_command.specs.declared.form.ValueForm.{ValueForm}
use Rattle.jp_command.specs.declared.form.ValueForm.TheVariants.{Omitted}

-- what a normalized path has for the steps of a way
abbrev pub way_text : List (Option Step) → List ℕ
way_text ss = flat_map step_text (flat_map location_of ss)

-- its text is what a normalized path has for its part of the way
abbrev pub HasPathText : {V M : Type 0} → Front → LentNodes V M → Type 0
HasPathText f v = string_bytes f.text ≡ way_text (take f.count (way_of v))

-- the same where so much of the way is kept
abbrev pub Follows : {V M : Type 0} → Front → LentNodes V M → Type 0
Follows f v = f.count ≤ kept_of v → HasPathText f v

-- the two where lines in that form have paths
abbrev pub IsAlong : {V M : Type 0} → Form → Front → LentNodes V M → Type 0
IsAlong form f v = form.has_path ≡ true → HasPathText f v

abbrev pub ComesAlong : {V M : Type 0} → Form → Front → LentNodes V M → Type 0
ComesAlong form f v = form.has_path ≡ true → Follows f v

-- the path that the line of a node has, if it has one
abbrev pub path_in_line : Form → Location → List ℕ
path_in_line form l = if form.has_path then path_of l else []

-- a line has a path and a value
abbrev pub has_both_by : Bool → ValueForm → Bool
has_both_by has_path Omitted = false
has_both_by has_path _ = has_path

abbrev pub has_both : Form → Bool
has_both form = has_both_by form.has_path form.value

-- what the line of a node with that value has behind the path
abbrev pub text_after_path : Form → Value → List ℕ
text_after_path form v =
    (if has_both form then codes "\t" else []) ++ value_in_line form.value v ++ codes "\n"
