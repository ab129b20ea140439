-- What is told of a node for its line in a form. The clauses of `next_shown` cite it.
use Rattle.std.specs.Prelude.{◌≡◌, ◌∷◌, [], true, false, Option, Some, None, Result, Ok, Err}
use Rattle.jp_document.specs.Node.{Node}
use Rattle.jp_document.specs.Value.{Value}
use Rattle.jp_evaluate.specs.Lent.{KeepsWay, has_failed, rest_of, given_node}
use Rattle.jp_evaluate.specs.declared.lent.LentNodes.{LentNodes}
use Rattle.jp_command.specs.Lines.{text_in_line}
use Rattle.jp_command.specs.declared.form.Form.{Form}

-- what one call gives, as `GivesNextAs` says it, but that of the node no more is told than its value, and
-- what its line has in that form, which is what the node has that was given last
abbrev pub GivesShown : {V M E : Type 0} → Form → (V → Value) → LentNodes V M
    → Option (Result V E) → LentNodes V M → Type 0
GivesShown form m v (Some (Ok x)) w =
    (n : Node) × (has_failed v ≡ false) × (has_failed w ≡ false) × (rest_of m v ≡ n ∷ rest_of m w)
    × (text_in_line form n ≡ text_in_line form (given_node m w x))
GivesShown form m v (Some (Err e)) w = (has_failed v ≡ false) × (has_failed w ≡ true)
GivesShown form m v None w =
    (has_failed w ≡ has_failed v)
    × (has_failed v ≡ false → (rest_of m v ≡ []) × (rest_of m w ≡ []))

-- where lines in that form have paths, what is kept of the way of v stands on that of w
abbrev pub KeepsShown : {V M : Type 0} → Form → LentNodes V M → LentNodes V M → Type 0
KeepsShown form v w = form.has_path ≡ true → KeepsWay v w
