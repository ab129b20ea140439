-- Nodes of which a line shows what a call gives.
use Rattle.std.proofs.Common.{◌≡◌, ◌∙◌, Bool, true, false, Option, Some, None, Result, Ok, Err, IfSome}
use Rattle.std.proofs.Common.{OnOk, refl, sym}
use Rattle.std.proofs.lemmas.Bool.{true≢false}
use Rattle.jp_document.specs.Location.{Location}
use Rattle.jp_document.specs.Node.{node_at}
use Rattle.jp_document.specs.Value.{Value}
use Rattle.jp_evaluate.specs.Lent.{GivesNextValue, KeepsWay, has_failed, place_of, rest_of, given_node}
use Rattle.jp_evaluate.specs.declared.lent.LentNodes.{LentNodes}
use Rattle.jp_select.specs.Giving.{GivesNextAs}
use Rattle.jp_command.specs.Lines.{text_with_path}
use Rattle.jp_command.specs.Private.Shown.{GivesShown, KeepsShown}
use Rattle.jp_command.specs.declared.form.Form.{Form}
use Rattle.jp_command.specs.declared.form.ValueForm.{ValueForm}

-- where lines have no paths, nodes with the same value have the same in them
value_alone : (has_path : Bool) (value : ValueForm) (k l : Location) (v : Value) → has_path ≡ false
    → text_with_path has_path value (node_at k v) ≡ text_with_path has_path value (node_at l v)
value_alone false value k l v none = refl
value_alone true value k l v none = absurd (true≢false none)

pub values_shown : {V M E : Type 0} (form : Form) (m : V → Value) (v : LentNodes V M)
    (r : Option (Result V E)) (w : LentNodes V M) → form.has_path ≡ false → GivesNextValue m v r w
    → GivesShown form m v r w
values_shown form m v (Some (Ok x)) w plain given = (
  node_at given.0 (m x),
  given.1.0,
  given.1.1,
  given.1.2,
  value_alone form.has_path form.value given.0 (place_of w) (m x) plain,
)
values_shown form m v (Some (Err e)) w plain given = given.1
values_shown form m v None w plain given = given.1

pub nodes_shown : {V M E : Type 0} (form : Form) (m : V → Value) (v : LentNodes V M)
    (r : Option (Result V E)) (w : LentNodes V M)
    → GivesNextAs (given_node m w) (rest_of m) has_failed v r w
    → GivesShown form m v r w
nodes_shown form m v (Some (Ok x)) w given = (given_node m w x, given.0, given.1, given.2, refl)
nodes_shown form m v (Some (Err e)) w given = given
nodes_shown form m v None w given = given

-- of lines that have no paths nothing has to be kept
pub kept_without_paths : {V M X E : Type 0} (form : Form) (r : Option (Result X E))
    (v w : LentNodes V M) → form.has_path ≡ false → IfSome r (λ q. OnOk q (KeepsShown form v w))
kept_without_paths form (Some (Ok x)) v w none = λ has. absurd (true≢false (sym has ∙ none))
kept_without_paths form (Some (Err e)) v w none = tt
kept_without_paths form None v w none = tt

-- what is kept of the way is kept for lines with paths too
pub kept_with_paths : {V M X E : Type 0} (form : Form) (r : Option (Result X E))
    (v w : LentNodes V M) → IfSome r (λ q. OnOk q (KeepsWay v w))
    → IfSome r (λ q. OnOk q (KeepsShown form v w))
kept_with_paths form (Some (Ok x)) v w keeps = λ has. keeps
kept_with_paths form (Some (Err e)) v w keeps = tt
kept_with_paths form None v w keeps = tt
