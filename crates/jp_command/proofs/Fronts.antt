-- What paths begin with, value by value on the way.
use Rattle.std.proofs.Common.{◌≡◌, ℕ, zero, suc, ◌+◌, ◌<◌, ◌≤◌, List, [], ◌∷◌, ◌++◌, Option, Some, None}
use Rattle.std.proofs.Common.{take, refl, ap, ap₂, sym, ◌∙◌, arith, string_bytes}
use Rattle.std.proofs.Common.{inl, inr, subst, Bool, true, false, append_assoc, codes, if◌then◌else◌}
use Rattle.std.proofs.lemmas.Bool.{cases_lt}
use Rattle.std.proofs.lemmas.Grind.{flat_map-append}
use Rattle.std.proofs.lemmas.List.{append-nil, take-take}
use Rattle.std.proofs.lemmas.Option.{same_Some}
use Rattle.std.specs.List.{flat_map, slice_get}
use Rattle.jp_document.specs.Node.{Node}
use Rattle.jp_document.specs.Path.{path_of, step_text}
use Rattle.jp_document.specs.Text.{text_of}
use Rattle.jp_document.specs.declared.location.Step.{Step}
use Rattle.jp_evaluate.specs.Lent.{KeepsWay, kept_of, location_of, way_of}
use Rattle.jp_lent.specs.Raw.{raw_text}
use Rattle.jp_evaluate.specs.declared.lent.LentNodes.{LentNodes}
use Rattle.jp_evaluate.proofs.Walks.Kept.{take-none}
use Rattle.jp_command.specs.Lines.{line_of, text_with_path, value_in_line}
use Rattle.jp_command.specs.Private.Fronts.{ComesAlong, Follows, HasPathText, IsAlong, has_both_by}
use Rattle.jp_command.specs.Private.Fronts.{path_in_line, text_after_path, way_text}
use Rattle.jp_command.specs.Private.Shown.{KeepsShown}
use Rattle.jp_command.specs.declared.front.Front.{Front}
use Rattle.jp_command.specs.declared.form.Form.{Form}
use Rattle.jp_command.specs.declared.form.ValueForm.{ValueForm}
use Rattle.jp_command.specs.declared.form.ValueForm.TheVariants.{Compact, Omitted, Raw}

-- what was spelled is still there where it is kept
pub comes : {V M : Type 0} (f : Front) (v w : LentNodes V M) → HasPathText f v → KeepsWay v w → Follows f w
comes f v w has keeps less =
    has
    ∙ ap way_text
    (sym (take-take f.count (kept_of w) (way_of v) less)
    ∙ ap (take f.count) (sym keeps)
    ∙ take-take f.count (kept_of w) (way_of w) less)

-- of no value nothing is spelled
pub has_none : {V M : Type 0} (f : Front) (v : LentNodes V M) → f.count ≡ 0 → string_bytes f.text ≡ []
    → HasPathText f v
has_none f v none empty =
    empty ∙ sym (ap (λ k. way_text (take k (way_of v))) none ∙ ap way_text (take-none (way_of v)))

-- what is not kept is gone
pub goes_back : {V M : Type 0} (f g : Front) (kept : ℕ) (v : LentNodes V M) → kept ≡ kept_of v → Follows f v
    → (kept < f.count → (g.count ≡ 0) × (string_bytes g.text ≡ [])) → (f.count ≤ kept → g ≡ f)
    → HasPathText g v
goes_back f g kept v is follows back same = elim (cases_lt kept f.count) [
  | inl less ↦ has_none g v (back less).0 (back less).1
  | inr fits ↦
      subst (λ h. HasPathText h v) (sym (same fits)) (follows (subst (λ k. f.count ≤ k) is fits))
]

take_next : {X : Type 0} (xs : List X) (i : ℕ) (x : X) → slice_get xs i ≡ Some x
    → take (suc i) xs ≡ take i xs ++ x ∷ []
take_next [] i x at = absurd (cc)
take_next (y ∷ ys) zero x at =
    ap (λ z. z ∷ take 0 ys) (same_Some y x at) ∙ ap (λ t. x ∷ t) (take-none ys)
take_next (y ∷ ys) (suc i) x at = ap (λ t. y ∷ t) (take_next ys i x at)

-- one value more is spelled
pub spelled_more : (ss : List (Option Step)) (i : ℕ) (s : Option Step) (text : List ℕ)
    → text ≡ way_text (take i ss) → slice_get ss i ≡ Some s
    → text ++ flat_map step_text (location_of s) ≡ way_text (take (i + 1) ss)
spelled_more ss i s text before at =
    let next : i + 1 ≡ suc i = omega arith in
    ap₂ (λ t u. t ++ u) before (ap (flat_map step_text) (sym (append-nil (location_of s))))
    ∙ sym (flat_map-append step_text (flat_map location_of (take i ss)) (flat_map location_of (s ∷ [])))
    ∙ ap (flat_map step_text) (sym (flat_map-append location_of (take i ss) (s ∷ [])))
    ∙ ap way_text (sym (ap (λ k. take k ss) next ∙ take_next ss i s at))

take_past : {X : Type 0} (xs : List X) (i : ℕ) → slice_get xs i ≡ None → take i xs ≡ xs
take_past [] zero past = refl
take_past [] (suc i) past = refl
take_past (x ∷ xs) zero past = absurd (cc)
take_past (x ∷ xs) (suc i) past = ap (λ t. x ∷ t) (take_past xs i past)

-- the whole way is spelled
pub spelled_all : (ss : List (Option Step)) (i : ℕ) (text : List ℕ) → text ≡ way_text (take i ss)
    → slice_get ss i ≡ None → text ≡ way_text ss
spelled_all ss i text before past = before ∙ ap way_text (take_past ss i past)

-- ---- by the form of the lines

pub comes_along : {V M : Type 0} (form : Form) (f : Front) (v w : LentNodes V M) → IsAlong form f v
    → KeepsShown form v w → ComesAlong form f w
comes_along form f v w along keeps = λ has. comes f v w (along has) (keeps has)

pub along_none : {V M : Type 0} (form : Form) (f : Front) (v : LentNodes V M) → f.count ≡ 0
    → string_bytes f.text ≡ [] → IsAlong form f v
along_none form f v none empty = λ has. has_none f v none empty

three : (a b c d : List ℕ) → a ++ (b ++ c ++ d) ≡ ((a ++ b) ++ c) ++ d
three a b c d =
    ap (λ t. a ++ t) (append_assoc b c d) ∙ sym (append_assoc a b (c ++ d)) ∙ sym (append_assoc (a ++ b) c d)

-- the parts of a line
parts : (has_path : Bool) (value : ValueForm) (n : Node)
    → (if has_path then path_of n.location else [])
    ++ ((if has_both_by has_path value then codes "\t" else []) ++ value_in_line value n.value ++ codes "\n")
    ≡ text_with_path has_path value n ++ codes "\n"
parts false Omitted n = refl
parts false Compact n = refl
parts false Raw n = refl
parts true Omitted n = refl
parts true Compact n = three (path_of n.location) (codes "\t") (text_of n.value) (codes "\n")
parts true Raw n = three (path_of n.location) (codes "\t") (raw_text n.value) (codes "\n")

pub line-parts : (form : Form) (n : Node)
    → path_in_line form n.location ++ text_after_path form n.value ≡ line_of form n
line-parts form n = parts form.has_path form.value n
