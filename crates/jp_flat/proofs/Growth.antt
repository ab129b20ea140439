-- Tables that grow hold what they held, and new parts behind it: for each function that adds to
-- tables.
use Rattle.std.proofs.Common.{◌≡◌, ◌+◌, ◌-◌, ◌≤◌, ◌++◌, ℕ, zero, suc, Bool, true, false}
use Rattle.std.proofs.Common.{List, [], ◌∷◌, Option, Some, None, cond, leb, length, take, drop}
use Rattle.std.proofs.Common.{option_map, option_and_then, refl, sym, ap, ◌∙◌, arith}
use Rattle.std.proofs.Common.{append_assoc, append-nil, length-drop}
use Rattle.std.proofs.Math.Seq.{drop-append-add, drop-append_seam, take-length}
use Rattle.std.proofs.lemmas.Bool.{cond-true, leb-true, le-leb}
use Rattle.std.proofs.lemmas.List.{drop-append-le, length-append, length-take-le}
use Rattle.std.proofs.lemmas.List.{take-append-drop, take-append-le}
use Rattle.std.proofs.lemmas.Option.{cond_some, same_Some}
use Rattle.jp_decimal.specs.TextValue.{value_of_text}
use Rattle.jp_document.specs.NumberValue.{number_value}
use Rattle.jp_document.specs.Value.{Value, text, list, object, items_of, members_of}
use Rattle.jp_document.proofs.Options.{some_from_both, some_from_map, some_from_then}
use Rattle.jp_flat.specs.Flat.{BeginsWith, Grows, Keeps, Shown, all_of, flat_value, member_with, piece}
use Rattle.jp_flat.specs.Flat.{text_at, value_with}
use Rattle.jp_flat.specs.Private.Reading.{IsTheListOf, with_items}
use Rattle.jp_flat.specs.declared.item.Item.{Item}
use Rattle.jp_flat.specs.declared.item.Item.TheVariants as code
use Rattle.jp_flat.specs.declared.item.Named.{Named}
use Rattle.jp_flat.specs.declared.item.Span.{Span}

-- ---- pieces of longer lists

pub within_more : {A : Type 0} (xs ys more : List A) (first count : ℕ) → piece xs first count ≡ Some ys
    → piece (xs ++ more) first count ≡ Some ys
within_more xs ys more first count is =
    let h = cond_some (leb (first + count) (length xs)) (take count (drop first xs)) ys is in
    let within : first + count ≤ length xs = leb-true _ _ h.0 in
    let wide : leb (first + count) (length (xs ++ more)) ≡ true =
    le-leb _ _ (omega (arith, length-append xs more)) in
    let less : count ≤ length (drop first xs) = omega (arith, length-drop first xs) in
    let cut : take count (drop first (xs ++ more)) ≡ ys =
    ap (take count) (drop-append-le first xs more (omega arith))
    ∙ take-append-le count (drop first xs) more less ∙ h.1 in
    cond-true _ _ _ wide ∙ ap Some cut

beyond : {A : Type 0} (front xs : List A) (first : ℕ) → length front ≤ first
    → drop first (front ++ xs) ≡ drop (first - length front) xs
beyond front xs first behind =
    let at : first ≡ length front + (first - length front) = omega arith in
    ap (λ n. drop n (front ++ xs)) at ∙ drop-append-add front xs (first - length front)

-- a piece behind the front
pub piece_behind : {A : Type 0} (front xs ys : List A) (first count : ℕ) → length front ≤ first
    → piece xs (first - length front) count ≡ Some ys → piece (front ++ xs) first count ≡ Some ys
piece_behind front xs ys first count behind is =
    let h = cond_some (leb (first - length front + count) (length xs))
    (take count (drop (first - length front) xs)) ys is in
    let within : first - length front + count ≤ length xs = leb-true _ _ h.0 in
    let wide : leb (first + count) (length (front ++ xs)) ≡ true =
    le-leb _ _ (omega (arith, length-append front xs)) in
    cond-true _ _ _ wide ∙ ap (λ zs. Some (take count zs)) (beyond front xs first behind)
    ∙ ap Some h.1

pub piece_grows : {A : Type 0} (whole front ys : List A) (first count : ℕ) → BeginsWith whole front
    → piece front first count ≡ Some ys → piece whole first count ≡ Some ys
piece_grows whole front ys first count more is =
    ap (λ xs. piece xs first count) more.is ∙ within_more front ys more.rest first count is

-- the piece that was appended
pub piece_appended : {A : Type 0} (whole front new : List A) (first count : ℕ)
    → whole ≡ front ++ new → first ≡ length front → count ≡ length new
    → piece whole first count ≡ Some new
piece_appended whole front new first count is at many =
    let within : leb (first + count) (length whole) ≡ true =
    le-leb _ _ (omega (arith, ap length is, length-append front new)) in
    cond-true _ _ _ within
    ∙ ap Some
    (ap (λ n. take n (drop first whole)) many
    ∙ ap (λ n. take (length new) (drop n whole)) at
    ∙ ap (λ xs. take (length new) (drop (length front) xs)) is
    ∙ ap (take (length new)) (drop-append_seam front new) ∙ take-length new)

pub begins_same : {A : Type 0} (xs : List A) → BeginsWith xs xs
begins_same xs = record { rest = []; is = sym (append-nil xs) }

begins_on : {A : Type 0} (xs ys zs : List A) → BeginsWith ys xs → BeginsWith zs ys
    → BeginsWith zs xs
begins_on xs ys zs one two = record {
  rest = one.rest ++ two.rest;
  is = two.is ∙ ap (λ w. w ++ two.rest) one.is ∙ append_assoc xs one.rest two.rest;
}

pub grows_same : (t : Shown) → Grows t t
grows_same t = record {
  exact = refl;
  source = refl;
  spare = begins_same t.spare;
  items = begins_same t.items;
  members = begins_same t.members;
}

pub grows_on : (t s r : Shown) → Grows t s → Grows s r → Grows t r
grows_on t s r one two = record {
  exact = two.exact ∙ one.exact;
  source = two.source ∙ one.source;
  spare = begins_on t.spare s.spare r.spare one.spare two.spare;
  items = begins_on t.items s.items r.items one.items two.items;
  members = begins_on t.members s.members r.members one.members two.members;
}

-- whatever items they hold
pub grows_beside : (t s : Shown) (items : List Item) → Grows t s
    → Grows (with_items t items) (with_items s items)
grows_beside t s items more = record {
  exact = more.exact;
  source = more.source;
  spare = more.spare;
  items = begins_same items;
  members = more.members;
}

-- ---- texts and values in tables that grow

spare_grows : (b c : Bool) (one : List ℕ) (o p : Option (List ℕ)) (x : List ℕ)
    → ((y : List ℕ) → o ≡ Some y → p ≡ Some y) → cond b (Some one) (cond c o None) ≡ Some x
    → cond b (Some one) (cond c p None) ≡ Some x
spare_grows true c one o p x step is = is
spare_grows false true one o p x step is = step x is
spare_grows false false one o p x step is = is

pub text_grows : (t s : Shown) (p : Span) (x : List ℕ) → Grows t s → text_at t p ≡ Some x
    → text_at s p ≡ Some x
text_grows t s p x g is =
    let now = record s { source = t.source } in
    let grown : text_at now p ≡ Some x =
    spare_grows _ _ _ _ _ x
    (λ y. piece_grows s.spare t.spare y (p.first - length t.source) p.count g.spare) is in
    ap (λ w. text_at (record s { source = w }) p) g.source ∙ grown

pub all_of_grows : {A B : Type 0} (f g : A → Option B) (xs : List A) (ys : List B)
    → ((x : A) (y : B) → f x ≡ Some y → g x ≡ Some y) → all_of f xs ≡ Some ys → all_of g xs ≡ Some ys
all_of_grows f g [] ys step is = is
all_of_grows f g (x ∷ xs) ys step is =
    let h = some_from_both (λ y ys. y ∷ ys) (f x) (all_of f xs) ys is in
    ap (option_and_then (λ y. option_map (λ ys. y ∷ ys) (all_of g xs))) (step x h.0 h.2)
    ∙ ap (option_map (λ ys. h.0 ∷ ys)) (all_of_grows f g xs h.1 step h.3) ∙ ap Some h.4

pub all_of_push : {A B : Type 0} (f : A → Option B) (xs : List A) (ys : List B) (x : A) (y : B)
    → all_of f xs ≡ Some ys → f x ≡ Some y → all_of f (xs ++ x ∷ []) ≡ Some (ys ++ y ∷ [])
all_of_push f [] ys x y is here =
    let none : [] ≡ ys = same_Some [] ys is in
    ap (option_and_then (λ y. Some (y ∷ []))) here ∙ ap (λ zs. Some (zs ++ y ∷ [])) none
all_of_push f (w ∷ xs) ys x y is here =
    let h = some_from_both (λ y ys. y ∷ ys) (f w) (all_of f xs) ys is in
    ap (option_and_then (λ z. option_map (λ zs. z ∷ zs) (all_of f (xs ++ x ∷ [])))) h.2
    ∙ ap (option_map (λ zs. h.0 ∷ zs)) (all_of_push f xs h.1 x y h.3 here)
    ∙ ap (λ zs. Some (zs ++ y ∷ [])) h.4

pub length-all_of : {A B : Type 0} (f : A → Option B) (xs : List A) (ys : List B)
    → all_of f xs ≡ Some ys → length ys ≡ length xs
length-all_of f [] ys is = ap length (sym (same_Some [] ys is))
length-all_of f (x ∷ xs) ys is =
    let h = some_from_both (λ y ys. y ∷ ys) (f x) (all_of f xs) ys is in
    ap length (sym h.4) ∙ ap suc (length-all_of f xs h.1 h.3)

pub member_kept : (f g : Item → Option Value) (t s : Shown) → Keeps t s
    → ((i : Item) (v : Value) → f i ≡ Some v → g i ≡ Some v) → (m : Named) (p : List ℕ × Value)
    → member_with f t m ≡ Some p → member_with g s m ≡ Some p
member_kept f g t s more step m p is =
    let h = some_from_both (λ name v. (name, v)) (text_at t m.name) (f m.item) p is in
    ap (option_and_then (λ name. option_map (λ v. (name, v)) (g m.item)))
    (more.texts m.name h.0 h.2)
    ∙ ap (option_map (λ v. (h.0, v))) (step m.item h.1 h.3) ∙ ap Some h.4

with_kept : (f g : Item → Option Value) (t s : Shown) → Keeps t s
    → ((i : Item) (v : Value) → f i ≡ Some v → g i ≡ Some v) → (i : Item) (v : Value)
    → value_with f t i ≡ Some v → value_with g s i ≡ Some v
with_kept f g t s more step code.Null v is = is
with_kept f g t s more step (code.Bool b) v is = is
with_kept f g t s more step (code.Above h) v is = is
with_kept f g t s more step (code.Below h) v is = is
with_kept f g t s more step (code.Numeral p) v is =
    let h = some_from_map (λ x. number_value (value_of_text x)) (text_at t p) v is in
    ap (option_map (λ x. number_value (value_of_text x))) (more.texts p h.0 h.1) ∙ ap Some h.2
with_kept f g t s more step (code.Text p) v is =
    let h = some_from_map text (text_at t p) v is in
    ap (option_map text) (more.texts p h.0 h.1) ∙ ap Some h.2
with_kept f g t s more step (code.List p) v is =
    let h = some_from_map (λ vs. list (items_of vs))
    (option_and_then (all_of f) (piece t.items p.first p.count)) v is in
    let k = some_from_then (all_of f) (piece t.items p.first p.count) h.0 h.1 in
    ap (λ o. option_map (λ vs. list (items_of vs)) (option_and_then (all_of g) o))
    (piece_grows s.items t.items k.0 p.first p.count more.items k.1)
    ∙ ap (option_map (λ vs. list (items_of vs))) (all_of_grows f g k.0 h.0 step k.2) ∙ ap Some h.2
with_kept f g t s more step (code.Members p) v is =
    let h = some_from_map (λ ms. object (members_of ms))
    (option_and_then (all_of (member_with f t)) (piece t.members p.first p.count)) v is in
    let k = some_from_then (all_of (member_with f t)) (piece t.members p.first p.count) h.0 h.1 in
    ap (λ o. option_map (λ ms. object (members_of ms)) (option_and_then (all_of (member_with g s)) o))
    (piece_grows s.members t.members k.0 p.first p.count more.members k.1)
    ∙ ap (option_map (λ ms. object (members_of ms)))
    (all_of_grows (member_with f t) (member_with g s) k.0 h.0 (member_kept f g t s more step) k.2)
    ∙ ap Some h.2

pub value_kept : (n : ℕ) (t s : Shown) → Keeps t s → (i : Item) (v : Value)
    → flat_value n t i ≡ Some v → flat_value n s i ≡ Some v
unfolding flat_value
value_kept zero t s more i v is =
    with_kept (λ j. None) (λ j. None) t s more (λ j w h. h) i v is
value_kept (suc n) t s more i v is =
    with_kept (flat_value n t) (flat_value n s) t s more (value_kept n t s more) i v is

keeps_from : (t s : Shown) → Grows t s → Keeps t s
keeps_from t s more = record {
  texts = λ p x. text_grows t s p x more;
  items = more.items;
  members = more.members;
}

pub member_grows : (f g : Item → Option Value) (t s : Shown) → Grows t s
    → ((i : Item) (v : Value) → f i ≡ Some v → g i ≡ Some v) → (m : Named) (p : List ℕ × Value)
    → member_with f t m ≡ Some p → member_with g s m ≡ Some p
member_grows f g t s more = member_kept f g t s (keeps_from t s more)

pub value_grows : (n : ℕ) (t s : Shown) → Grows t s → (i : Item) (v : Value)
    → flat_value n t i ≡ Some v → flat_value n s i ≡ Some v
value_grows n t s more = value_kept n t s (keeps_from t s more)

-- what has a value with so many levels has it with one more
pub flat_deeper : (n : ℕ) (t : Shown) (i : Item) (v : Value) → flat_value n t i ≡ Some v
    → flat_value (suc n) t i ≡ Some v
unfolding flat_value
flat_deeper zero t i v is =
    with_kept (λ j. None) (flat_value zero t) t t (keeps_from t t (grows_same t)) (λ j w h. absurd (cc)) i v is
flat_deeper (suc n) t i v is =
    with_kept (flat_value n t) (flat_value (suc n) t) t t (keeps_from t t (grows_same t)) (flat_deeper n t) i v is

-- ---- lists and objects whose parts were appended

pub list_closed : (n : ℕ) (t s : Shown) (new : List Item) (vs : List Value) (p : Span) → Grows t s
    → s.items ≡ t.items ++ new → p.first ≡ length t.items → p.count ≡ length new
    → all_of (flat_value n t) new ≡ Some vs → flat_value (suc n) s (code.List p) ≡ Some (list (items_of vs))
unfolding flat_value
list_closed n t s new vs p more is at many all =
    ap (λ o. option_map (λ ws. list (items_of ws)) (option_and_then (all_of (flat_value n s)) o))
    (piece_appended s.items t.items new p.first p.count is at many)
    ∙ ap (option_map (λ ws. list (items_of ws)))
    (all_of_grows (flat_value n t) (flat_value n s) new vs (value_grows n t s more) all)

-- the list of the items from an offset on
pub list_from_there : (s : Shown) (first : ℕ) (p : Span) → first ≤ length s.items
    → p.first ≡ first → p.count ≡ length s.items - first
    → IsTheListOf (drop first s.items) (with_items s (take first s.items)) s (code.List p)
list_from_there s first p within at many = λ n vs all.
    let t = with_items s (take first s.items) in
    let new = drop first s.items in
    let parts : s.items ≡ t.items ++ new = sym (take-append-drop first s.items) in
    let grown : Grows t s = record {
      exact = refl;
      source = refl;
      spare = begins_same s.spare;
      items = record { rest = new; is = parts };
      members = begins_same s.members;
    } in
    list_closed n t s new vs p grown parts (at ∙ sym (length-take-le first s.items within))
    (many ∙ sym (length-drop first s.items)) all

pub object_closed : (n : ℕ) (t s : Shown) (new : List Named) (ms : List (List ℕ × Value)) (p : Span)
    → Grows t s → s.members ≡ t.members ++ new → p.first ≡ length t.members
    → p.count ≡ length new → all_of (member_with (flat_value n t) t) new ≡ Some ms
    → flat_value (suc n) s (code.Members p) ≡ Some (object (members_of ms))
unfolding flat_value
object_closed n t s new ms p more is at many all =
    ap (λ o. option_map (λ ws. object (members_of ws))
    (option_and_then (all_of (member_with (flat_value n s) s)) o))
    (piece_appended s.members t.members new p.first p.count is at many)
    ∙ ap (option_map (λ ws. object (members_of ws)))
    (all_of_grows (member_with (flat_value n t) t) (member_with (flat_value n s) s) new ms
    (member_grows (flat_value n t) (flat_value n s) t s more (value_grows n t s more)) all)
