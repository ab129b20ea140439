-- What stands one step inside a value in tables: for each call of `FlatValue`.
use Rattle.std.proofs.Common.{◌≡◌, ◌≤◌, ◌+◌, ℕ, zero, suc, true, List, [], ◌∷◌, length, map}
use Rattle.std.proofs.Common.{Option, Some, None, option_map, option_and_then, is_some, unwrap_or}
use Rattle.std.proofs.Common.{refl, sym, ap, subst, ◌∙◌, arith, IsUtf8, take, drop, leb}
use Rattle.std.proofs.Common.{length-drop}
use Rattle.std.proofs.Common.{Bool, pos, negsuc, ◌⊎◌, inl, inr}
use Rattle.std.specs.BTreeMap.{is_at}
use Rattle.std.specs.Map.{lookup}
use Rattle.std.specs.List.{slice_get}
use Rattle.std.proofs.lemmas.Bool.{false≢true, leb-true}
use Rattle.std.proofs.lemmas.List.{length-map, length-take-le}
use Rattle.std.proofs.lemmas.Option.{cond_some, none-some, same_Some, slice_get-map}
use Rattle.std.proofs.lemmas.Str.{IsUtf8-from_is_utf8}
use Rattle.jp_decimal.specs.NormalForm.{normal_form}
use Rattle.jp_decimal.specs.Scaled.{Scaled}
use Rattle.jp_decimal.specs.TextValue.{value_of_text}
use Rattle.jp_decimal.specs.declared.number.Number.{Number}
use Rattle.jp_decimal.specs.declared.number.Number.TheVariants.{Whole, Decimal}
use Rattle.jp_document.specs.NumberValue.{number_value}
use Rattle.jp_document.proofs.NumberValues.{held_value, value-held, value-unheld}
use Rattle.jp_document.specs.Location.{Step, child, entries, items_from, step_cmp, members_by_name}
use Rattle.jp_document.specs.Location.{named, nth}
use Rattle.jp_document.specs.Value.{IsDocumentValue, Value, items_of, list, list_length}
use Rattle.jp_document.specs.Value.{boolean, item_count, members_of, no_items, no_members, null}
use Rattle.jp_document.specs.Value.{object, text, whole}
use Rattle.jp_reading.proofs.Conjunctions.{and-both, and-left, and-right}
use Rattle.jp_document.proofs.Descent.Entries.{IsDocumentValue-entry, at_index, child-entry}
use Rattle.jp_document.proofs.Descent.Entries.{item_entry}
use Rattle.jp_document.proofs.Members.ByName.{child-list_named}
use Rattle.jp_document.proofs.Members.ByName.{child-object_nth}
use Rattle.jp_document.proofs.Members.TextNames.{IsUtf8-child_named}
use Rattle.jp_document.proofs.Options.{some_from_both, some_from_map, some_from_then}
use Rattle.jp_flat.specs.Flat.{Shown, all_of, flat_value, is_flat, meaning, member_with}
use Rattle.jp_document.specs.OfJson.{most_levels}
use Rattle.jp_flat.specs.Flat.{number_of, piece, text_at}
use Rattle.jp_lent.specs.Lending.{bare}
use Rattle.jp_flat.specs.Private.Parts.{HoldsText, item_at, member_at, name_in, numeral_at}
use Rattle.jp_flat.specs.declared.item.Halves.{Halves}
use Rattle.jp_flat.specs.declared.item.Item.{Item}
use Rattle.jp_flat.specs.declared.item.Item.TheVariants as code
use Rattle.jp_flat.specs.declared.item.Named.{Named}
use Rattle.jp_flat.specs.declared.item.Span.{Span}
use Rattle.jp_flat.proofs.Growth.{flat_deeper, length-all_of}

some_there : {A : Type 0} (o : Option A) → is_some o ≡ true → (x : A) × (o ≡ Some x)
some_there None is = absurd (cc)
some_there (Some x) is = (x, refl)

-- what a value of tables means, and that it may be a document's
has_value : (t : Shown) (i : Item) → is_flat t i ≡ true
    → flat_value most_levels t i ≡ Some (meaning t i)
has_value t i sound =
    let h = some_there (flat_value most_levels t i) (and-left _ _ sound) in
    h.1 ∙ ap Some (sym (ap (λ o. unwrap_or o null) h.1))

pub flat-valid : (t : Shown) (i : Item) → is_flat t i ≡ true → IsDocumentValue (meaning t i)
flat-valid t i sound = and-right _ _ sound

-- one level further down
meaning_inside : (t : Shown) (i : Item) (v : Value) → flat_value 126 t i ≡ Some v
    → meaning t i ≡ v
meaning_inside t i v is = ap (λ o. unwrap_or o null) (flat_deeper 126 t i v is)

sound_inside : (t : Shown) (i : Item) (v : Value) → flat_value 126 t i ≡ Some v
    → IsDocumentValue v → is_flat t i ≡ true
sound_inside t i v is valid =
    and-both _ _ (ap is_some (flat_deeper 126 t i v is))
    (subst IsDocumentValue (sym (meaning_inside t i v is)) valid)

-- ---- what f gives at a position

all_of-at : {A B : Type 0} (f : A → Option B) (g : A → B) (xs : List A) (ys : List B) (k : ℕ)
    → ((x : A) (y : B) → f x ≡ Some y → g x ≡ y) → all_of f xs ≡ Some ys
    → slice_get ys k ≡ option_map g (slice_get xs k)
all_of-at f g [] ys k same is = ap (λ zs. slice_get zs k) (sym (same_Some [] ys is))
all_of-at f g (x ∷ xs) ys zero same is =
    let h = some_from_both (λ y ys. y ∷ ys) (f x) (all_of f xs) ys is in
    ap (λ zs. slice_get zs 0) (sym h.4) ∙ ap Some (sym (same x h.0 h.2))
all_of-at f g (x ∷ xs) ys (suc k) same is =
    let h = some_from_both (λ y ys. y ∷ ys) (f x) (all_of f xs) ys is in
    ap (λ zs. slice_get zs (suc k)) (sym h.4) ∙ all_of-at f g xs h.1 k same h.3

all_of-some : {A B : Type 0} (f : A → Option B) (xs : List A) (ys : List B) (k : ℕ) (x : A)
    → all_of f xs ≡ Some ys → slice_get xs k ≡ Some x → (y : B) × (f x ≡ Some y)
all_of-some f [] ys k x is at = absurd (cc)
all_of-some f (w ∷ xs) ys zero x is at =
    let h = some_from_both (λ y ys. y ∷ ys) (f w) (all_of f xs) ys is in
    (h.0, ap f (sym (same_Some w x at)) ∙ h.2)
all_of-some f (w ∷ xs) ys (suc k) x is at =
    let h = some_from_both (λ y ys. y ∷ ys) (f w) (all_of f xs) ys is in
    all_of-some f xs h.1 k x h.3 at

pub piece-length : {A : Type 0} (xs ys : List A) (first count : ℕ) → piece xs first count ≡ Some ys
    → length ys ≡ count
piece-length xs ys first count is =
    let h = cond_some (leb (first + count) (length xs)) (take count (drop first xs)) ys is in
    let within : first + count ≤ length xs = leb-true _ _ h.0 in
    let less : count ≤ length (drop first xs) = omega (arith, length-drop first xs) in
    ap length (sym h.1) ∙ length-take-le count (drop first xs) less

-- ---- lists

pub record ListInside (t : Shown) (p : Span) : Type 0 where
  pub parts : List Item
  pub values : List Value
  pub there : piece t.items p.first p.count ≡ Some parts
  pub mean : all_of (flat_value 126 t) parts ≡ Some values
  pub is : meaning t (code.List p) ≡ list (items_of values)

pub list_inside : (t : Shown) (p : Span) → is_flat t (code.List p) ≡ true → ListInside t p
unfolding flat_value
list_inside t p sound =
    let h = some_from_map (λ vs. list (items_of vs))
    (option_and_then (all_of (flat_value 126 t)) (piece t.items p.first p.count))
    (meaning t (code.List p)) (has_value t (code.List p) sound) in
    let k = some_from_then (all_of (flat_value 126 t)) (piece t.items p.first p.count) h.0 h.1 in
    record { parts = k.0; values = h.0; there = k.1; mean = k.2; is = sym h.2 }

parts_at : (t : Shown) (p : Span) (k : ℕ) (x : ListInside t p) → item_at t p k ≡ slice_get x.parts k
parts_at t p k x = ap (option_and_then (λ xs. slice_get xs k)) x.there

option_map-then : {X Y Z : Type 0} (g : Y → Z) (f : X → Y) (o : Option X)
    → option_map g (option_map f o) ≡ option_map (λ x. g (f x)) o
option_map-then g f None = refl
option_map-then g f (Some x) = refl

-- the entry of a list at a position
pub list-entry : (t : Shown) (p : Span) (k : ℕ) → is_flat t (code.List p) ≡ true
    → option_map (λ i. (nth k, meaning t i)) (item_at t p k)
    ≡ slice_get (entries (meaning t (code.List p))) k
list-entry t p k sound =
    let x = list_inside t p sound in
    ap (option_map (λ i. (nth k, meaning t i))) (parts_at t p k x)
    ∙ sym
    (ap (λ v. slice_get (entries v) k) x.is ∙ item_entry k x.values
    ∙ ap (option_map (at_index k))
    (all_of-at (flat_value 126 t) (meaning t) x.parts x.values k (meaning_inside t) x.mean)
    ∙ option_map-then (at_index k) (meaning t) (slice_get x.parts k))

pub item-sound : (t : Shown) (p : Span) (k : ℕ) (i : Item) → is_flat t (code.List p) ≡ true
    → item_at t p k ≡ Some i → is_flat t i ≡ true
item-sound t p k i sound at =
    let x = list_inside t p sound in
    let v = all_of-some (flat_value 126 t) x.parts x.values k i x.mean
    (sym (parts_at t p k x) ∙ at) in
    let there : slice_get (entries (meaning t (code.List p))) k ≡ Some (nth k, meaning t i) =
    sym (list-entry t p k sound) ∙ ap (option_map (λ j. (nth k, meaning t j))) at in
    sound_inside t i v.0 v.1
    (subst IsDocumentValue (meaning_inside t i v.0 v.1)
    (IsDocumentValue-entry (meaning t (code.List p)) k (nth k, meaning t i)
    (flat-valid t (code.List p) sound) there))

items-long : (k : ℕ) (vs : List Value) → length (items_from k (items_of vs)) ≡ length vs
items-long k [] = refl
items-long k (v ∷ vs) = ap suc (items-long (suc k) vs)

item_count-items_of : (vs : List Value) → item_count (items_of vs) ≡ length vs
item_count-items_of [] = refl
item_count-items_of (v ∷ vs) = ap suc (item_count-items_of vs)

list-many : (t : Shown) (p : Span) (x : ListInside t p) → length x.values ≡ p.count
list-many t p x =
    length-all_of (flat_value 126 t) x.parts x.values x.mean
    ∙ piece-length t.items x.parts p.first p.count x.there

pub list-count : (t : Shown) (p : Span) → is_flat t (code.List p) ≡ true
    → p.count ≡ length (entries (meaning t (code.List p)))
list-count t p sound =
    let x = list_inside t p sound in
    sym
    (ap (λ v. length (entries v)) x.is ∙ items-long 0 x.values ∙ list-many t p x)

pub list-length : (t : Shown) (p : Span) → is_flat t (code.List p) ≡ true
    → Some p.count ≡ list_length (meaning t (code.List p))
list-length t p sound =
    let x = list_inside t p sound in
    sym
    (ap list_length x.is ∙ ap Some (item_count-items_of x.values ∙ list-many t p x))

-- ---- objects

pub record ObjectInside (t : Shown) (p : Span) : Type 0 where
  pub parts : List Named
  pub values : List (List ℕ × Value)
  pub there : piece t.members p.first p.count ≡ Some parts
  pub mean : all_of (member_with (flat_value 126 t) t) parts ≡ Some values
  pub is : meaning t (code.Members p) ≡ object (members_of values)

pub object_inside : (t : Shown) (p : Span) → is_flat t (code.Members p) ≡ true → ObjectInside t p
unfolding flat_value
object_inside t p sound =
    let h = some_from_map (λ ms. object (members_of ms))
    (option_and_then (all_of (member_with (flat_value 126 t) t)) (piece t.members p.first p.count))
    (meaning t (code.Members p)) (has_value t (code.Members p) sound) in
    let k = some_from_then (all_of (member_with (flat_value 126 t) t))
    (piece t.members p.first p.count) h.0 h.1 in
    record { parts = k.0; values = h.0; there = k.1; mean = k.2; is = sym h.2 }

-- a member as it is seen
abbrev pub seen_member : Shown → Named → List ℕ × Value
seen_member t m = (name_in t m, meaning t m.item)

abbrev pub member_entry : Shown → Named → Step × Value
member_entry t m = (named (name_in t m), meaning t m.item)

pub member_seen : (t : Shown) (m : Named) (p : List ℕ × Value)
    → member_with (flat_value 126 t) t m ≡ Some p → seen_member t m ≡ p
member_seen t m p is =
    let h = some_from_both (λ name v. (name, v)) (text_at t m.name) (flat_value 126 t m.item) p is in
    ap (λ o. (unwrap_or o [], meaning t m.item)) h.2
    ∙ ap (λ v. (h.0, v)) (meaning_inside t m.item h.1 h.3) ∙ h.4

members_at : (t : Shown) (p : Span) (k : ℕ) (x : ObjectInside t p)
    → member_at t p k ≡ slice_get x.parts k
members_at t p k x = ap (option_and_then (λ xs. slice_get xs k)) x.there

abbrev as_entry : List ℕ × Value → Step × Value
as_entry m = (named m.0, m.1)

entries-members : (ms : List (List ℕ × Value)) → members_by_name (members_of ms) ≡ map as_entry ms
entries-members [] = refl
entries-members (m ∷ ms) = ap (λ es. as_entry m ∷ es) (entries-members ms)

-- the entry of an object at a position
pub object-entry : (t : Shown) (p : Span) (k : ℕ) → is_flat t (code.Members p) ≡ true
    → option_map (member_entry t) (member_at t p k)
    ≡ slice_get (entries (meaning t (code.Members p))) k
object-entry t p k sound =
    let x = object_inside t p sound in
    ap (option_map (member_entry t)) (members_at t p k x)
    ∙ sym
    (ap (λ v. slice_get (entries v) k) x.is
    ∙ ap (λ es. slice_get es k) (entries-members x.values)
    ∙ slice_get-map as_entry x.values k
    ∙ ap (option_map as_entry)
    (all_of-at (member_with (flat_value 126 t) t) (seen_member t) x.parts x.values k (member_seen t)
    x.mean)
    ∙ option_map-then as_entry (seen_member t) (slice_get x.parts k))

pub member-there : (t : Shown) (p : Span) (k : ℕ) (m : Named) → is_flat t (code.Members p) ≡ true
    → member_at t p k ≡ Some m
    → slice_get (entries (meaning t (code.Members p))) k ≡ Some (member_entry t m)
member-there t p k m sound at =
    sym (object-entry t p k sound) ∙ ap (option_map (member_entry t)) at

-- what a member of an object has
record MemberHas (t : Shown) (m : Named) : Type 0 where
  name : List ℕ
  value : Value
  named : text_at t m.name ≡ Some name
  mean : flat_value 126 t m.item ≡ Some value

member-has : (t : Shown) (p : Span) (k : ℕ) (m : Named) → is_flat t (code.Members p) ≡ true
    → member_at t p k ≡ Some m → MemberHas t m
member-has t p k m sound at =
    let x = object_inside t p sound in
    let v = all_of-some (member_with (flat_value 126 t) t) x.parts x.values k m x.mean
    (sym (members_at t p k x) ∙ at) in
    let h = some_from_both (λ name v. (name, v)) (text_at t m.name) (flat_value 126 t m.item) v.0
    v.1 in
    record { name = h.0; value = h.1; named = h.2; mean = h.3 }

pub member-sound : (t : Shown) (p : Span) (k : ℕ) (m : Named) → is_flat t (code.Members p) ≡ true
    → member_at t p k ≡ Some m → is_flat t m.item ≡ true
member-sound t p k m sound at =
    let x = member-has t p k m sound at in
    sound_inside t m.item x.value x.mean
    (subst IsDocumentValue (meaning_inside t m.item x.value x.mean)
    (IsDocumentValue-entry (meaning t (code.Members p)) k (member_entry t m)
    (flat-valid t (code.Members p) sound) (member-there t p k m sound at)))

pub member-name : (t : Shown) (p : Span) (k : ℕ) (m : Named) → is_flat t (code.Members p) ≡ true
    → member_at t p k ≡ Some m → HoldsText t m.name
member-name t p k m sound at =
    let x = member-has t p k m sound at in
    let v = meaning t (code.Members p) in
    let valid = flat-valid t (code.Members p) sound in
    let same : name_in t m ≡ x.name = ap (λ o. unwrap_or o []) x.named in
    record {
      text = x.name;
      at = x.named;
      utf8 = subst IsUtf8 same
          (IsUtf8-child_named v (meaning t m.item) (name_in t m) valid
          (child-entry v k (named (name_in t m)) (meaning t m.item) valid
          (member-there t p k m sound at)));
    }

pub object-count : (t : Shown) (p : Span) → is_flat t (code.Members p) ≡ true
    → p.count ≡ length (entries (meaning t (code.Members p)))
object-count t p sound =
    let x = object_inside t p sound in
    sym
    (ap (λ v. length (entries v)) x.is ∙ ap length (entries-members x.values)
    ∙ length-map x.values as_entry
    ∙ length-all_of (member_with (flat_value 126 t) t) x.parts x.values x.mean
    ∙ piece-length t.members x.parts p.first p.count x.there)

-- ---- leaves

pub null-is : (t : Shown) → meaning t code.Null ≡ null
unfolding flat_value
null-is t = refl

pub boolean-is : (t : Shown) (b : Bool) → meaning t (code.Bool b) ≡ boolean b
unfolding flat_value
boolean-is t b = refl

pub above-is : (t : Shown) (h : Halves) → meaning t (code.Above h) ≡ whole (pos (number_of h))
unfolding flat_value
above-is t h = refl

pub below-is : (t : Shown) (h : Halves) → meaning t (code.Below h) ≡ whole (negsuc (number_of h))
unfolding flat_value
below-is t h = refl

-- a text, and that it is one
record TextInside (t : Shown) (p : Span) : Type 0 where
  held : List ℕ
  there : text_at t p ≡ Some held
  is : meaning t (code.Text p) ≡ text held

text-inside : (t : Shown) (p : Span) → is_flat t (code.Text p) ≡ true → TextInside t p
unfolding flat_value
text-inside t p sound =
    let h = some_from_map text (text_at t p) (meaning t (code.Text p))
    (has_value t (code.Text p) sound) in
    record { held = h.0; there = h.1; is = sym h.2 }

pub text-held : (t : Shown) (p : Span) → is_flat t (code.Text p) ≡ true → HoldsText t p
text-held t p sound =
    let x = text-inside t p sound in
    record {
      text = x.held;
      at = x.there;
      utf8 = IsUtf8-from_is_utf8 x.held
          (subst IsDocumentValue x.is (flat-valid t (code.Text p) sound));
    }

pub text-is : (t : Shown) (p : Span) (s : List ℕ) → is_flat t (code.Text p) ≡ true
    → Some s ≡ text_at t p → text s ≡ meaning t (code.Text p)
text-is t p s sound is =
    let x = text-inside t p sound in
    ap text (same_Some s x.held (is ∙ x.there)) ∙ sym x.is

-- a number by its characters, which can be held
record NumeralInside (t : Shown) (p : Span) : Type 0 where
  characters : List ℕ
  there : text_at t p ≡ Some characters
  is : number_value (value_of_text characters) ≡ meaning t (code.Numeral p)
  number : Number
  held : normal_form (value_of_text characters) ≡ Some number

numeral-inside : (t : Shown) (p : Span) → is_flat t (code.Numeral p) ≡ true → NumeralInside t p
unfolding flat_value
numeral-inside t p sound =
    let h = some_from_map (λ x. number_value (value_of_text x)) (text_at t p)
    (meaning t (code.Numeral p)) (has_value t (code.Numeral p) sound) in
    let n = held-of (value_of_text h.0) (normal_form (value_of_text h.0)) refl
    (subst IsDocumentValue (sym h.2) (flat-valid t (code.Numeral p) sound)) in
    record { characters = h.0; there = h.1; is = h.2; number = n.0; held = n.1 }
  where
    held-of : (x : Scaled) (o : Option Number) → normal_form x ≡ o → IsDocumentValue (number_value x)
        → (n : Number) × (normal_form x ≡ Some n)
    held-of x (Some n) is valid = (n, is)
    held-of x None is valid = absurd (false≢true (sym (value-unheld x is) ∙ valid))

-- what holds of each number that is held
numeral-bare : {A : Type 0} {a : A} (f : Value → A) (t : Shown) (p : Span)
    → ((n : Number) → f (held_value n) ≡ a) → is_flat t (code.Numeral p) ≡ true
    → f (meaning t (code.Numeral p)) ≡ a
numeral-bare f t p each sound =
    let x = numeral-inside t p sound in
    ap f (sym x.is ∙ value-held (value_of_text x.characters) x.number x.held) ∙ each x.number

held-entries : (n : Number) → entries (held_value n) ≡ []
held-entries (Whole z) = refl
held-entries (Decimal d) = refl

held-length : (n : Number) → list_length (held_value n) ≡ None
held-length (Whole z) = refl
held-length (Decimal d) = refl

held-bare : (n : Number) → bare (held_value n) ≡ held_value n
held-bare (Whole z) = refl
held-bare (Decimal d) = refl

pub numeral-is : (t : Shown) (p : Span) (n : Number) → is_flat t (code.Numeral p) ≡ true
    → Some n ≡ numeral_at t p → held_value n ≡ bare (meaning t (code.Numeral p))
numeral-is t p n sound is =
    let x = numeral-inside t p sound in
    let same : n ≡ x.number =
    same_Some n x.number
    (is ∙ ap (option_and_then (λ s. normal_form (value_of_text s))) x.there ∙ x.held) in
    sym (held-bare n) ∙ ap (λ m. bare (held_value m)) same
    ∙ ap bare (sym (value-held (value_of_text x.characters) x.number x.held) ∙ x.is)

pub numeral-held : (t : Shown) (p : Span) → is_flat t (code.Numeral p) ≡ true
    → None ≡ numeral_at t p → ⊥
numeral-held t p sound none =
    let x = numeral-inside t p sound in
    none-some x.number
    (none ∙ ap (option_and_then (λ s. normal_form (value_of_text s))) x.there ∙ x.held)

pub list-bare : (t : Shown) (p : Span) → is_flat t (code.List p) ≡ true
    → list no_items ≡ bare (meaning t (code.List p))
list-bare t p sound = sym (ap bare (list_inside t p sound).is)

pub object-bare : (t : Shown) (p : Span) → is_flat t (code.Members p) ≡ true
    → object no_members ≡ bare (meaning t (code.Members p))
object-bare t p sound = sym (ap bare (object_inside t p sound).is)

-- ---- values with nothing, no items or no members inside

-- the item holds no other values
abbrev pub IsLeaf : Item → Type 0
IsLeaf i =
    (i ≡ code.Null) ⊎ (((b : Bool) × (i ≡ code.Bool b)) ⊎ (((h : Halves) × (i ≡ code.Above h)) ⊎
    (((h : Halves) × (i ≡ code.Below h)) ⊎
    (((p : Span) × (i ≡ code.Numeral p)) ⊎ ((p : Span) × (i ≡ code.Text p))))))

pub leaf-entries : (t : Shown) (i : Item) → is_flat t i ≡ true → IsLeaf i → entries (meaning t i) ≡ []
leaf-entries t i sound (inl e) = ap (λ j. entries (meaning t j)) e ∙ ap entries (null-is t)
leaf-entries t i sound (inr (inl e)) =
    ap (λ j. entries (meaning t j)) e.1 ∙ ap entries (boolean-is t e.0)
leaf-entries t i sound (inr (inr (inl e))) =
    ap (λ j. entries (meaning t j)) e.1 ∙ ap entries (above-is t e.0)
leaf-entries t i sound (inr (inr (inr (inl e)))) =
    ap (λ j. entries (meaning t j)) e.1 ∙ ap entries (below-is t e.0)
leaf-entries t i sound (inr (inr (inr (inr (inl e))))) =
    ap (λ j. entries (meaning t j)) e.1
    ∙ numeral-bare entries t e.0 (λ n. held-entries n) (subst (λ j. is_flat t j ≡ true) e.1 sound)
leaf-entries t i sound (inr (inr (inr (inr (inr e))))) =
    ap (λ j. entries (meaning t j)) e.1
    ∙ ap entries (text-inside t e.0 (subst (λ j. is_flat t j ≡ true) e.1 sound)).is

-- a leaf, or of one sort of values
abbrev pub IsLeafOr : (Span → Item) → Item → Type 0
IsLeafOr sort i =
    (i ≡ code.Null) ⊎ (((b : Bool) × (i ≡ code.Bool b)) ⊎ (((h : Halves) × (i ≡ code.Above h)) ⊎
    (((h : Halves) × (i ≡ code.Below h)) ⊎ (((p : Span) × (i ≡ code.Numeral p)) ⊎
    (((p : Span) × (i ≡ code.Text p)) ⊎ ((p : Span) × (i ≡ sort p)))))))

leaf-or : (sort : Span → Item) (i : Item) → IsLeafOr sort i
    → IsLeaf i ⊎ ((p : Span) × (i ≡ sort p))
leaf-or sort i (inl e) = inl (inl e)
leaf-or sort i (inr (inl e)) = inl (inr (inl e))
leaf-or sort i (inr (inr (inl e))) = inl (inr (inr (inl e)))
leaf-or sort i (inr (inr (inr (inl e)))) = inl (inr (inr (inr (inl e))))
leaf-or sort i (inr (inr (inr (inr (inl e))))) = inl (inr (inr (inr (inr (inl e)))))
leaf-or sort i (inr (inr (inr (inr (inr (inl e)))))) = inl (inr (inr (inr (inr (inr e)))))
leaf-or sort i (inr (inr (inr (inr (inr (inr e)))))) = inr e

pub no-item : (t : Shown) (i : Item) (k : ℕ) → is_flat t i ≡ true → IsLeafOr code.Members i
    → child (meaning t i) (nth k) ≡ None
no-item t i k sound other = elim (leaf-or code.Members i other) [
  | inl leaf ↦ ap (lookup (is_at (step_cmp (nth k)))) (leaf-entries t i sound leaf)
  | inr e ↦
      ap (λ j. child (meaning t j) (nth k)) e.1
      ∙ ap (λ v. child v (nth k))
      (object_inside t e.0 (subst (λ j. is_flat t j ≡ true) e.1 sound)).is
      ∙ child-object_nth k (members_of (object_inside t e.0 (subst (λ j. is_flat t j ≡ true) e.1 sound)).values)
]

pub no-member : (t : Shown) (i : Item) (q : List ℕ) → is_flat t i ≡ true → IsLeafOr code.List i
    → child (meaning t i) (named q) ≡ None
no-member t i q sound other = elim (leaf-or code.List i other) [
  | inl leaf ↦ ap (lookup (is_at (step_cmp (named q)))) (leaf-entries t i sound leaf)
  | inr e ↦
      ap (λ j. child (meaning t j) (named q)) e.1
      ∙ ap (λ v. child v (named q))
      (list_inside t e.0 (subst (λ j. is_flat t j ≡ true) e.1 sound)).is
      ∙ child-list_named q (items_of (list_inside t e.0 (subst (λ j. is_flat t j ≡ true) e.1 sound)).values)
]

leaf-length : (t : Shown) (i : Item) → is_flat t i ≡ true → IsLeaf i
    → list_length (meaning t i) ≡ None
leaf-length t i sound (inl e) = ap (λ j. list_length (meaning t j)) e ∙ ap list_length (null-is t)
leaf-length t i sound (inr (inl e)) =
    ap (λ j. list_length (meaning t j)) e.1 ∙ ap list_length (boolean-is t e.0)
leaf-length t i sound (inr (inr (inl e))) =
    ap (λ j. list_length (meaning t j)) e.1 ∙ ap list_length (above-is t e.0)
leaf-length t i sound (inr (inr (inr (inl e)))) =
    ap (λ j. list_length (meaning t j)) e.1 ∙ ap list_length (below-is t e.0)
leaf-length t i sound (inr (inr (inr (inr (inl e))))) =
    ap (λ j. list_length (meaning t j)) e.1
    ∙ numeral-bare list_length t e.0 (λ n. held-length n) (subst (λ j. is_flat t j ≡ true) e.1 sound)
leaf-length t i sound (inr (inr (inr (inr (inr e))))) =
    ap (λ j. list_length (meaning t j)) e.1
    ∙ ap list_length (text-inside t e.0 (subst (λ j. is_flat t j ≡ true) e.1 sound)).is

pub no-length : (t : Shown) (i : Item) → is_flat t i ≡ true → IsLeafOr code.Members i
    → list_length (meaning t i) ≡ None
no-length t i sound other = elim (leaf-or code.Members i other) [
  | inl leaf ↦ leaf-length t i sound leaf
  | inr e ↦
      ap (λ j. list_length (meaning t j)) e.1
      ∙ ap list_length (object_inside t e.0 (subst (λ j. is_flat t j ≡ true) e.1 sound)).is
]
