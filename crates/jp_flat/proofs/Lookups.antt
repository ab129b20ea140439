-- An item by its index, a member by its name: for `FlatValue::item` and `FlatValue::member`.
use Rattle.std.proofs.Common.{◌≡◌, ◌<◌, ℕ, true, List, [], ◌∷◌, length, map, Option, Some, None}
use Rattle.std.proofs.Common.{option_map, option_and_then, sym, ap, subst, ◌∙◌, arith, inl, inr}
use Rattle.std.proofs.Common.{Equal, Err, get_or}
use Rattle.std.specs.List.{slice_get}
use Rattle.std.specs.List.Sorted.{IsBinarySearchResult}
use Rattle.std.proofs.lemmas.Map.Lookups.{exact_bytes}
use Rattle.std.proofs.lemmas.Option.{same_Some, slice_get_cases}
use Rattle.jp_document.specs.Location.{child, entries, named, nth}
use Rattle.jp_document.specs.Value.{NamesRise, members_of, object}
use Rattle.jp_reading.proofs.Conjunctions.{and-left}
use Rattle.jp_document.proofs.Descent.Entries.{at_index, child-entry, document-names_rise, item_entry}
use Rattle.jp_document.proofs.Descent.Items.{child-nth}
use Rattle.jp_document.proofs.Descent.Steps.{step_same}
use Rattle.jp_document.proofs.Members.ByName.{absent, absent_name, bytes_cmp, child-named, sorted_members}
use Rattle.jp_document.proofs.Options.{some_from_both}
use Rattle.jp_flat.specs.Flat.{Shown, all_of, flat_value, is_flat, meaning, member_with, piece}
use Rattle.jp_flat.specs.Private.Parts.{NamesAt, is_named, member_at, name_in}
use Rattle.jp_flat.specs.declared.item.Item.TheVariants as code
use Rattle.jp_flat.specs.declared.item.Named.{Named}
use Rattle.jp_flat.specs.declared.item.Span.{Span}
use Rattle.jp_flat.proofs.FoundInside.{is_same}
use Rattle.jp_flat.proofs.Inside.{flat-valid, list_inside, member-there, member_seen, object_inside}
use Rattle.jp_flat.proofs.Inside.{seen_member}

pub list-child : (t : Shown) (p : Span) (k : ℕ) → is_flat t (code.List p) ≡ true
    → slice_get (entries (meaning t (code.List p))) k
    ≡ option_map (at_index k) (child (meaning t (code.List p)) (nth k))
list-child t p k sound =
    let x = list_inside t p sound in
    subst (λ v. slice_get (entries v) k ≡ option_map (at_index k) (child v (nth k))) (sym x.is)
    (item_entry k x.values ∙ ap (option_map (at_index k)) (sym (child-nth k x.values)))

all_of-map : {A B : Type 0} (f : A → Option B) (g : A → B) (xs : List A) (ys : List B)
    → ((x : A) (y : B) → f x ≡ Some y → g x ≡ y) → all_of f xs ≡ Some ys → map g xs ≡ ys
all_of-map f g [] ys same is = same_Some [] ys is
all_of-map f g (x ∷ xs) ys same is =
    let h = some_from_both (λ y ys. y ∷ ys) (f x) (all_of f xs) ys is in
    ap (λ z. z ∷ map g xs) (same x h.0 h.2) ∙ ap (λ zs. h.0 ∷ zs) (all_of-map f g xs h.1 same h.3)
    ∙ h.4

-- the members that a search goes over
record Searched (t : Shown) (p : Span) (xs : List Named) : Type 0 where
  is : meaning t (code.Members p) ≡ object (members_of (map (seen_member t) xs))
  there : piece t.members p.first p.count ≡ Some xs

searched : (t : Shown) (p : Span) (xs : List Named) → is_flat t (code.Members p) ≡ true
    → piece t.members p.first p.count ≡ Some xs → Searched t p xs
searched t p xs sound there =
    let x = object_inside t p sound in
    let same : x.parts ≡ xs = same_Some x.parts xs (sym x.there ∙ there) in
    record {
      is = x.is
          ∙ ap (λ ms. object (members_of ms))
          (sym (all_of-map (member_with (flat_value 126 t) t) (seen_member t) x.parts x.values
          (member_seen t) x.mean))
          ∙ ap (λ ys. object (members_of (map (seen_member t) ys))) same;
      there = there;
    }

pub members-there : (t : Shown) (p : Span) → is_flat t (code.Members p) ≡ true
    → (xs : List Named) × (piece t.members p.first p.count ≡ Some xs)
members-there t p sound = let x = object_inside t p sound in (x.parts, x.there)

pub missed : (t : Shown) (p : Span) (q : List ℕ) (xs : List Named) (i : ℕ)
    → is_flat t (code.Members p) ≡ true → piece t.members p.first p.count ≡ Some xs
    → IsBinarySearchResult (λ m. bytes_cmp (seen_member t m).0 q) xs (Err i)
    → child (meaning t (code.Members p)) (named q) ≡ None
missed t p q xs i sound there miss =
    let x = searched t p xs sound there in
    let ps = map (seen_member t) xs in
    let sorted =
    sorted_members ps
    (and-left _ _
    (subst NamesRise x.is
    (document-names_rise (meaning t (code.Members p)) (flat-valid t (code.Members p) sound)))) in
    ap (λ v. child v (named q)) x.is ∙ child-named q ps
    ∙ absent_name (seen_member t) q xs i sorted miss

-- where each member was looked at
pub missed-each : (t : Shown) (p : Span) (q : List ℕ) (xs : List Named) → is_flat t (code.Members p) ≡ true
    → piece t.members p.first p.count ≡ Some xs → NamesAt t q xs None
    → child (meaning t (code.Members p)) (named q) ≡ None
missed-each t p q xs sound there none =
    let x = searched t p xs sound there in
    ap (λ v. child v (named q)) x.is ∙ child-named q (map (seen_member t) xs) ∙ absent (seen_member t) q xs none

-- a member that has the name compares as equal with it
pub named-equal : (t : Shown) (q : List ℕ) (m : Named) → is_named t q m ≡ true
    → bytes_cmp (seen_member t m).0 q ≡ Equal
named-equal t q m is =
    subst (λ name. bytes_cmp name q ≡ Equal) (is_same q (name_in t m) is) (step_same (named q))

pub hit : (t : Shown) (p : Span) (q : List ℕ) (xs : List Named) (i : ℕ)
    → is_flat t (code.Members p) ≡ true → piece t.members p.first p.count ≡ Some xs
    → i < length xs
    → ((m : Named) → bytes_cmp (seen_member t (get_or xs i m)).0 q ≡ Equal)
    → slice_get (entries (meaning t (code.Members p))) i
    ≡ option_map (λ w. (named q, w)) (child (meaning t (code.Members p)) (named q))
hit t p q xs i sound there within found = elim ((slice_get_cases xs i).1) [
  | inl h ↦
      let m = h.0 in
      let v = meaning t (code.Members p) in
      let name : name_in t m ≡ q =
      exact_bytes _ q (ap (λ n. bytes_cmp (seen_member t n).0 q) (sym h.3) ∙ found m) in
      let here : member_at t p i ≡ Some m =
      ap (option_and_then (λ ys. slice_get ys i)) there ∙ h.2 in
      let at : slice_get (entries v) i ≡ Some (named q, meaning t m.item) =
      member-there t p i m sound here ∙ ap (λ n. Some (named n, meaning t m.item)) name in
      at
      ∙ sym
      (ap (option_map (λ w. (named q, w)))
      (child-entry v i (named q) (meaning t m.item) (flat-valid t (code.Members p) sound) at))
  | inr h ↦ absurd (omega (arith, within, h.0))
]
