-- Members put one after another, and names that rise: for `members` and `close_object`.
use Rattle.std.proofs.Common.{◌≡◌, ℕ, true, List, [], ◌∷◌, ◌++◌, Some, option_map, option_and_then}
use Rattle.std.proofs.Common.{Option, inl, inr, ◌⊎◌, refl, sym, ap, subst, ◌∙◌, append_assoc, append-nil, is_lt}
use Rattle.std.specs.BTreeMap.{insert_entry}
use Rattle.std.specs.List.{list_all}
use Rattle.std.specs.Map.{keys_of}
use Rattle.std.proofs.lemmas.Bool.{and_from}
use Rattle.std.proofs.lemmas.Cmp.{nat_list_cmp_total}
use Rattle.std.proofs.lemmas.List.{map-append}
use Rattle.std.proofs.lemmas.Option.{same_Some}
use Rattle.jp_document.specs.Value.{Value, names_rise}
use Rattle.jp_reading.proofs.Conjunctions.{and-left, and-right}
use Rattle.jp_document.proofs.Members.ByName.{Less-from_is_lt, bytes_cmp}
use Rattle.jp_flat.proofs.Inserting.{insert_last}
use Rattle.jp_document.proofs.Options.{some_from_both}
use Rattle.jp_flat.specs.Flat.{Shown, all_of, member_with, text_at}
use Rattle.jp_flat.specs.Private.Reading.{IsAboveLast, put_all}
use Rattle.jp_flat.specs.declared.item.Item.{Item}
use Rattle.jp_flat.specs.declared.item.Named.{Named}

-- a member: its name and its value
abbrev pub Pair : Type 0
Pair = List ℕ × Value

-- one member more goes in last
pub put_all-push : (found ms : List Pair) (m : Pair)
    → put_all found (ms ++ m ∷ []) ≡ insert_entry bytes_cmp (put_all found ms) m.0 m.1
put_all-push found [] m = refl
put_all-push found (p ∷ ms) m = put_all-push (insert_entry bytes_cmp found p.0 p.1) ms m

put_rising : (found ms : List Pair) → names_rise (keys_of (found ++ ms)) ≡ true
    → put_all found ms ≡ found ++ ms
put_rising found [] rise = sym (append-nil found)
put_rising found (m ∷ ms) rise =
    ap (λ fs. put_all fs ms) (insert_last m.0 m.1 found ms rise)
    ∙ put_rising (found ++ m ∷ []) ms
    (subst (λ fs. names_rise (keys_of fs) ≡ true) (sym (append_assoc found (m ∷ []) ms)) rise)
    ∙ append_assoc found (m ∷ []) ms

-- members whose names rise go in as they come
pub put_all-rising : (ms : List Pair) → names_rise (keys_of ms) ≡ true → put_all [] ms ≡ ms
put_all-rising ms rise = put_rising [] ms rise

-- ---- one name more

pub last_of : {A : Type 0} (xs : List A) → (xs ≡ []) ⊎ ((ys : List A) × (y : A) × (xs ≡ ys ++ y ∷ []))
last_of [] = inl refl
last_of (x ∷ xs) = elim (last_of xs) [
  | inl none ↦ inr ([], x, ap (λ zs. x ∷ zs) none)
  | inr some ↦ inr (x ∷ some.0, some.1, ap (λ zs. x ∷ zs) some.2)
]

above-all : (k n : List ℕ) (ks : List (List ℕ)) (last : List ℕ) (ls : List (List ℕ))
    → list_all (λ m. is_lt (bytes_cmp k m)) (ks ++ last ∷ ls) ≡ true
    → is_lt (bytes_cmp last n) ≡ true
    → list_all (λ m. is_lt (bytes_cmp k m)) (ks ++ last ∷ n ∷ ls) ≡ true
above-all k n [] last ls all less =
    and_from _ _ (and-left _ _ all)
    (and_from _ _
    (ap is_lt
    (nat_list_cmp_total.trans k last n (Less-from_is_lt _ (and-left _ _ all))
    (Less-from_is_lt _ less))) (and-right _ _ all))
above-all k n (m ∷ ks) last ls all less =
    and_from _ _ (and-left _ _ all) (above-all k n ks last ls (and-right _ _ all) less)

-- names that rise, and one between two neighbours
pub rise-between : (ks : List (List ℕ)) (last n : List ℕ) (ls : List (List ℕ))
    → names_rise (ks ++ last ∷ ls) ≡ true → is_lt (bytes_cmp last n) ≡ true
    → list_all (λ m. is_lt (bytes_cmp n m)) ls ≡ true
    → names_rise (ks ++ last ∷ n ∷ ls) ≡ true
rise-between [] last n ls rise less below =
    and_from _ _ (and_from _ _ less (and-left _ _ rise)) (and_from _ _ below (and-right _ _ rise))
rise-between (k ∷ ks) last n ls rise less below =
    and_from _ _ (above-all k n ks last ls (and-left _ _ rise) less)
    (rise-between ks last n ls (and-right _ _ rise) less below)

-- names that rise, and one above the last of them
rise_after : (ks : List (List ℕ)) (last n : List ℕ) → names_rise (ks ++ last ∷ []) ≡ true
    → is_lt (bytes_cmp last n) ≡ true → names_rise ((ks ++ last ∷ []) ++ n ∷ []) ≡ true
rise_after ks last n rise less =
    ap names_rise (append_assoc ks (last ∷ []) (n ∷ [])) ∙ rise-between ks last n [] rise less refl

keys-append : (ms ns : List Pair) → keys_of (ms ++ ns) ≡ keys_of ms ++ keys_of ns
keys-append ms ns = map-append (λ m. m.0) ms ns

pub all_of_last : {A B : Type 0} (f : A → Option B) (xs : List A) (x : A) (ys : List B)
    → all_of f (xs ++ x ∷ []) ≡ Some ys
    → (zs : List B) × (z : B) × (ys ≡ zs ++ z ∷ []) × (all_of f xs ≡ Some zs) × (f x ≡ Some z)
all_of_last f [] x ys is =
    let h = some_from_both (λ y ys. y ∷ ys) (f x) (Some []) ys is in
    ([], h.0, sym h.4 ∙ ap (λ zs. h.0 ∷ zs) (sym (same_Some [] h.1 h.3)), refl, h.2)
all_of_last f (w ∷ xs) x ys is =
    let h = some_from_both (λ y ys. y ∷ ys) (f w) (all_of f (xs ++ x ∷ [])) ys is in
    let k = all_of_last f xs x h.1 h.3 in (
      h.0 ∷ k.0,
      k.1,
      sym h.4 ∙ ap (λ zs. h.0 ∷ zs) k.2,
      ap (option_and_then (λ y. option_map (λ ys. y ∷ ys) (all_of f xs))) h.2
          ∙ ap (option_map (λ ys. h.0 ∷ ys)) k.3,
      k.4,
    )

pub rise-push : (t : Shown) (new : List Named) (found : List Pair) (name : List ℕ) (v : Value)
    (f : Item → Option Value) → all_of (member_with f t) new ≡ Some found
    → names_rise (keys_of found) ≡ true → IsAboveLast t new name
    → names_rise (keys_of (found ++ (name, v) ∷ [])) ≡ true
rise-push t new found name v f mean rise above = elim (last_of new) [
  | inl none ↦
      let empty : found ≡ [] =
      sym (same_Some [] found (ap (all_of (member_with f t)) (sym none) ∙ mean)) in
      ap (λ ms. names_rise (keys_of (ms ++ (name, v) ∷ []))) empty
  | inr some ↦
      let h = all_of_last (member_with f t) some.0 some.1 found
      (ap (all_of (member_with f t)) (sym some.2) ∙ mean) in
      let k = some_from_both (λ name v. (name, v)) (text_at t some.1.name) (f some.1.item) h.1 h.4 in
      let named : text_at t some.1.name ≡ Some h.1.0 =
      k.2 ∙ ap Some (ap (λ p. p.0) k.4) in
      let less = above some.0 some.1 h.1.0 some.2 named in
      let keys : keys_of found ≡ keys_of h.0 ++ h.1.0 ∷ [] =
      ap keys_of h.2 ∙ keys-append h.0 (h.1 ∷ []) in
      ap names_rise (keys-append found ((name, v) ∷ []))
      ∙ ap (λ ks. names_rise (ks ++ name ∷ [])) keys
      ∙ rise_after (keys_of h.0) h.1.0 name (ap names_rise (sym keys) ∙ rise) less
]
