-- A reading turned into a value, part by part: for the loops of `json_of`.
use Rattle.std.proofs.Common.{◌≡◌, ◌+◌, ℕ, suc, true, List, [], ◌∷◌, ◌++◌, length, map, refl}
use Rattle.std.proofs.Common.{◌<◌, drop, get_or, sym, ap, subst, ◌∙◌, append_assoc, arith}
use Rattle.std.specs.List.{list_all}
use Rattle.std.proofs.lemmas.Bool.{and_from}
use Rattle.std.proofs.lemmas.List.{drop_more, map-append}
use Rattle.std.proofs.lemmas.List.Folds.{list_all-append}
use Rattle.json.specs.Value.{items_view, value_view}
use Rattle.json.specs.declared.value.Value.{Value as Parsed}
use Rattle.jp_document.specs.Location.{Location, Step, items_from, members_by_name, named, nth}
use Rattle.jp_document.specs.Value.{Value, everywhere, everywhere_in_items, everywhere_in_members, item}
use Rattle.jp_document.specs.Value.{items_of, list, member_of, members_of, NamesRise, object, value_of}
use Rattle.jp_document.specs.declared.value.Json.{Json}
use Rattle.jp_document.specs.declared.value.Member.{Member}
use Rattle.jp_document.proofs.Descent.Inside.{all-items, all-members}
use Rattle.jp_reading.proofs.Conjunctions.{and-left, and-right}
use Rattle.jp_exact.specs.Defects.{IsFirstUnheld, is_held}
use Rattle.jp_exact.specs.Private.ExactValue.{items_in, value_in}
use Rattle.jp_exact.proofs.OutOfRange.{first-among}

-- ---- for both

-- what is done, and the rest, is the whole: also after one more
pub seen-more : {X Y : Type 0} (f : X → Y) (found more : List X) (x : X) (y : Y) (rest all : List Y)
    → more ≡ found ++ x ∷ [] → f x ≡ y → map f found ++ y ∷ rest ≡ all → map f more ++ rest ≡ all
seen-more f found more x y rest all pushed same is =
    ap (λ xs. map f xs ++ rest) pushed
    ∙ ap (λ xs. xs ++ rest) (map-append f found (x ∷ []))
    ∙ append_assoc (map f found) (f x ∷ []) rest
    ∙ ap (λ w. map f found ++ w ∷ rest) same ∙ is

-- ---- items

-- the value of an item
abbrev pub item_value : {A : Type 0} → Parsed A → Value
item_value x = value_in (value_view x)

-- the items from one on
pub next-item : {A : Type 0} (xs : List (Parsed A)) (i : ℕ) (x : Parsed A) → i < length xs
    → x ≡ get_or xs i x → map item_value (drop i xs) ≡ item_value x ∷ map item_value (drop (i + 1) xs)
next-item xs i x within is =
    ap (map item_value) (drop_more xs i x within ∙ ap (λ y. y ∷ drop (i + 1) xs) (sym is))

pub items_in-view : {A : Type 0} (xs : List (Parsed A))
    → items_in (items_view xs) ≡ items_of (map item_value xs)
items_in-view [] = refl
items_in-view (x ∷ xs) = ap (item (item_value x)) (items_in-view xs)

pub items_held-more : (found more : List Json) (j : Json) → more ≡ found ++ j ∷ []
    → everywhere_in_items is_held (items_of (map value_of found)) ≡ true
    → everywhere is_held (value_of j) ≡ true
    → everywhere_in_items is_held (items_of (map value_of more)) ≡ true
items_held-more found more j pushed before here =
    ap (λ xs. everywhere_in_items is_held (items_of (map value_of xs))) pushed
    ∙ ap (λ vs. everywhere_in_items is_held (items_of vs)) (map-append value_of found (j ∷ []))
    ∙ all-items is_held (map value_of found ++ value_of j ∷ [])
    ∙ list_all-append (everywhere is_held) (map value_of found) (value_of j ∷ [])
    ∙ and_from _ _ (sym (all-items is_held (map value_of found)) ∙ before) (and_from _ _ here refl)

-- the entries before an item, its own, and those behind it
around : (n k : ℕ) (front : List Value) (v : Value) (rest : List Value) → n ≡ k + length front
    → items_from k (items_of (front ++ v ∷ rest)) ≡
    items_from k (items_of front) ++ (nth n, v) ∷ items_from (suc n) (items_of rest)
around n k [] v rest at =
    let same : k ≡ n = omega arith in
    ap (λ m. (nth m, v) ∷ items_from (suc m) (items_of rest)) same
around n k (w ∷ front) v rest at =
    ap (λ es. (nth k, w) ∷ es) (around n (suc k) front v rest (omega arith))

entries-held : (k : ℕ) (vs : List Value) → everywhere_in_items is_held (items_of vs) ≡ true
    → list_all (λ (e : Step × Value). everywhere is_held e.1) (items_from k (items_of vs)) ≡ true
entries-held k [] held = refl
entries-held k (v ∷ vs) held =
    and_from _ _ (and-left _ _ held) (entries-held (suc k) vs (and-right _ _ held))

pub items-stop : (front : List Value) (v : Value) (rest : List Value) (outer : Value)
    (l : Location) → outer ≡ list (items_of (front ++ v ∷ rest)) → NamesRise outer
    → everywhere_in_items is_held (items_of front) ≡ true → IsFirstUnheld v l
    → IsFirstUnheld outer (nth (length front) ∷ l)
items-stop front v rest outer l is rise held first =
    subst (λ w. IsFirstUnheld w (nth (length front) ∷ l)) (sym is)
    (first-among (list (items_of (front ++ v ∷ rest))) v (items_from 0 (items_of front))
    (nth (length front)) (items_from (suc (length front)) (items_of rest)) l refl
    (subst NamesRise is rise) (around (length front) 0 front v rest (omega arith))
    (entries-held 0 front held) first)

-- ---- members

pub members_held-more : (found more : List Member) (m : Member) (v : Value)
    → more ≡ found ++ m ∷ [] → (member_of m).1 ≡ v
    → everywhere_in_members is_held (members_of (map member_of found)) ≡ true
    → everywhere is_held v ≡ true
    → everywhere_in_members is_held (members_of (map member_of more)) ≡ true
members_held-more found more m v pushed same before here =
    ap (λ xs. everywhere_in_members is_held (members_of (map member_of xs))) pushed
    ∙ ap (λ ms. everywhere_in_members is_held (members_of ms)) (map-append member_of found (m ∷ []))
    ∙ all-members is_held (map member_of found ++ member_of m ∷ [])
    ∙ list_all-append (λ e. everywhere is_held e.1) (map member_of found) (member_of m ∷ [])
    ∙ and_from _ _ (sym (all-members is_held (map member_of found)) ∙ before)
    (and_from _ _ (ap (everywhere is_held) same ∙ here) refl)

abbrev entry_named : List ℕ × Value → Step × Value
entry_named m = (named m.0, m.1)

entries_of-members : (ms : List (List ℕ × Value))
    → members_by_name (members_of ms) ≡ map entry_named ms
entries_of-members [] = refl
entries_of-members (m ∷ ms) = ap (λ es. entry_named m ∷ es) (entries_of-members ms)

members-entries-held : (ms : List (List ℕ × Value))
    → everywhere_in_members is_held (members_of ms) ≡ true
    → list_all (λ (e : Step × Value). everywhere is_held e.1) (map entry_named ms) ≡ true
members-entries-held [] held = refl
members-entries-held (m ∷ ms) held =
    and_from _ _ (and-left _ _ held) (members-entries-held ms (and-right _ _ held))

pub members-stop : (front : List (List ℕ × Value)) (n : List ℕ) (v : Value)
    (rest : List (List ℕ × Value)) (outer : Value) (l : Location)
    → outer ≡ object (members_of (front ++ (n, v) ∷ rest)) → NamesRise outer
    → everywhere_in_members is_held (members_of front) ≡ true → IsFirstUnheld v l
    → IsFirstUnheld outer (named n ∷ l)
members-stop front n v rest outer l is rise held first =
    subst (λ w. IsFirstUnheld w (named n ∷ l)) (sym is)
    (first-among (object (members_of (front ++ (n, v) ∷ rest))) v (map entry_named front) (named n)
    (map entry_named rest) l refl (subst NamesRise is rise)
    (entries_of-members (front ++ (n, v) ∷ rest)
    ∙ map-append entry_named front ((n, v) ∷ rest)) (members-entries-held front held) first)
