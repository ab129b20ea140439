-- Members of some names alone, as they are read and as they are kept: for `picking` and `Room::read_asked`.
use Rattle.std.proofs.Common.{◌≡◌, Bool, true, false, List, [], ◌∷◌, ℕ, cond, is_lt, map, nat_le, suc}
use Rattle.std.proofs.Common.{Ordering, Less, Equal, Greater, refl, sym, ap, ◌∙◌}
use Rattle.std.specs.BTreeMap.{insert_entry}
use Rattle.std.specs.List.{filter, list_all}
use Rattle.std.specs.Map.{keys_of}
use Rattle.std.specs.Ordering.{match_ordering}
use Rattle.std.specs.Str.{is_utf8}
use Rattle.std.proofs.lemmas.Map.Lookups.{exact_bytes}
use Rattle.jp_document.specs.Value.{Items, Members, Value, boolean, everywhere}
use Rattle.jp_document.specs.Value.{everywhere_in_items, everywhere_in_members, is_allowed, item}
use Rattle.jp_document.specs.Value.{item_count, items_of, list, member, members_of}
use Rattle.jp_document.specs.Value.{names_of, names_rise, no_items, no_members, null}
use Rattle.jp_document.specs.Value.{object, text, whole, decimal}
use Rattle.jp_document.proofs.Members.ByName.{bytes_cmp}
use Rattle.jp_document.proofs.Members.Inserting.{keys_rise}
use Rattle.jp_reading.specs.Numbers.{largest_exact}
use Rattle.jp_reading.proofs.Conjunctions.{and-both, and-left, and-right}
use Rattle.jp_flat.specs.Asked.{items_with, members_named, with_items_of, with_members}
use Rattle.jp_flat.proofs.Inserting.{insert_point}
use Rattle.jp_flat.proofs.Names.{Pair}

-- the members whose names pass the test
abbrev pub pairs_named : (List ℕ → Bool) → List Pair → List Pair
pairs_named p = filter (λ m. p m.0)

-- ---- what is kept is made of the parts

members_named-cons : (p : List ℕ → Bool) (b : Bool) (m : Pair) (ms : List Pair)
    → cond b (member m.0 m.1 (members_of ms)) (members_of ms) ≡ members_of (cond b (m ∷ ms) ms)
members_named-cons p true m ms = refl
members_named-cons p false m ms = refl

pub members_named-members_of : (p : List ℕ → Bool) (ms : List Pair)
    → members_named p (members_of ms) ≡ members_of (pairs_named p ms)
members_named-members_of p [] = refl
members_named-members_of p (m ∷ ms) =
    ap (λ ks. cond (p m.0) (member m.0 m.1 ks) ks) (members_named-members_of p ms)
    ∙ members_named-cons p (p m.0) m (pairs_named p ms)

pub items_with-items_of : (p : List ℕ → Bool) (vs : List Value)
    → items_with p (items_of vs) ≡ items_of (map (with_members p) vs)
items_with-items_of p [] = refl
items_with-items_of p (v ∷ vs) = ap (item (with_members p v)) (items_with-items_of p vs)

-- ---- a member more goes in among those that are kept, if its name passes the test

-- the name is below all that are kept, where it is below all
below-named : (p : List ℕ → Bool) (k : List ℕ) (ms : List Pair)
    → list_all (λ n. is_lt (bytes_cmp k n)) (keys_of ms) ≡ true
    → list_all (λ m. is_lt (bytes_cmp k m.0)) (pairs_named p ms) ≡ true
below-named p k [] below = refl
below-named p k (m ∷ ms) below =
    by (p m.0) (below-named p k ms (and-right _ _ below))
  where
    by : (b : Bool) → list_all (λ m. is_lt (bytes_cmp k m.0)) (pairs_named p ms) ≡ true
        → list_all (λ m. is_lt (bytes_cmp k m.0)) (cond b (m ∷ pairs_named p ms) (pairs_named p ms))
        ≡ true
    by true later = and-both _ _ (and-left _ _ below) later
    by false later = later

-- a name that is below the first of rising names is below all
below-rising : (k : List ℕ) (v : Value) (m : Pair) (ms : List Pair) → bytes_cmp k m.0 ≡ Less
    → names_rise (keys_of (m ∷ ms)) ≡ true
    → list_all (λ n. is_lt (bytes_cmp k n)) (keys_of (m ∷ ms)) ≡ true
below-rising k v m ms is rise =
    and-left _ _
    (sym
    (ap (λ o. names_rise (keys_of (match_ordering o ((k, v) ∷ m ∷ ms) ((m.0, v) ∷ ms)
    (m ∷ insert_entry bytes_cmp ms k v)))) is)
    ∙ keys_rise (m ∷ ms) k v rise)

-- the same of a member whose name is above the first, which is kept or not
put-among : (p : List ℕ → Bool) (k : List ℕ) (v : Value) (m : Pair) (kept after : List Pair)
    (b : Bool) → bytes_cmp k m.0 ≡ Greater → insert_entry bytes_cmp kept k v ≡ after
    → insert_entry bytes_cmp (cond b (m ∷ kept) kept) k v ≡ cond b (m ∷ after) after
put-among p k v m kept after true is later =
    ap (λ o. match_ordering o ((k, v) ∷ m ∷ kept) ((m.0, v) ∷ kept)
    (m ∷ insert_entry bytes_cmp kept k v)) is
    ∙ ap (λ ns. m ∷ ns) later
put-among p k v m kept after false is later = later

pub put-named : (p : List ℕ → Bool) (k : List ℕ) (v : Value) (ms : List Pair) → p k ≡ true
    → names_rise (keys_of ms) ≡ true
    → insert_entry bytes_cmp (pairs_named p ms) k v ≡ pairs_named p (insert_entry bytes_cmp ms k v)
put-named p k v [] picked rise = sym (ap (λ b. cond b ((k, v) ∷ []) []) picked)
put-named p k v (m ∷ ms) picked rise =
    by (bytes_cmp k m.0) refl (put-named p k v ms picked (and-right _ _ rise))
  where
    by : (o : Ordering) → bytes_cmp k m.0 ≡ o
        → insert_entry bytes_cmp (pairs_named p ms) k v
        ≡ pairs_named p (insert_entry bytes_cmp ms k v)
        → insert_entry bytes_cmp (pairs_named p (m ∷ ms)) k v
        ≡ pairs_named p (match_ordering o ((k, v) ∷ m ∷ ms) ((m.0, v) ∷ ms)
        (m ∷ insert_entry bytes_cmp ms k v))
    by Less is later =
        sym
        (insert_point k v (pairs_named p (m ∷ ms)) 0 refl
        (below-named p k (m ∷ ms) (below-rising k v m ms is rise)))
        ∙ sym (ap (λ b. cond b ((k, v) ∷ pairs_named p (m ∷ ms)) (pairs_named p (m ∷ ms))) picked)
    by Equal is later =
        let kept = pairs_named p ms in
        let too : p m.0 ≡ true = ap p (sym (exact_bytes k m.0 is)) ∙ picked in
        ap (λ b. insert_entry bytes_cmp (cond b (m ∷ kept) kept) k v) too
        ∙ ap (λ o. match_ordering o ((k, v) ∷ m ∷ kept) ((m.0, v) ∷ kept)
        (m ∷ insert_entry bytes_cmp kept k v)) is
        ∙ sym (ap (λ b. cond b ((m.0, v) ∷ kept) kept) too)
    by Greater is later =
        put-among p k v m (pairs_named p ms) (pairs_named p (insert_entry bytes_cmp ms k v)) (p m.0)
        is later

pub put-unnamed : (p : List ℕ → Bool) (k : List ℕ) (v : Value) (ms : List Pair) → p k ≡ false
    → pairs_named p ms ≡ pairs_named p (insert_entry bytes_cmp ms k v)
put-unnamed p k v [] dropped = sym (ap (λ b. cond b ((k, v) ∷ []) []) dropped)
put-unnamed p k v (m ∷ ms) dropped =
    by (bytes_cmp k m.0) refl (put-unnamed p k v ms dropped)
  where
    by : (o : Ordering) → bytes_cmp k m.0 ≡ o
        → pairs_named p ms ≡ pairs_named p (insert_entry bytes_cmp ms k v)
        → pairs_named p (m ∷ ms)
        ≡ pairs_named p (match_ordering o ((k, v) ∷ m ∷ ms) ((m.0, v) ∷ ms)
        (m ∷ insert_entry bytes_cmp ms k v))
    by Less is later =
        let kept = pairs_named p (m ∷ ms) in
        sym (ap (λ b. cond b ((k, v) ∷ kept) kept) dropped)
    by Equal is later =
        let kept = pairs_named p ms in
        let out : p m.0 ≡ false = ap p (sym (exact_bytes k m.0 is)) ∙ dropped in
        ap (λ b. cond b (m ∷ kept) kept) out ∙ sym (ap (λ b. cond b ((m.0, v) ∷ kept) kept) out)
    by Greater is later = ap (λ ns. cond (p m.0) (m ∷ ns) ns) later

-- ---- what is kept of a document may be a document's value

names-named : (p : List ℕ → Bool) (t : List ℕ → Bool) (ms : Members)
    → list_all t (names_of ms) ≡ true → list_all t (names_of (members_named p ms)) ≡ true
names-named p t no_members all = refl
names-named p t (member n v ms) all =
    by (p n) (names-named p t ms (and-right _ _ all))
  where
    by : (b : Bool) → list_all t (names_of (members_named p ms)) ≡ true
        → list_all t (names_of (cond b (member n v (members_named p ms)) (members_named p ms)))
        ≡ true
    by true later = and-both _ _ (and-left _ _ all) later
    by false later = later

rise-named : (p : List ℕ → Bool) (ms : Members) → names_rise (names_of ms) ≡ true
    → names_rise (names_of (members_named p ms)) ≡ true
rise-named p no_members rise = refl
rise-named p (member n v ms) rise =
    by (p n) (rise-named p ms (and-right _ _ rise))
  where
    by : (b : Bool) → names_rise (names_of (members_named p ms)) ≡ true
        → names_rise (names_of (cond b (member n v (members_named p ms)) (members_named p ms)))
        ≡ true
    by true later =
        and-both _ _ (names-named p (λ m. is_lt (bytes_cmp n m)) ms (and-left _ _ rise)) later
    by false later = later

inside-named : (p : List ℕ → Bool) (t : Value → Bool) (ms : Members)
    → everywhere_in_members t ms ≡ true → everywhere_in_members t (members_named p ms) ≡ true
inside-named p t no_members all = refl
inside-named p t (member n v ms) all =
    by (p n) (inside-named p t ms (and-right _ _ all))
  where
    by : (b : Bool) → everywhere_in_members t (members_named p ms) ≡ true
        → everywhere_in_members t (cond b (member n v (members_named p ms)) (members_named p ms))
        ≡ true
    by true later = and-both _ _ (and-left _ _ all) later
    by false later = later

pub members-allowed : (p : List ℕ → Bool) (v : Value) → everywhere is_allowed v ≡ true
    → everywhere is_allowed (with_members p v) ≡ true
members-allowed p (object ms) all =
    let fit = and-left _ _ all in
    and-both _ _
    (and-both _ _ (rise-named p ms (and-left _ _ fit))
    (names-named p is_utf8 ms (and-right _ _ fit)))
    (inside-named p is_allowed ms (and-right _ _ all))
members-allowed p (list vs) all = all
members-allowed p (text s) all = all
members-allowed p (whole z) all = all
members-allowed p (decimal c e) all = all
members-allowed p (boolean b) all = all
members-allowed p null all = all

items-allowed : (p : List ℕ → Bool) (vs : Items) → everywhere_in_items is_allowed vs ≡ true
    → everywhere_in_items is_allowed (items_with p vs) ≡ true
items-allowed p no_items all = refl
items-allowed p (item v vs) all =
    and-both _ _ (members-allowed p v (and-left _ _ all)) (items-allowed p vs (and-right _ _ all))

item_count-items_with : (p : List ℕ → Bool) (vs : Items)
    → item_count (items_with p vs) ≡ item_count vs
item_count-items_with p no_items = refl
item_count-items_with p (item v vs) = ap suc (item_count-items_with p vs)

-- what is kept may be a document's value
pub picked-allowed : (p : List ℕ → Bool) (v : Value) → everywhere is_allowed v ≡ true
    → everywhere is_allowed (with_items_of p v) ≡ true
picked-allowed p (list vs) all =
    and-both _ _
    (ap (λ n. nat_le n largest_exact) (item_count-items_with p vs) ∙ and-left _ _ all)
    (items-allowed p vs (and-right _ _ all))
picked-allowed p (object ms) all = all
picked-allowed p (text s) all = all
picked-allowed p (whole z) all = all
picked-allowed p (decimal c e) all = all
picked-allowed p (boolean b) all = all
picked-allowed p null all = all
