-- Members in another order, those of each name in theirs: for `close_object`.
use Rattle.std.proofs.Common.{◌≡◌, ◌∷◌, ℕ, Bool, true, false, List, []}
use Rattle.std.proofs.Common.{Option, Some, Ordering, Less, Equal, Greater, is_eq, cond}
use Rattle.std.proofs.Common.{map, unwrap_or, refl, sym, ap, ◌∙◌}
use Rattle.std.specs.BTreeMap.{insert_entry}
use Rattle.std.specs.FinMap.{FinMap, entries, from_sorted, get, insert, entries-from_sorted}
use Rattle.std.specs.FinMap.{entries-insert, get-insert, same_map, nat_cmp-IsAntisymmetric, slice_cmp-IsAntisymmetric}
use Rattle.std.specs.FinMap.Entries as fin
use Rattle.std.specs.List.{All, filter}
use Rattle.std.specs.Ordering.{match_ordering}
use Rattle.std.proofs.lemmas.Cmp.{nat_list_cmp_total}
use Rattle.std.proofs.lemmas.List.Elements.{All-cons, All-head, All-nil, All-tail}
use Rattle.std.proofs.lemmas.List.Sorted.{All-permutation}
use Rattle.std.proofs.lemmas.Option.{same_Some}
use Rattle.jp_document.specs.Value.{Value, null}
use Rattle.jp_document.proofs.Members.ByName.{bytes_cmp}
use Rattle.jp_document.proofs.Options.{some_from_both}
use Rattle.jp_flat.specs.Flat.{Shown, all_of, member_with, text_at}
use Rattle.jp_flat.specs.Private.Parts.{name_in}
use Rattle.jp_flat.specs.Private.Reading.{put_all}
use Rattle.jp_flat.specs.Private.Sorting.{IsSameByName, PutsAll}
use Rattle.jp_flat.specs.declared.item.Item.{Item}
use Rattle.jp_flat.specs.declared.item.Named.{Named}
use Rattle.jp_flat.proofs.Names.{Pair}

pub filter_map : {X Y : Type 0} (f : X → Y) (p : Y → Bool) (xs : List X)
    → filter p (map f xs) ≡ map f (filter (λ x. p (f x)) xs)
filter_map f p [] = refl
filter_map f p (x ∷ xs) =
    ap (λ ys. cond (p (f x)) (f x ∷ ys) ys) (filter_map f p xs) ∙ through (p (f x))
  where
    through : (b : Bool)
        → cond b (f x ∷ map f (filter (λ x. p (f x)) xs)) (map f (filter (λ x. p (f x)) xs))
        ≡ map f (cond b (x ∷ filter (λ x. p (f x)) xs) (filter (λ x. p (f x)) xs))
    through true = refl
    through false = refl

-- ---- pairs that are put one after another, as a map

abbrev ByBytes : Type 0
ByBytes = FinMap bytes_cmp Value

put_is : (k : List ℕ) (v : Value) (es : List Pair)
    → fin.put bytes_cmp k v es ≡ insert_entry bytes_cmp es k v
put_is k v [] = refl
put_is k v (e ∷ es) =
    ap (λ rest. fin.by_order (bytes_cmp k e.0) ((k, v) ∷ e ∷ es) ((e.0, v) ∷ es) (e ∷ rest))
    (put_is k v es) ∙ by (bytes_cmp k e.0)
  where
    by : (o : Ordering)
        → fin.by_order o ((k, v) ∷ e ∷ es) ((e.0, v) ∷ es) (e ∷ insert_entry bytes_cmp es k v)
        ≡ match_ordering o ((k, v) ∷ e ∷ es) ((e.0, v) ∷ es) (e ∷ insert_entry bytes_cmp es k v)
    by Less = refl
    by Equal = refl
    by Greater = refl

abbrev insert_all : ByBytes → List Pair → ByBytes
insert_all m [] = m
insert_all m (p ∷ ps) = insert_all (insert m p.0 p.1) ps

entries-insert_all : (m : ByBytes) (ps : List Pair)
    → entries (insert_all m ps) ≡ put_all (entries m) ps
entries-insert_all m [] = refl
entries-insert_all m (p ∷ ps) =
    entries-insert_all (insert m p.0 p.1) ps
    ∙ ap (λ es. put_all es ps)
    (entries-insert nat_list_cmp_total m p.0 p.1 ∙ put_is p.0 p.1 (entries m))

abbrev has_name : List ℕ → Pair → Bool
has_name q p = is_eq (bytes_cmp q p.0)

-- the value of the last, or what there was before
abbrev latest : Option Value → List Pair → Option Value
latest o [] = o
latest o (p ∷ ps) = latest (Some p.1) ps

get-insert_all : (q : List ℕ) (m : ByBytes) (ps : List Pair)
    → get (insert_all m ps) q ≡ latest (get m q) (filter (has_name q) ps)
get-insert_all q m [] = refl
get-insert_all q m (p ∷ ps) =
    get-insert_all q (insert m p.0 p.1) ps
    ∙ ap (λ o. latest o (filter (has_name q) ps)) (get-insert nat_list_cmp_total m p.0 p.1 q)
    ∙ by (has_name q p)
  where
    by : (b : Bool)
        → latest (cond b (Some p.1) (get m q)) (filter (has_name q) ps)
        ≡ latest (get m q) (cond b (p ∷ filter (has_name q) ps) (filter (has_name q) ps))
    by true = refl
    by false = refl

-- what is put one after another depends on the order of those of one name alone
put_same : (ps qs : List Pair)
    → ((q : List ℕ) → filter (has_name q) ps ≡ filter (has_name q) qs)
    → put_all [] ps ≡ put_all [] qs
put_same ps qs same =
    let none : ByBytes = from_sorted [] in
    let m = insert_all none ps in
    let n = insert_all none qs in
    let listed : (rs : List Pair) → entries (insert_all none rs) ≡ put_all [] rs =
    λ rs. entries-insert_all none rs ∙ ap (λ es. put_all es rs) (entries-from_sorted bytes_cmp [] tt) in
    let alike : m ≡ n =
    same_map nat_list_cmp_total (slice_cmp-IsAntisymmetric nat_cmp-IsAntisymmetric) m n (λ q.
    get-insert_all q none ps ∙ ap (latest (get none q)) (same q)
    ∙ sym (get-insert_all q none qs)) in
    sym (listed ps) ∙ ap entries alike ∙ listed qs

-- ---- members as pairs

abbrev pair_of : (Item → Option Value) → Shown → Named → Pair
pair_of f t m = (name_in t m, unwrap_or (f m.item) null)

-- the member stands for its pair
abbrev Means : (Item → Option Value) → Shown → Named → Type 0
Means f t m = member_with f t m ≡ Some (pair_of f t m)

each_means : (f : Item → Option Value) (t : Shown) (ms : List Named) (ps : List Pair)
    → all_of (member_with f t) ms ≡ Some ps → All (Means f t) ms × (map (pair_of f t) ms ≡ ps)
each_means f t [] ps is = (All-nil (Means f t), same_Some [] ps is)
each_means f t (m ∷ ms) ps is =
    let h = some_from_both (λ y ys. y ∷ ys) (member_with f t m) (all_of (member_with f t) ms) ps is
    in
    let g = some_from_both (λ name v. (name, v)) (text_at t m.name) (f m.item) h.0 h.2 in
    let this : pair_of f t m ≡ h.0 =
    ap (λ o. (unwrap_or o [], unwrap_or (f m.item) null)) g.2
    ∙ ap (λ o. (g.0, unwrap_or o null)) g.3 ∙ g.4 in
    let rest = each_means f t ms h.1 h.3 in (
      All-cons (Means f t) m ms (h.2 ∙ ap Some (sym this)) rest.0,
      ap (λ p. p ∷ map (pair_of f t) ms) this ∙ ap (λ ps. h.0 ∷ ps) rest.1 ∙ h.4,
    )

all_mean : (f : Item → Option Value) (t : Shown) (ms : List Named) → All (Means f t) ms
    → all_of (member_with f t) ms ≡ Some (map (pair_of f t) ms)
all_mean f t [] each = refl
all_mean f t (m ∷ ms) each =
    rw (All-head (Means f t) m ms each) (rw (all_mean f t ms (All-tail (Means f t) m ms each)) refl)

pub puts_moved : (t : Shown) (members sorted found : List Named) → IsSameByName t members sorted
    → PutsAll t sorted found → PutsAll t members found
puts_moved t members sorted found same puts f ms is =
    let pair = pair_of f t in
    let h = each_means f t members ms is in
    let each = All-permutation (Means f t) members sorted same.moved h.0 in
    puts f (map pair sorted) (all_mean f t sorted each)
    ∙ ap Some
    (put_same (map pair sorted) (map pair members) (λ q.
    filter_map pair (has_name q) sorted ∙ ap (map pair) (same.named q)
    ∙ sym (filter_map pair (has_name q) members)) ∙ ap (put_all []) h.1)
