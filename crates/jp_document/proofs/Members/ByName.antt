-- Members found by their names, which rise: for `child_named` and each look-up by a name.
use Rattle.std.proofs.Common.{◌≡◌, ℕ, suc, ◌+◌, ◌<◌, true, false, List, [], ◌∷◌}
use Rattle.std.proofs.Common.{length, get_or, map, Some, None}
use Rattle.std.proofs.Common.{Err, Ordering, Less, Equal, Greater, is_eq, is_lt, nat_cmp}
use Rattle.std.proofs.Common.{cond, refl, ap, subst, ◌∙◌, arith, inl, inr}
use Rattle.std.specs.Cmp.Lexicographic.{slice_cmp}
use Rattle.std.specs.List.{list_all, AllByRecursion}
use Rattle.std.specs.List.Sorted.{IsStrictlySortedBy, IsNonDecreasingBy, IsBinarySearchResult}
use Rattle.std.specs.Map.{lookup, keys_of}
use Rattle.std.specs.Ordering.{eq_by_cmp, ordering_index, ordering_reverse}
use Rattle.std.proofs.lemmas.Bool.{cases_lt}
use Rattle.std.proofs.lemmas.Cmp.{nat_list_cmp_total}
use Rattle.std.proofs.lemmas.List.{get_or-map, length-map}
use Rattle.std.proofs.lemmas.List.Sorted.{searchable_from_sorted}
use Rattle.std.proofs.lemmas.Map.Keys.{Less-from_sorted}
use Rattle.std.specs.BTreeMap.{is_at}
use Rattle.jp_document.specs.Location.{named, nth, step_cmp, items_from, child}
use Rattle.jp_document.specs.Value.{Value, list, object, Items, no_items, item, Members}
use Rattle.jp_document.specs.Value.{no_members, member, members_of, names_of, names_rise}
use Rattle.jp_reading.proofs.Conjunctions.{and-left, and-right}

abbrev pub bytes_cmp : List ℕ → List ℕ → Ordering
bytes_cmp = slice_cmp nat_cmp

pub names_of-members_of : (ps : List (List ℕ × Value)) → names_of (members_of ps) ≡ keys_of ps
names_of-members_of [] = refl
names_of-members_of (p ∷ ps) = ap (λ ns. p.0 ∷ ns) (names_of-members_of ps)

pub Less-from_is_lt : (o : Ordering) → is_lt o ≡ true → o ≡ Less
Less-from_is_lt Less h = refl
Less-from_is_lt Equal h = cc
Less-from_is_lt Greater h = cc

pub each_less-from_list_all : (n : List ℕ) (ns : List (List ℕ))
    → list_all (λ m. is_lt (bytes_cmp n m)) ns ≡ true
    → AllByRecursion (λ m. bytes_cmp n m ≡ Less) ns
each_less-from_list_all n [] h = tt
each_less-from_list_all n (m ∷ ns) h =
    (Less-from_is_lt _ (and-left _ _ h), each_less-from_list_all n ns (and-right _ _ h))

pub sorted_from_rise : (ns : List (List ℕ)) → names_rise ns ≡ true → IsStrictlySortedBy bytes_cmp ns
unfolding IsStrictlySortedBy
sorted_from_rise [] h = tt
sorted_from_rise (n ∷ ns) h =
    (each_less-from_list_all n ns (and-left _ _ h), sorted_from_rise ns (and-right _ _ h))

-- the member of a name by a look-up among names
pub child-named : (q : List ℕ) (ps : List (List ℕ × Value))
    → child (object (members_of ps)) (named q) ≡ lookup (eq_by_cmp bytes_cmp q) ps
child-named q [] = refl
child-named q (p ∷ ps) = ap (cond (is_eq (bytes_cmp q p.0)) (Some p.1)) (child-named q ps)

-- a name that no member has
pub absent : {X V : Type 0} (f : X → List ℕ × V) (q : List ℕ) (xs : List X)
    → ((k : ℕ) (d : X) → k < length xs → is_eq (bytes_cmp q (f (get_or xs k d)).0) ≡ false)
    → lookup (eq_by_cmp bytes_cmp q) (map f xs) ≡ None
absent f q [] other = refl
absent f q (x ∷ xs) other =
    rw (other 0 x (omega arith)) (absent f q xs (λ k d within. other (suc k) d (omega arith)))

not_less : (a b : List ℕ) → bytes_cmp a b ≡ Less → is_lt (bytes_cmp b a) ≡ false
not_less a b less = ap is_lt (nat_list_cmp_total.antisymm b a ∙ ap ordering_reverse less)

adjacent : {X V : Type 0} (f : X → List ℕ × V) (xs : List X) (k : ℕ) (d : X)
    → IsStrictlySortedBy bytes_cmp (keys_of (map f xs)) → k + 1 < length xs
    → is_lt (bytes_cmp (f (get_or xs (k + 1) d)).0 (f (get_or xs k d)).0) ≡ false
adjacent f xs k d sorted within =
    let ns = keys_of (map f xs) in
    let long : length ns ≡ length xs = length-map (map f xs) (λ e. e.0) ∙ length-map xs f in
    let name =
    λ (i : ℕ) (l : i < length xs). get_or-map (λ e. e.0) (map f xs) i (f d) (f d).0
    (omega (arith, length-map xs f)) ∙ ap (λ e. e.0) (get_or-map f xs i d (f d) l) in
    not_less (f (get_or xs k d)).0 (f (get_or xs (k + 1) d)).0
    (subst (λ b. bytes_cmp b (f (get_or xs (k + 1) d)).0 ≡ Less) (name k (omega arith))
    (subst (λ b. bytes_cmp (get_or ns k (f d).0) b ≡ Less) (name (k + 1) within)
    (Less-from_sorted bytes_cmp ns k (k + 1) (f d).0 sorted (omega arith) (omega (arith, long)))))

-- compared with a name, the members' names rise
pub searchable : {X V : Type 0} (f : X → List ℕ × V) (q : List ℕ) (xs : List X)
    → IsStrictlySortedBy bytes_cmp (keys_of (map f xs))
    → IsNonDecreasingBy (λ x. ordering_index (bytes_cmp (f x).0 q)) xs
searchable f q xs sorted =
    searchable_from_sorted nat_list_cmp_total (λ x. (f x).0) xs q
    (λ k d low within. adjacent f xs k d sorted within)

names_apart : (q n : List ℕ) (o : Ordering) → bytes_cmp n q ≡ o
    → is_eq (ordering_reverse o) ≡ false → is_eq (bytes_cmp q n) ≡ false
names_apart q n o is other =
    ap is_eq (nat_list_cmp_total.antisymm q n ∙ ap ordering_reverse is) ∙ other

-- a name that a bisection among rising names did not find
pub absent_name : {X V : Type 0} (f : X → List ℕ × V) (q : List ℕ) (xs : List X) (i : ℕ)
    → IsStrictlySortedBy bytes_cmp (keys_of (map f xs))
    → IsBinarySearchResult (λ x. bytes_cmp (f x).0 q) xs (Err i)
    → lookup (eq_by_cmp bytes_cmp q) (map f xs) ≡ None
absent_name f q xs i sorted h =
    let parts = h (searchable f q xs sorted) in
    absent f q xs (λ k d within. elim (cases_lt k i) [
      | inl below ↦ names_apart q (f (get_or xs k d)).0 Less (parts.0 k d (omega arith) below) refl
      | inr above ↦ names_apart q (f (get_or xs k d)).0 Greater (parts.1 k d above within) refl
    ])

pub sorted_members : (ps : List (List ℕ × Value)) → names_rise (names_of (members_of ps)) ≡ true
    → IsStrictlySortedBy bytes_cmp (keys_of ps)
sorted_members ps rise =
    subst (IsStrictlySortedBy bytes_cmp) (names_of-members_of ps)
    (sorted_from_rise (names_of (members_of ps)) rise)

no_name_among : (q : List ℕ) (i : ℕ) (vs : Items)
    → lookup (is_at (step_cmp (named q))) (items_from i vs) ≡ None
no_name_among q i no_items = refl
no_name_among q i (item v vs) = no_name_among q (suc i) vs

pub child-list_named : (q : List ℕ) (vs : Items) → child (list vs) (named q) ≡ None
child-list_named q vs = no_name_among q 0 vs

pub child-object_nth : (i : ℕ) (ms : Members) → child (object ms) (nth i) ≡ None
child-object_nth i no_members = refl
child-object_nth i (member n v ms) = child-object_nth i ms
