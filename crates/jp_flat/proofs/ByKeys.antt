-- Members sorted by keys of their names: for `with_keys`, `sorted` and `sort_by_keys`.
use Rattle.std.proofs.Common.{◌≡◌, ◌⊎◌, inl, inr, ◌&&◌, ◌++◌, ◌∷◌, ℕ, Bool, true, false, not, List, []}
use Rattle.std.proofs.Common.{Ordering, Less, Equal, Greater, is_eq, is_lt, cond}
use Rattle.std.proofs.Common.{drop, refl, sym, ap, subst, ◌∙◌, ◌≤◌, arith}
use Rattle.std.proofs.Common.{length, take, take_all}
use Rattle.std.specs.Cmp.{IsTotalOrder, tied_then}
use Rattle.std.specs.List.{All, filter}
use Rattle.std.specs.List.Sorted.{IsPermutation, IsStableBy, ties}
use Rattle.std.specs.Ordering.{nat_cmp, ordering_reverse}
use Rattle.std.proofs.lemmas.Bool.{and_from}
use Rattle.std.proofs.lemmas.Cmp.{nat_cmp_total, nat_list_cmp_total, on_total, then_total}
use Rattle.std.proofs.lemmas.List.{drop-append-le, length-append, length-take-le, map_push}
use Rattle.std.proofs.lemmas.List.{drop_all, take-append-drop, take-append-le}
use Rattle.std.proofs.lemmas.List.Elements.{All-cons, All-head, All-nil, All-push, All-tail, filter-append}
use Rattle.std.proofs.lemmas.List.Elements.{All-weaker}
use Rattle.std.proofs.lemmas.List.Sorted.{All-permutation, IsPermutation-append_left}
use Rattle.std.proofs.lemmas.List.Sorted.{IsPermutation-append_right, IsPermutation-map}
use Rattle.std.proofs.lemmas.List.Sorted.{IsPermutation-refl, IsPermutation-trans}
use Rattle.std.proofs.lemmas.Map.Lookups.{exact_bytes}
use Rattle.jp_document.proofs.Members.ByName.{bytes_cmp}
use Rattle.jp_flat.specs.Flat.{Shown}
use Rattle.jp_flat.specs.Private.Fronts.{front_of}
use Rattle.jp_flat.specs.Private.Keys.{AreKeyed, keyed_cmp, members_in}
use Rattle.jp_flat.specs.Private.Parts.{is_named, name_in}
use Rattle.jp_flat.specs.Private.Sorting.{IsSameByName}
use Rattle.jp_flat.specs.declared.item.Named.{Named}
use Rattle.jp_flat.specs.declared.key.Keyed.{Keyed}
use Rattle.jp_flat.proofs.Putting.{own_reverse}
use Rattle.jp_flat.proofs.Moved.{filter_map}

filter_within : {X : Type 0} (p q : X → Bool) (xs : List X)
    → All (λ x. p x ≡ true → q x ≡ true) xs → filter p (filter q xs) ≡ filter p xs
filter_within p q [] within = refl
filter_within p q (x ∷ xs) within =
    by (p x) (q x) refl (All-head (λ x. p x ≡ true → q x ≡ true) x xs within)
    (filter_within p q xs (All-tail (λ x. p x ≡ true → q x ≡ true) x xs within))
  where
    by : (a b : Bool) → p x ≡ a → (a ≡ true → b ≡ true) → filter p (filter q xs) ≡ filter p xs
        → filter p (cond b (x ∷ filter q xs) (filter q xs)) ≡ cond a (x ∷ filter p xs) (filter p xs)
    by true true is h rest =
        ap (λ a. cond a (x ∷ filter p (filter q xs)) (filter p (filter q xs))) is
        ∙ ap (λ ys. x ∷ ys) rest
    by true false is h rest = absurd (cc (h refl))
    by false true is h rest =
        ap (λ a. cond a (x ∷ filter p (filter q xs)) (filter p (filter q xs))) is ∙ rest
    by false false is h rest = rest

filter_none : {X : Type 0} (p : X → Bool) (xs : List X) → All (λ x. p x ≡ false) xs
    → filter p xs ≡ []
filter_none p [] none = refl
filter_none p (x ∷ xs) none =
    ap (λ b. cond b (x ∷ filter p xs) (filter p xs)) (All-head (λ x. p x ≡ false) x xs none)
    ∙ filter_none p xs (All-tail (λ x. p x ≡ false) x xs none)

-- ---- a stable sort by keys that names have

pub keyed_cmp-total : (t : Shown) → IsTotalOrder (keyed_cmp t)
keyed_cmp-total t =
    then_total (on_total (λ k. k.key) nat_cmp_total)
    (on_total (λ k. name_in t k.member) nat_list_cmp_total)

tied : {X : Type 0} {R : X → X → Ordering} → IsTotalOrder R → (x y : X)
    → ties (λ x y. is_lt (R x y)) x y ≡ is_eq (R x y)
tied {R = R} o x y =
    ap (λ r. not (is_lt (R x y)) && not (is_lt r)) (o.antisymm y x) ∙ by (R x y)
  where
    by : (r : Ordering) → (not (is_lt r) && not (is_lt (ordering_reverse r))) ≡ is_eq r
    by Less = refl
    by Equal = refl
    by Greater = refl

abbrev HasKey : Shown → ℕ → Keyed → Type 0
HasKey t shared k = k.key ≡ front_of 8 (drop shared (name_in t k.member))

pub keyed_more : (t : Shown) (shared : ℕ) (members : List Named) (ks : List Keyed) (k : Keyed)
    → HasKey t shared k → AreKeyed t shared members ks
    → AreKeyed t shared (members ++ k.member ∷ []) (ks ++ k ∷ [])
keyed_more t shared members ks k has so = record {
  same = map_push (λ k. k.member) ks k ∙ ap (λ ms. ms ++ k.member ∷ []) so.same;
  keys = All-push (HasKey t shared) ks k so.keys has;
}

pub equal : (o : Ordering) → is_eq o ≡ true → o ≡ Equal
equal Less is = absurd (cc (is))
equal Equal is = refl
equal Greater is = absurd (cc (is))

-- members of one name have one key
same_key : (t : Shown) (shared : ℕ) (x y : Keyed) → HasKey t shared x → HasKey t shared y
    → is_named t (name_in t x.member) y.member ≡ true → is_eq (nat_cmp x.key y.key) ≡ true
same_key t shared x y x_has y_has is =
    let name = exact_bytes _ _ (equal _ is) in
    let key : x.key ≡ y.key =
    x_has ∙ ap (λ n. front_of 8 (drop shared n)) name ∙ sym y_has in
    ap is_eq
    (ap (λ n. nat_cmp n y.key) key
    ∙ own_reverse (nat_cmp y.key y.key) (nat_cmp_total.antisymm y.key y.key))

-- with such keys those tie that have one name
abbrev TiesNames : Shown → (Keyed → Keyed → Bool) → Type 0
TiesNames t lt =
    (shared : ℕ) (x y : Keyed) → HasKey t shared x → HasKey t shared y
    → is_named t (name_in t x.member) y.member ≡ true → ties lt x y ≡ true

pub ties_by_key : (t : Shown) → TiesNames t (λ a b. is_lt (nat_cmp a.key b.key))
ties_by_key t shared x y x_has y_has is =
    tied (on_total (λ k. k.key) nat_cmp_total) x y ∙ same_key t shared x y x_has y_has is

pub ties_by_order : (t : Shown) → TiesNames t (λ a b. is_lt (keyed_cmp t a b))
ties_by_order t shared x y x_has y_has is =
    tied (keyed_cmp-total t) x y
    ∙ sym (tied_then (nat_cmp x.key y.key) (bytes_cmp (name_in t x.member) (name_in t y.member)))
    ∙ and_from _ _ (same_key t shared x y x_has y_has is) is

-- no member has the name, or it is that of one with its key
abbrev IsNamedOrNone : Shown → ℕ → List ℕ → List Keyed → Type 0
IsNamedOrNone t shared q xs =
    All (λ k. is_named t q k.member ≡ false) xs
    ⊎ ((x : Keyed) × HasKey t shared x × (name_in t x.member ≡ q))

named_or_none : (t : Shown) (shared : ℕ) (q : List ℕ) (xs : List Keyed) → All (HasKey t shared) xs
    → IsNamedOrNone t shared q xs
named_or_none t shared q [] each = inl (All-nil (λ k. is_named t q k.member ≡ false))
named_or_none t shared q (x ∷ xs) each =
    by (is_named t q x.member) refl
    (named_or_none t shared q xs (All-tail (HasKey t shared) x xs each))
  where
    by : (b : Bool) → is_named t q x.member ≡ b → IsNamedOrNone t shared q xs
        → IsNamedOrNone t shared q (x ∷ xs)
    by true is later =
        inr (x, All-head (HasKey t shared) x xs each, sym (exact_bytes _ _ (equal _ is)))
    by false is (inl none) = inl (All-cons (λ k. is_named t q k.member ≡ false) x xs is none)
    by false is (inr some) = inr some

pub sorted_same : (t : Shown) (shared : ℕ) (members : List Named) (xs ys : List Keyed)
    (lt : Keyed → Keyed → Bool) → TiesNames t lt → AreKeyed t shared members xs
    → IsPermutation xs ys → IsStableBy lt xs ys → IsSameByName t members (members_in ys)
sorted_same t shared members xs ys lt tie keyed moved stable = record {
  moved =
      subst (λ ms. IsPermutation ms (members_in ys)) keyed.same
      (IsPermutation-map (λ k. k.member) xs ys moved);
  named = λ q.
      filter_map (λ k. k.member) (is_named t q) ys ∙ ap members_in (kept q)
      ∙ sym (filter_map (λ k. k.member) (is_named t q) xs)
      ∙ ap (filter (is_named t q)) keyed.same;
}
  where
    named : List ℕ → Keyed → Bool
    named q k = is_named t q k.member

    by_ties : (x : Keyed) → HasKey t shared x → (zs : List Keyed) → All (HasKey t shared) zs
        → filter (named (name_in t x.member)) (filter (ties lt x) zs)
        ≡ filter (named (name_in t x.member)) zs
    by_ties x has zs each =
        filter_within (named (name_in t x.member)) (ties lt x) zs
        (All-weaker (HasKey t shared)
        (λ y. named (name_in t x.member) y ≡ true → ties lt x y ≡ true)
        (λ y y_has. tie shared x y has y_has) zs each)

    kept : (q : List ℕ) → filter (named q) ys ≡ filter (named q) xs
    kept q =
        let each = All-permutation (HasKey t shared) xs ys moved keyed.keys in
        elim (named_or_none t shared q xs keyed.keys) [
          | inl none ↦
              filter_none (named q) ys (All-permutation (λ k. named q k ≡ false) xs ys moved none)
              ∙ sym (filter_none (named q) xs none)
          | inr some ↦
              subst (λ n. filter (named n) ys ≡ filter (named n) xs) some.2
              (sym (by_ties some.0 some.1 ys each)
              ∙ ap (filter (named (name_in t some.0.member))) (stable some.0)
              ∙ by_ties some.0 some.1 xs keyed.keys)
        ]

-- ---- members that go behind others, and are sorted there

pub same_trans : (t : Shown) (xs ys zs : List Named) → IsSameByName t xs ys → IsSameByName t ys zs
    → IsSameByName t xs zs
same_trans t xs ys zs first then = record {
  moved = IsPermutation-trans xs ys zs first.moved then.moved;
  named = λ q. then.named q ∙ first.named q;
}

pub same_behind : (t : Shown) (front xs ys : List Named) → IsSameByName t xs ys
    → IsSameByName t (front ++ xs) (front ++ ys)
same_behind t front xs ys same = record {
  moved = IsPermutation-append_right front xs ys same.moved;
  named = λ q.
      filter-append (is_named t q) front ys
      ∙ ap (λ ms. filter (is_named t q) front ++ ms) (same.named q)
      ∙ sym (filter-append (is_named t q) front xs);
}

same_pushed : (t : Shown) (xs ys : List Named) (m : Named) → IsSameByName t xs ys
    → IsSameByName t (xs ++ m ∷ []) (ys ++ m ∷ [])
same_pushed t xs ys m same = record {
  moved = IsPermutation-append_left (m ∷ []) xs ys same.moved;
  named = λ q.
      filter-append (is_named t q) ys (m ∷ [])
      ∙ ap (λ ms. ms ++ filter (is_named t q) (m ∷ [])) (same.named q)
      ∙ sym (filter-append (is_named t q) xs (m ∷ []));
}

-- the later members have the earlier ones up to the base, and then those with keys, sorted up to the
-- first
pub record AreAppended (t : Shown) (base first : ℕ) (ks : List Keyed) (before after : List Named)
    : Type 0 where
  pub low : base ≤ first
  pub within : first ≤ length after
  pub front : take base after ≡ take base before
  pub same : IsSameByName t (members_in ks) (drop base after)

pub none_appended : (t : Shown) (base : ℕ) (before : List Named) → base ≤ length before
    → AreAppended t base base [] before (take base before)
none_appended t base before low = record {
  low = omega arith;
  within = omega (arith, low, length-take-le base before low);
  front = take_all base (take base before) (omega (arith, low, length-take-le base before low));
  same =
      subst (IsSameByName t []) (sym (drop_all base (take base before)
      (omega (arith, low, length-take-le base before low))))
      (record { moved = IsPermutation-refl []; named = λ q. refl });
}

pub one_appended : (t : Shown) (base first : ℕ) (ks : List Keyed) (k : Keyed)
    (before after : List Named) → AreAppended t base first ks before after
    → AreAppended t base first (ks ++ k ∷ []) before (after ++ k.member ∷ [])
one_appended t base first ks k before after so = record {
  low = so.low;
  within = omega (arith, so.within, length-append after (k.member ∷ []));
  front = take-append-le base after (k.member ∷ []) (omega (arith, so.low, so.within)) ∙ so.front;
  same =
      subst (λ ms. IsSameByName t ms (drop base (after ++ k.member ∷ [])))
      (sym (map_push (λ k. k.member) ks k))
      (subst (IsSameByName t (members_in ks ++ k.member ∷ []))
      (sym (drop-append-le base after (k.member ∷ []) (omega (arith, so.low, so.within))))
      (same_pushed t (members_in ks) (drop base after) k.member so.same));
}

-- what stands from the first on is sorted
pub run_sorted : (t : Shown) (base first : ℕ) (ks : List Keyed) (before after sorted : List Named)
    → AreAppended t base first ks before after → take first sorted ≡ take first after
    → IsSameByName t (drop first after) (drop first sorted) → first ≤ length sorted
    → AreAppended t base (length sorted) ks before sorted
run_sorted t base first ks before after sorted so fronts same within =
    let front = take first after in
    let low : base ≤ length front = omega (arith, so.low, length-take-le first after so.within) in
    let after_is : front ++ drop first after ≡ after = take-append-drop first after in
    let sorted_is : front ++ drop first sorted ≡ sorted =
    ap (λ ms. ms ++ drop first sorted) (sym fronts) ∙ take-append-drop first sorted in
    let after_cut = drop-append-le base front (drop first after) low in
    let sorted_cut = drop-append-le base front (drop first sorted) low in
    let parts : IsSameByName t (drop base after) (drop base sorted) =
    subst (λ ms. IsSameByName t ms (drop base sorted)) (sym after_cut ∙ ap (drop base) after_is)
    (subst (IsSameByName t (drop base front ++ drop first after))
    (sym sorted_cut ∙ ap (drop base) sorted_is)
    (same_behind t (drop base front) (drop first after) (drop first sorted) same)) in
    record {
      low = omega (arith, so.low, within);
      within = omega arith;
      front =
          ap (take base) (sym sorted_is) ∙ take-append-le base front (drop first sorted) low
          ∙ sym (take-append-le base front (drop first after) low) ∙ ap (take base) after_is
          ∙ so.front;
      same = same_trans t (members_in ks) (drop base after) (drop base sorted) so.same parts;
    }
