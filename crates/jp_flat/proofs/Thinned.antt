-- What is left of values of which members of other names may be missing: for `thin_members` and the
-- documents that it reads.
use Rattle.std.proofs.Common.{◌≡◌, ◌∷◌, ℕ, Bool, true, false, List, [], inl, inr}
use Rattle.std.proofs.Common.{Ordering, Less, Equal, Greater, is_lt, nat_le, refl, sym, ap, subst, ◌∙◌}
use Rattle.std.specs.BTreeMap.{insert_entry}
use Rattle.std.specs.List.{list_all}
use Rattle.std.specs.Map.{keys_of}
use Rattle.std.specs.Ordering.{match_ordering}
use Rattle.std.specs.Str.{is_utf8}
use Rattle.std.proofs.lemmas.Bool.{and_from}
use Rattle.std.proofs.lemmas.Map.Lookups.{exact_bytes}
use Rattle.jp_reading.specs.Numbers.{largest_exact}
use Rattle.jp_reading.proofs.Conjunctions.{and-left, and-right}
use Rattle.jp_document.specs.Value.{Value, Items, Members, member}
use Rattle.jp_document.specs.Value.{everywhere, everywhere_in_items, everywhere_in_members, is_allowed}
use Rattle.jp_document.specs.Value.{item_count, members_of, names_of, names_rise}
use Rattle.jp_document.proofs.Members.ByName.{bytes_cmp, Less-from_is_lt}
use Rattle.jp_document.proofs.Members.Inserting.{keys_rise}
use Rattle.jp_flat.specs.Asked.{IsThinned, AreThinned, LeavesMembers, is_leaf, is_name}
use Rattle.jp_flat.specs.Asked.IsThinned.{all, in_list, in_object}
use Rattle.jp_flat.specs.Asked.AreThinned.{no_item, next_item}
use Rattle.jp_flat.specs.Asked.LeavesMembers.{no_member, kept, thinned, missing}
use Rattle.jp_flat.specs.Private.Kept.{IsKeptNamed}
use Rattle.jp_flat.proofs.Names.{Pair}

-- ---- what is left may be a document's

names-all : (n : List ℕ) (t : List ℕ → Bool) (ms ks : Members) → LeavesMembers n ms ks
    → list_all t (names_of ms) ≡ true → list_all t (names_of ks) ≡ true
names-all n t ms ks no_member h = h
names-all n t ms ks (kept m v os ls so) h =
    and_from _ _ (and-left _ _ h) (names-all n t os ls so (and-right _ _ h))
names-all n t ms ks (thinned m v u os ls other here so) h =
    and_from _ _ (and-left _ _ h) (names-all n t os ls so (and-right _ _ h))
names-all n t ms ks (missing m v os ls other leaf so) h = names-all n t os ls so (and-right _ _ h)

names-still-rise : (n : List ℕ) (ms ks : Members) → LeavesMembers n ms ks
    → names_rise (names_of ms) ≡ true → names_rise (names_of ks) ≡ true
names-still-rise n ms ks no_member h = h
names-still-rise n ms ks (kept m v os ls so) h =
    and_from _ _ (names-all n (λ k. is_lt (bytes_cmp m k)) os ls so (and-left _ _ h))
    (names-still-rise n os ls so (and-right _ _ h))
names-still-rise n ms ks (thinned m v u os ls other here so) h =
    and_from _ _ (names-all n (λ k. is_lt (bytes_cmp m k)) os ls so (and-left _ _ h))
    (names-still-rise n os ls so (and-right _ _ h))
names-still-rise n ms ks (missing m v os ls other leaf so) h =
    names-still-rise n os ls so (and-right _ _ h)

pub same-count : (n : List ℕ) (vs us : Items) → AreThinned n vs us → item_count vs ≡ item_count us
same-count n vs us no_item = refl
same-count n vs us (next_item v u ws xs here so) = rw (same-count n ws xs so)

mutual
  pub allowed-thinned : (n : List ℕ) (v u : Value) → IsThinned n v u
      → everywhere is_allowed v ≡ true → everywhere is_allowed u ≡ true
  allowed-thinned n v u (all w) h = h
  allowed-thinned n v u (in_list vs us so) h =
      and_from _ _
      (ap (λ k. nat_le k largest_exact) (sym (same-count n vs us so)) ∙ and-left _ _ h)
      (allowed-items n vs us so (and-right _ _ h))
  allowed-thinned n v u (in_object ms ks so) h =
      let fit = and-left _ _ h in
      and_from _ _
      (and_from _ _ (names-still-rise n ms ks so (and-left _ _ fit))
      (names-all n is_utf8 ms ks so (and-right _ _ fit)))
      (allowed-members n ms ks so (and-right _ _ h))

  allowed-items : (n : List ℕ) (vs us : Items) → AreThinned n vs us
      → everywhere_in_items is_allowed vs ≡ true → everywhere_in_items is_allowed us ≡ true
  allowed-items n vs us no_item h = h
  allowed-items n vs us (next_item v u ws xs here so) h =
      and_from _ _ (allowed-thinned n v u here (and-left _ _ h))
      (allowed-items n ws xs so (and-right _ _ h))

  allowed-members : (n : List ℕ) (ms ks : Members) → LeavesMembers n ms ks
      → everywhere_in_members is_allowed ms ≡ true → everywhere_in_members is_allowed ks ≡ true
  allowed-members n ms ks no_member h = h
  allowed-members n ms ks (kept m v os ls so) h =
      and_from _ _ (and-left _ _ h) (allowed-members n os ls so (and-right _ _ h))
  allowed-members n ms ks (thinned m v u os ls other here so) h =
      and_from _ _ (allowed-thinned n v u here (and-left _ _ h))
      (allowed-members n os ls so (and-right _ _ h))
  allowed-members n ms ks (missing m v os ls other leaf so) h =
      allowed-members n os ls so (and-right _ _ h)

-- ---- members in the order of their names, and what is kept of them

pub data LeavesPairs (n : List ℕ) : List Pair → List Pair → Type 0 where
  none : LeavesPairs n [] []
  keeps : (m : List ℕ) (v u : Value) (ms ks : List Pair) → IsKeptNamed n m v u
      → LeavesPairs n ms ks → LeavesPairs n ((m, v) ∷ ms) ((m, u) ∷ ks)
  leaves : (m : List ℕ) (v : Value) (ms ks : List Pair) → is_name n m ≡ false
      → is_leaf v ≡ true → LeavesPairs n ms ks → LeavesPairs n ((m, v) ∷ ms) ks

keeps-members : (n m : List ℕ) (v u : Value) (ms ks : Members) → IsKeptNamed n m v u
    → LeavesMembers n ms ks → LeavesMembers n (member m v ms) (member m u ks)
keeps-members n m v u ms ks (inl same) so =
    subst (λ w. LeavesMembers n (member m v ms) (member m w ks)) (sym same) (kept m v ms ks so)
keeps-members n m v u ms ks (inr less) so = thinned m v u ms ks less.0 less.1 so

pub leaves-members : (n : List ℕ) (ms ks : List Pair) → LeavesPairs n ms ks
    → LeavesMembers n (members_of ms) (members_of ks)
leaves-members n ms ks none = no_member
leaves-members n ms ks (keeps m v u os ls here so) =
    keeps-members n m v u (members_of os) (members_of ls) here (leaves-members n os ls so)
leaves-members n ms ks (leaves m v os ls other leaf so) =
    missing m v (members_of os) (members_of ls) other leaf (leaves-members n os ls so)

keys-kept : (n : List ℕ) (t : List ℕ → Bool) (ms ks : List Pair) → LeavesPairs n ms ks
    → list_all t (keys_of ms) ≡ true → list_all t (keys_of ks) ≡ true
keys-kept n t ms ks none h = h
keys-kept n t ms ks (keeps m v u os ls here so) h =
    and_from _ _ (and-left _ _ h) (keys-kept n t os ls so (and-right _ _ h))
keys-kept n t ms ks (leaves m v os ls other leaf so) h = keys-kept n t os ls so (and-right _ _ h)

-- a name below all goes first
insert-first : (k : List ℕ) (u : Value) (ks : List Pair)
    → list_all (λ m. is_lt (bytes_cmp k m)) (keys_of ks) ≡ true
    → insert_entry bytes_cmp ks k u ≡ (k, u) ∷ ks
insert-first k u [] below = refl
insert-first k u (m ∷ ks) below =
    ap (λ o. match_ordering o ((k, u) ∷ m ∷ ks) ((m.0, u) ∷ ks) (m ∷ insert_entry bytes_cmp ks k u))
    (Less-from_is_lt _ (and-left _ _ below))

-- the names that a name goes before are above it
above-first : (k m : List ℕ) (v w : Value) (ms : List Pair) → bytes_cmp k m ≡ Less
    → names_rise (keys_of ((m, w) ∷ ms)) ≡ true
    → list_all (λ j. is_lt (bytes_cmp k j)) (keys_of ms) ≡ true
above-first k m v w ms is rise =
    let whole : names_rise (k ∷ m ∷ keys_of ms) ≡ true =
    subst (λ o. names_rise (keys_of (match_ordering o ((k, v) ∷ (m, w) ∷ ms) ((m, v) ∷ ms)
    ((m, w) ∷ insert_entry bytes_cmp ms k v))) ≡ true) is (keys_rise ((m, w) ∷ ms) k v rise) in
    and-right _ _ (and-left _ _ whole)

both-kept : (n k m : List ℕ) (v u w x : Value) (ms ks more less : List Pair) (o : Ordering)
    → bytes_cmp k m ≡ o → IsKeptNamed n k v u → IsKeptNamed n m w x → LeavesPairs n ms ks
    → LeavesPairs n more less
    → LeavesPairs n (match_ordering o ((k, v) ∷ (m, w) ∷ ms) ((m, v) ∷ ms) ((m, w) ∷ more))
    (match_ordering o ((k, u) ∷ (m, x) ∷ ks) ((m, u) ∷ ks) ((m, x) ∷ less))
both-kept n k m v u w x ms ks more less Less is here there so later =
    keeps k v u _ _ here (keeps m w x ms ks there so)
both-kept n k m v u w x ms ks more less Equal is here there so later =
    keeps m v u ms ks (subst (λ j. IsKeptNamed n j v u) (exact_bytes k m is) here) so
both-kept n k m v u w x ms ks more less Greater is here there so later =
    keeps m w x more less there later

one-kept : (n k m : List ℕ) (v u w : Value) (ms ks more : List Pair) (o : Ordering)
    → bytes_cmp k m ≡ o → names_rise (keys_of ((m, w) ∷ ms)) ≡ true → IsKeptNamed n k v u
    → is_name n m ≡ false → is_leaf w ≡ true → LeavesPairs n ms ks
    → LeavesPairs n more (insert_entry bytes_cmp ks k u)
    → LeavesPairs n (match_ordering o ((k, v) ∷ (m, w) ∷ ms) ((m, v) ∷ ms) ((m, w) ∷ more))
    (insert_entry bytes_cmp ks k u)
one-kept n k m v u w ms ks more Less is rise here other leaf so later =
    let above = above-first k m v w ms is rise in
    subst (LeavesPairs n ((k, v) ∷ (m, w) ∷ ms))
    (sym (insert-first k u ks (keys-kept n (λ j. is_lt (bytes_cmp k j)) ms ks so above)))
    (keeps k v u _ _ here (leaves m w ms ks other leaf so))
one-kept n k m v u w ms ks more Equal is rise here other leaf so later =
    let same : k ≡ m = exact_bytes k m is in
    let above : list_all (λ j. is_lt (bytes_cmp k j)) (keys_of ms) ≡ true =
    subst (λ i. list_all (λ j. is_lt (bytes_cmp i j)) (keys_of ms) ≡ true) (sym same)
    (and-left _ _ rise) in
    subst (LeavesPairs n ((m, v) ∷ ms))
    (sym (insert-first k u ks (keys-kept n (λ j. is_lt (bytes_cmp k j)) ms ks so above)))
    (subst (λ i. LeavesPairs n ((i, v) ∷ ms) ((k, u) ∷ ks)) same (keeps k v u ms ks here so))
one-kept n k m v u w ms ks more Greater is rise here other leaf so later =
    leaves m w more _ other leaf later

-- one member more, of which something is kept
pub put-both : (n k : List ℕ) (v u : Value) (ms ks : List Pair) → names_rise (keys_of ms) ≡ true
    → IsKeptNamed n k v u → LeavesPairs n ms ks
    → LeavesPairs n (insert_entry bytes_cmp ms k v) (insert_entry bytes_cmp ks k u)
put-both n k v u ms ks rise here none = keeps k v u [] [] here none
put-both n k v u ms ks rise here (keeps m w x os ls there so) =
    both-kept n k m v u w x os ls _ _ (bytes_cmp k m) refl here there so
    (put-both n k v u os ls (and-right _ _ rise) here so)
put-both n k v u ms ks rise here (leaves m w os ls other leaf so) =
    one-kept n k m v u w os ls _ (bytes_cmp k m) refl rise here other leaf so
    (put-both n k v u os ls (and-right _ _ rise) here so)

one-left : (n k m : List ℕ) (v w : Value) (ms more : List Pair) (o : Ordering)
    → is_name n k ≡ false → is_leaf v ≡ true → is_name n m ≡ false → is_leaf w ≡ true
    → LeavesPairs n ms [] → LeavesPairs n more []
    → LeavesPairs n (match_ordering o ((k, v) ∷ (m, w) ∷ ms) ((m, v) ∷ ms) ((m, w) ∷ more)) []
one-left n k m v w ms more Less apart bare other leaf so later =
    leaves k v _ [] apart bare (leaves m w ms [] other leaf so)
one-left n k m v w ms more Equal apart bare other leaf so later = leaves m v ms [] other bare so
one-left n k m v w ms more Greater apart bare other leaf so later =
    leaves m w more [] other leaf later

-- one member more, which is left out, where nothing is kept
pub put-left : (n k : List ℕ) (v : Value) (ms : List Pair) → is_name n k ≡ false
    → is_leaf v ≡ true → LeavesPairs n ms [] → LeavesPairs n (insert_entry bytes_cmp ms k v) []
put-left n k v ms apart bare none = leaves k v [] [] apart bare none
put-left n k v ms apart bare (leaves m w os ls other leaf so) =
    one-left n k m v w os _ (bytes_cmp k m) apart bare other leaf so (put-left n k v os apart bare so)
