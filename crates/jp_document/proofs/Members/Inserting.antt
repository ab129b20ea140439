-- What one member more keeps of members in the order of their names.
use Rattle.std.proofs.Common.{Ordering, Equal, ◌≡◌}
use Rattle.std.proofs.Common.{ℕ, Bool, true, List, [], ◌∷◌}
use Rattle.std.proofs.Common.{Less, Greater, is_lt, refl, ap, ◌∙◌}
use Rattle.std.specs.BTreeMap.{insert_entry}
use Rattle.std.specs.List.{list_all}
use Rattle.std.specs.Map.{keys_of}
use Rattle.std.specs.Ordering.{match_ordering, ordering_reverse}
use Rattle.std.proofs.lemmas.Bool.{and_from}
use Rattle.std.proofs.lemmas.Cmp.{nat_list_cmp_total}
use Rattle.jp_document.specs.Value.{names_rise}
use Rattle.jp_document.proofs.Members.ByName.{bytes_cmp, Less-from_is_lt}
use Rattle.jp_reading.proofs.Conjunctions.{and-left, and-right}

above_is_less : (k n : List ℕ) → bytes_cmp n k ≡ Greater → is_lt (bytes_cmp k n) ≡ true
above_is_less k n h = ap is_lt (nat_list_cmp_total.antisymm k n ∙ ap ordering_reverse h)

by_order : {X : Type 0} (t : X → Bool) (o : Ordering) (a b c : X) → t a ≡ true → t b ≡ true
    → t c ≡ true → t (match_ordering o a b c) ≡ true
by_order t Less a b c p q r = p
by_order t Equal a b c p q r = q
by_order t Greater a b c p q r = r

pub insert_all : {V : Type 0} (t : V → Bool) (ms : List (List ℕ × V)) (k : List ℕ) (v : V)
    → list_all (λ m. t m.1) ms ≡ true → t v ≡ true
    → list_all (λ m. t m.1) (insert_entry bytes_cmp ms k v) ≡ true
insert_all t [] k v h p = and_from _ _ p refl
insert_all t (m ∷ ms) k v h p =
    by_order (list_all (λ m. t m.1)) (bytes_cmp k m.0) ((k, v) ∷ m ∷ ms) ((m.0, v) ∷ ms)
    (m ∷ insert_entry bytes_cmp ms k v) (and_from _ _ p h) (and_from _ _ p (and-right _ _ h))
    (and_from _ _ (and-left _ _ h) (insert_all t ms k v (and-right _ _ h) p))

-- names above a name are above each name below it
below_each-trans : (k n : List ℕ) (ns : List (List ℕ)) → bytes_cmp k n ≡ Less
    → list_all (λ m. is_lt (bytes_cmp n m)) ns ≡ true
    → list_all (λ m. is_lt (bytes_cmp k m)) ns ≡ true
below_each-trans k n [] first h = refl
below_each-trans k n (m ∷ ns) first h =
    and_from _ _
    (ap is_lt (nat_list_cmp_total.trans k n m first (Less-from_is_lt _ (and-left _ _ h))))
    (below_each-trans k n ns first (and-right _ _ h))

pub keys_by : {V : Type 0} (t : List ℕ → Bool) (ms : List (List ℕ × V)) (k : List ℕ) (v : V)
    → list_all t (keys_of ms) ≡ true → t k ≡ true
    → list_all t (keys_of (insert_entry bytes_cmp ms k v)) ≡ true
keys_by t [] k v h p = and_from _ _ p refl
keys_by t (m ∷ ms) k v h p =
    by_order (λ ns. list_all t (keys_of ns)) (bytes_cmp k m.0) ((k, v) ∷ m ∷ ms) ((m.0, v) ∷ ms)
    (m ∷ insert_entry bytes_cmp ms k v) (and_from _ _ p h) h
    (and_from _ _ (and-left _ _ h) (keys_by t ms k v (and-right _ _ h) p))

rise_by : {V : Type 0} (k : List ℕ) (v : V) (m : List ℕ × V) (ms more : List (List ℕ × V))
    (o : Ordering) → bytes_cmp k m.0 ≡ o → names_rise (keys_of (m ∷ ms)) ≡ true
    → (bytes_cmp k m.0 ≡ Greater → names_rise (keys_of (m ∷ more)) ≡ true)
    → names_rise (keys_of (match_ordering o ((k, v) ∷ m ∷ ms) ((m.0, v) ∷ ms) (m ∷ more))) ≡ true
rise_by k v m ms more Less is rise later =
    and_from _ _
    (and_from _ _ (ap is_lt is) (below_each-trans k m.0 (keys_of ms) is (and-left _ _ rise))) rise
rise_by k v m ms more Equal is rise later = rise
rise_by k v m ms more Greater is rise later = later is

pub keys_rise : {V : Type 0} (ms : List (List ℕ × V)) (k : List ℕ) (v : V)
    → names_rise (keys_of ms) ≡ true → names_rise (keys_of (insert_entry bytes_cmp ms k v)) ≡ true
keys_rise [] k v rise = refl
keys_rise (m ∷ ms) k v rise =
    rise_by k v m ms (insert_entry bytes_cmp ms k v) (bytes_cmp k m.0) refl rise
    (λ is. and_from _ _
    (keys_by (λ n. is_lt (bytes_cmp m.0 n)) ms k v (and-left _ _ rise) (above_is_less m.0 k is))
    (keys_rise ms k v (and-right _ _ rise)))

pub through : {X Y : Type 0} (f : X → Y) (o : Ordering) (a b c : X)
    → f (match_ordering o a b c) ≡ match_ordering o (f a) (f b) (f c)
through f Less a b c = refl
through f Equal a b c = refl
through f Greater a b c = refl
