-- A list's items found by their indexes: for `child_at` and `at_step`.
use Rattle.std.proofs.Common.{◌≡◌, ℕ, zero, suc, ◌+◌, ◌<◌, ◌≤◌, List, [], ◌∷◌}
use Rattle.std.proofs.Common.{length, get_or, map, inl, inr, Option, Some, None, Equal, Greater}
use Rattle.std.proofs.Common.{Bor, Global, Vec, is_eq, cond, refl, sym, ap, ◌∙◌, arith}
use Rattle.std.specs.BTreeMap.{is_at}
use Rattle.std.specs.Cmp.{nat_cmp_is}
use Rattle.std.specs.List.{slice_get, HoldsAt}
use Rattle.std.specs.Map.{lookup}
use Rattle.std.specs.Option.{MatchOption, option_map}
use Rattle.std.proofs.lemmas.Map.Lookups.{exact_bytes}
use Rattle.std.proofs.lemmas.Option.{slice_get-map, slice_get_past, slice_get-get_or}
use Rattle.std.proofs.lemmas.Option.{slice_get_cases}
use Rattle.jp_document.specs.Location.{named, nth, step_cmp, items_from, child, entries}
use Rattle.jp_document.specs.Value.{IsDocumentValue, Value, items_of, list, member_of, value_of}
use Rattle.jp_document.specs.declared.value.Json.{Json, List as ListOf, Members}
use Rattle.jp_document.specs.declared.value.Member.{Member}
use Rattle.jp_document.proofs.Descent.Entries.{at_index, child-entry, entry_of, item_entry}
use Rattle.jp_document.proofs.Descent.Entries.{members-entries}
use Rattle.jp_document.proofs.Members.ByName.{bytes_cmp}
use Rattle.jp_document.proofs.Values.{member_of_is, value_of-List, value_of-Members}

-- the item at index i of some items that begin at index k
item_from : (n k i : ℕ) (vs : List Value) → n ≡ k + i
    → lookup (is_at (step_cmp (nth n))) (items_from k (items_of vs)) ≡ slice_get vs i
item_from n k i [] at = refl
item_from n k zero (v ∷ vs) at =
    ap
    (λ o. cond (is_eq o) (Some v)
    (lookup (is_at (step_cmp (nth n))) (items_from (suc k) (items_of vs))))
    (sym (nat_cmp_is n k Equal (omega arith)))
item_from n k (suc i) (v ∷ vs) at =
    ap
    (λ o. cond (is_eq o) (Some v)
    (lookup (is_at (step_cmp (nth n))) (items_from (suc k) (items_of vs))))
    (sym (nat_cmp_is n k Greater (omega arith))) ∙ item_from n (suc k) i vs (omega arith)

pub child-nth : (i : ℕ) (vs : List Value) → child (list (items_of vs)) (nth i) ≡ slice_get vs i
child-nth i vs = item_from i 0 i vs (omega arith)

option_map-then : {X Y Z : Type 0} (g : Y → Z) (f : X → Y) (o : Option X)
    → option_map g (option_map f o) ≡ option_map (λ x. g (f x)) o
option_map-then g f None = refl
option_map-then g f (Some x) = refl

-- what `get` of a slice gives, seen through f
pub get_seen : {X Y : Type 0} (f : X → Y) (r : Option (Bor X)) (xs : List X) (i : ℕ)
    → MatchOption r (length xs ≤ i) (λ x. (i < length xs) × HoldsAt (λ y. x.now ≡ y) xs i)
    → option_map (λ x. f x.now) r ≡ slice_get (map f xs) i
get_seen f None xs i past =
    sym (slice_get-map f xs i ∙ ap (option_map f) (slice_get_past xs i past))
get_seen f (Some x) xs i h =
    sym
    (slice_get-map f xs i
    ∙ ap (option_map f) (slice_get-get_or xs i x.now h.0 ∙ ap Some (sym (h.1 x.now))))

-- what `get` of a list's items gives, as the list's entry there
pub list_found : (j : Json) (v : Vec Json Global) (xs : List Json) (i : ℕ)
    (o r : Option (Bor Json)) → j ≡ ListOf v → xs ≡ v.items → r ≡ o
    → MatchOption r (length xs ≤ i) (λ x. (i < length xs) × HoldsAt (λ y. x.now ≡ y) xs i)
    → option_map (λ x. (nth i, value_of x.now)) o ≡ slice_get (entries (value_of j)) i
list_found j v xs i o r is same was found =
    sym
    (ap (λ w. slice_get (entries w) i) (ap value_of is ∙ value_of-List v)
    ∙ item_entry i (map value_of v.items)
    ∙ ap (λ ys. option_map (at_index i) (slice_get (map value_of ys) i)) (sym same)
    ∙ ap (option_map (at_index i)) (sym (get_seen value_of r xs i found))
    ∙ option_map-then (at_index i) (λ (x : Bor Json). value_of x.now) r
    ∙ ap (option_map (λ x. (nth i, value_of x.now))) was)

object_entries : (j : Json) (v : Vec Member Global) (xs : List Member) → j ≡ Members v
    → xs ≡ v.items → entries (value_of j) ≡ map entry_of xs
object_entries j v xs is same =
    ap entries (ap value_of is ∙ value_of-Members v) ∙ members-entries v.items
    ∙ ap (map entry_of) (sym same)

-- what `get` of an object's members gives, as the object's entry there
pub object_found : (j : Json) (v : Vec Member Global) (xs : List Member) (i : ℕ)
    (o r : Option (Bor Member)) → j ≡ Members v → xs ≡ v.items → r ≡ o
    → MatchOption r (length xs ≤ i) (λ x. (i < length xs) × HoldsAt (λ y. x.now ≡ y) xs i)
    → option_map (λ x. entry_of x.now) o ≡ slice_get (entries (value_of j)) i
object_found j v xs i o r is same was found =
    ap (option_map (λ x. entry_of x.now)) (sym was) ∙ get_seen entry_of r xs i found
    ∙ ap (λ es. slice_get es i) (sym (object_entries j v xs is same))

-- the entry at the place where a name was found is the member of that name
pub name_found : (j : Json) (v : Vec Member Global) (xs : List Member) (i : ℕ) (q : List ℕ)
    → IsDocumentValue (value_of j) → j ≡ Members v → xs ≡ v.items → i < length xs
    → ((m : Member) → bytes_cmp (member_of (get_or xs i m)).0 q ≡ Equal)
    → slice_get (entries (value_of j)) i ≡
    option_map (λ w. (named q, w)) (child (value_of j) (named q))
name_found j v xs i q document is same within hit = elim ((slice_get_cases xs i).1) [
  | inl h ↦
      let x = h.0 in
      let name : (member_of x).0 ≡ q =
      exact_bytes _ q (ap (λ m. bytes_cmp (member_of m).0 q) (sym h.3) ∙ hit x) in
      let at : slice_get (entries (value_of j)) i ≡ Some (named q, value_of x.value) =
      ap (λ es. slice_get es i) (object_entries j v xs is same)
      ∙ slice_get-map entry_of xs i ∙ ap (option_map entry_of) h.2
      ∙ ap (λ n. Some (named n, value_of x.value)) (sym (ap (λ p. p.0) (member_of_is x)) ∙ name) in
      at
      ∙ sym
      (ap (option_map (λ w. (named q, w)))
      (child-entry (value_of j) i (named q) (value_of x.value) document at))
  | inr h ↦ absurd (omega (arith, within, h.0))
]
