-- Where the numbers of a value stand that can't be held: for the fault `NumberRange`.
use Rattle.std.proofs.Common.{◌≡◌, ◌≢◌, ℕ, suc, Bool, true, false, List, [], ◌∷◌, ◌++◌, Option}
use Rattle.std.proofs.Common.{Some, None, Ordering, Less, Equal, Greater, is_eq, cond, refl, sym, ap}
use Rattle.std.proofs.Common.{◌∙◌, ◌&&◌, subst}
use Rattle.std.specs.BTreeMap.{is_at}
use Rattle.std.specs.List.{list_all, AllByRecursion}
use Rattle.std.specs.List.Sorted.{IsStrictlySortedBy}
use Rattle.std.specs.Map.{lookup, keys_of}
use Rattle.std.specs.Option.{option_and_then}
use Rattle.std.specs.Ordering.{ordering_reverse, ordering_then}
use Rattle.std.proofs.lemmas.Bool.{true≢false}
use Rattle.std.proofs.lemmas.Map.Keys.{sorted_head, sorted_tail}
use Rattle.std.proofs.lemmas.Option.{none-some, same_Some}
use Rattle.jp_document.specs.Location.{Step, Location, child, entries, items_from, location_cmp}
use Rattle.jp_document.specs.Location.{members_by_name, named, nth, step_cmp, value_at}
use Rattle.jp_document.specs.Value.{Items, Members, NamesRise, Value, decimal, everywhere}
use Rattle.jp_document.specs.Value.{everywhere_in_items, everywhere_in_members, has_rising_names, item}
use Rattle.jp_document.specs.Value.{list, member, no_items, no_members, object}
use Rattle.jp_document.proofs.Descent.Entries.{entries-rise_by_names}
use Rattle.jp_document.proofs.Descent.Inside.{everywhere-child}
use Rattle.jp_document.proofs.Descent.Steps.{step_cmp_total, step_exact, step_same}
use Rattle.jp_document.proofs.Options.{some_from_then}
use Rattle.jp_reading.proofs.Conjunctions.{and-left, and-right}
use Rattle.jp_exact.specs.Defects.{IsFirstUnheld, IsUnheldAt, is_held}

-- ---- a value that can be held has no such number

held-itself : (v : Value) → everywhere is_held v ≡ true → is_held v ≡ true
held-itself (decimal c e) held = held
held-itself v held = refl

held-at : (v w : Value) (l : Location) → everywhere is_held v ≡ true → value_at v l ≡ Some w
    → is_held w ≡ true
held-at v w [] held is = ap is_held (sym (same_Some v w is)) ∙ held-itself v held
held-at v w (k ∷ l) held is =
    let x = some_from_then (λ x. value_at x l) (child v k) w is in
    held-at x.0 w l (everywhere-child is_held v x.0 k held x.1) x.2

pub none-out_of_range : (v : Value) (l : Location) → everywhere is_held v ≡ true
    → IsUnheldAt v l → ⊥
none-out_of_range v l held out = true≢false (sym (held-at v out.0 l held out.1) ∙ out.2)

-- ---- the first among entries

abbrev pub Entries : Type 0
Entries = List (Step × Value)

-- what stands at a location below some entries
abbrev pub entries_at : Entries → Location → Option Value
entries_at es [] = None
entries_at es (k ∷ l) = option_and_then (λ w. value_at w l) (lookup (is_at (step_cmp k)) es)

-- at l stands the first number below the entries that can't be held
pub record IsFirstIn (es : Entries) (l : Location) : Type 0 where
  pub there : (w : Value) × (entries_at es l ≡ Some w) × (is_held w ≡ false)
  pub least : (m : Location) (w : Value) → entries_at es m ≡ Some w → is_held w ≡ false
      → location_cmp m l ≢ Less

-- each step among the entries is above k
abbrev IsBelow : Step → Entries → Type 0
IsBelow k es = AllByRecursion (λ y. step_cmp k y ≡ Less) (keys_of es)

above-by : (q k n : Step) (d e : Value) (rest : Option Value) (o : Ordering) → step_cmp q n ≡ o
    → cond (is_eq o) (Some d) rest ≡ Some e → step_cmp n k ≡ Greater
    → (rest ≡ Some e → step_cmp q k ≡ Greater) → step_cmp q k ≡ Greater
above-by q k n d e rest Less at is here later = later is
above-by q k n d e rest Equal at is here later = ap (λ j. step_cmp j k) (step_exact q n at) ∙ here
above-by q k n d e rest Greater at is here later = later is

-- so each step that leads on among them is above k
above : (k : Step) (es : Entries) (q : Step) (d : Value) → IsBelow k es
    → lookup (is_at (step_cmp q)) es ≡ Some d → step_cmp q k ≡ Greater
above k [] q d below is = absurd (none-some d is)
above k (e ∷ es) q d below is =
    above-by q k e.0 e.1 d (lookup (is_at (step_cmp q)) es) (step_cmp q e.0) refl is
    (step_cmp_total.antisymm e.0 k ∙ ap ordering_reverse below.0) (above k es q d below.1)

-- what a look-up goes on with stands first, or is found among the others
neither-found : (b : Bool) (v : Value) (rest r : Option Value) (f : Value → Option Value)
    → option_and_then f (cond b (Some v) rest) ≡ r → (f v ≡ r → ⊥)
    → (option_and_then f rest ≡ r → ⊥) → ⊥
neither-found true v rest r f is here there = here is
neither-found false v rest r f is here there = there is

not-below : (m : Location) → location_cmp m [] ≢ Less
not-below [] less = cc
not-below (k ∷ m) less = cc

there-later : (k : Step) (v : Value) (es : Entries) (l : Location) (w : Value) → IsBelow k es
    → entries_at es l ≡ Some w → entries_at ((k, v) ∷ es) l ≡ Some w
there-later k v es [] w below is = is
there-later k v es (q ∷ m) w below is =
    let e = some_from_then (λ x. value_at x m) (lookup (is_at (step_cmp q)) es) w is in
    ap
    (λ o. option_and_then (λ x. value_at x m)
    (cond (is_eq o) (Some v) (lookup (is_at (step_cmp q)) es))) (above k es q e.0 below e.1) ∙ is

least-later : (k : Step) (v : Value) (es : Entries) (l m : Location) (w : Value)
    → everywhere is_held v ≡ true → IsFirstIn es l → entries_at ((k, v) ∷ es) m ≡ Some w
    → is_held w ≡ false → location_cmp m l ≢ Less
least-later k v es l [] w held first is unheld less = none-some w is
least-later k v es l (q ∷ n) w held first is unheld less =
    neither-found (is_eq (step_cmp q k)) v (lookup (is_at (step_cmp q)) es) (Some w)
    (λ x. value_at x n) is (λ here. none-out_of_range v n held (w, here, unheld))
    (λ there. first.least (q ∷ n) w there unheld less)

-- an entry without such a number stands before the entries
skipped : (k : Step) (v : Value) (es : Entries) (l : Location) → everywhere is_held v ≡ true
    → IsBelow k es → IsFirstIn es l → IsFirstIn ((k, v) ∷ es) l
skipped k v es l held below first = record {
  there = (
    first.there.0,
    there-later k v es l first.there.0 below first.there.1,
    first.there.2,
  );
  least = λ m w is unheld. least-later k v es l m w held first is unheld;
}

-- such a number at q ∷ n, by where q stands beside k
least-by : (q k : Step) (v : Value) (es : Entries) (n l : Location) (w : Value) (o : Ordering)
    → IsBelow k es → IsFirstUnheld v l → step_cmp q k ≡ o
    → option_and_then (λ x. value_at x n) (cond (is_eq o) (Some v) (lookup (is_at (step_cmp q)) es)) ≡
    Some w → is_held w ≡ false → ordering_then o (location_cmp n l) ≢ Less
least-by q k v es n l w Equal below first at is unheld less = first.least n (w, is, unheld) less
least-by q k v es n l w Greater below first at is unheld less = cc
least-by q k v es n l w Less below first at is unheld less =
    let e = some_from_then (λ x. value_at x n) (lookup (is_at (step_cmp q)) es) w is in
    let higher = above k es q e.0 below e.1 in
    cc

least-hit : (k : Step) (v : Value) (es : Entries) (l m : Location) (w : Value) → IsBelow k es
    → IsFirstUnheld v l → entries_at ((k, v) ∷ es) m ≡ Some w → is_held w ≡ false
    → location_cmp m (k ∷ l) ≢ Less
least-hit k v es l [] w below first is unheld less = none-some w is
least-hit k v es l (q ∷ n) w below first is unheld less =
    least-by q k v es n l w (step_cmp q k) below first refl is unheld less

-- the entry at k has the first such number
hit : (k : Step) (v : Value) (es : Entries) (l : Location) → IsBelow k es → IsFirstUnheld v l
    → IsFirstIn ((k, v) ∷ es) (k ∷ l)
hit k v es l below first = record {
  there = (
    first.there.0,
    ap
        (λ o. option_and_then (λ x. value_at x l)
        (cond (is_eq o) (Some v) (lookup (is_at (step_cmp k)) es))) (step_same k) ∙ first.there.1,
    first.there.2,
  );
  least = λ m w is unheld. least-hit k v es l m w below first is unheld;
}

-- ---- the first of a list and of an object

there-inside : (v : Value) (l : Location) (w : Value) → entries_at (entries v) l ≡ Some w
    → value_at v l ≡ Some w
there-inside v [] w is = absurd (none-some w is)
there-inside v (k ∷ l) w is = is

least-inside : (v : Value) (l m : Location) → is_held v ≡ true → IsFirstIn (entries v) l
    → IsUnheldAt v m → location_cmp m l ≢ Less
least-inside v l [] held first out less =
    true≢false (sym held ∙ ap is_held (same_Some v out.0 out.1) ∙ out.2)
least-inside v l (k ∷ m) held first out less = first.least (k ∷ m) out.0 out.1 out.2 less

first-inside : (v : Value) (l : Location) → is_held v ≡ true → IsFirstIn (entries v) l
    → IsFirstUnheld v l
first-inside v l held first = record {
  there = (
    first.there.0,
    there-inside v l first.there.0 first.there.1,
    first.there.2,
  );
  least = λ m out. least-inside v l m held first out;
}

-- a number that can't be held
pub first-itself : (v : Value) → is_held v ≡ false → IsFirstUnheld v []
first-itself v unheld = record { there = (v, refl, unheld); least = λ m out. not-below m }

-- the first such number is in v, behind entries that can be held
among : (front : Entries) (k : Step) (v : Value) (rest : Entries) (l : Location)
    → IsStrictlySortedBy step_cmp (keys_of (front ++ (k, v) ∷ rest))
    → list_all (λ e. everywhere is_held e.1) front ≡ true → IsFirstUnheld v l
    → IsFirstIn (front ++ (k, v) ∷ rest) (k ∷ l)
among [] k v rest l sorted held first =
    hit k v rest l (sorted_head step_cmp k (keys_of rest) sorted) first
among (e ∷ front) k v rest l sorted held first =
    skipped e.0 e.1 (front ++ (k, v) ∷ rest) (k ∷ l) (and-left _ _ held)
    (sorted_head step_cmp e.0 (keys_of (front ++ (k, v) ∷ rest)) sorted)
    (among front k v rest l (sorted_tail step_cmp e.0 (keys_of (front ++ (k, v) ∷ rest)) sorted)
    (and-right _ _ held) first)

pub first-among : (v w : Value) (front : Entries) (k : Step) (rest : Entries) (l : Location)
    → is_held v ≡ true → NamesRise v → entries v ≡ front ++ (k, w) ∷ rest
    → list_all (λ e. everywhere is_held e.1) front ≡ true → IsFirstUnheld w l
    → IsFirstUnheld v (k ∷ l)
first-among v w front k rest l held rise is before first =
    first-inside v (k ∷ l) held
    (subst (λ es. IsFirstIn es (k ∷ l)) (sym is)
    (among front k w rest l
    (subst (λ es. IsStrictlySortedBy step_cmp (keys_of es)) is (entries-rise_by_names v rise))
    before first))

-- ---- a value that can't be held has such a number

abbrev First : Value → Type 0
First v = (l : Location) × IsFirstUnheld v l

abbrev FirstIn : Entries → Type 0
FirstIn es = (l : Location) × IsFirstIn es l

first-entry : (k : Step) (v : Value) (es : Entries) (b : Bool)
    → IsStrictlySortedBy step_cmp (k ∷ keys_of es) → everywhere is_held v ≡ b
    → (everywhere is_held v ≡ false → First v) → (everywhere is_held v ≡ true → FirstIn es)
    → FirstIn ((k, v) ∷ es)
first-entry k v es false sorted is here later =
    let l = here is in (k ∷ l.0, hit k v es l.0 (sorted_head step_cmp k (keys_of es) sorted) l.1)
first-entry k v es true sorted is here later =
    let l = later is in
    (l.0, skipped k v es l.0 is (sorted_head step_cmp k (keys_of es) sorted) l.1)

rest-unheld : (a b : Bool) → (a && b) ≡ false → a ≡ true → b ≡ false
rest-unheld a b neither is = ap (λ c. c && b) (sym is) ∙ neither

mutual
  pub first-of : (v : Value) → NamesRise v → everywhere is_held v ≡ false → First v
  first-of (decimal c e) rise unheld = ([], first-itself (decimal c e) unheld)
  first-of (list vs) rise unheld =
      let l = first-item 0 vs rise (entries-rise_by_names (list vs) rise) unheld in
      (l.0, first-inside (list vs) l.0 refl l.1)
  first-of (object ms) rise unheld =
      let l = first-member ms (and-right _ _ rise) (entries-rise_by_names (object ms) rise) unheld in
      (l.0, first-inside (object ms) l.0 refl l.1)
  first-of v rise unheld = absurd (true≢false unheld)

  first-item : (i : ℕ) (vs : Items) → everywhere_in_items has_rising_names vs ≡ true
      → IsStrictlySortedBy step_cmp (keys_of (items_from i vs))
      → everywhere_in_items is_held vs ≡ false → FirstIn (items_from i vs)
  first-item i no_items rise sorted unheld = absurd (true≢false unheld)
  first-item i (item v vs) rise sorted unheld =
      first-entry (nth i) v (items_from (suc i) vs) (everywhere is_held v) sorted refl
      (first-of v (and-left _ _ rise))
      (λ is. first-item (suc i) vs (and-right _ _ rise)
      (sorted_tail step_cmp (nth i) (keys_of (items_from (suc i) vs)) sorted)
      (rest-unheld (everywhere is_held v) (everywhere_in_items is_held vs) unheld is))

  first-member : (ms : Members) → everywhere_in_members has_rising_names ms ≡ true
      → IsStrictlySortedBy step_cmp (keys_of (members_by_name ms))
      → everywhere_in_members is_held ms ≡ false → FirstIn (members_by_name ms)
  first-member no_members rise sorted unheld = absurd (true≢false unheld)
  first-member (member n v ms) rise sorted unheld =
      first-entry (named n) v (members_by_name ms) (everywhere is_held v) sorted refl
      (first-of v (and-left _ _ rise))
      (λ is. first-member ms (and-right _ _ rise)
      (sorted_tail step_cmp (named n) (keys_of (members_by_name ms)) sorted)
      (rest-unheld (everywhere is_held v) (everywhere_in_members is_held ms) unheld is))
