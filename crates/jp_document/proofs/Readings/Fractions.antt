-- Where the numbers of a reading stand that are no whole ones: for the fault `NotWhole`.
use Rattle.std.proofs.Common.{◌≡◌, ◌≢◌, ℕ, suc, Float, Bool, true, false, List}
use Rattle.std.proofs.Common.{[], ◌∷◌, Option, Some, None, Ordering, Less}
use Rattle.std.proofs.Common.{Equal, Greater, is_eq, cond, refl, ap, ◌∙◌}
use Rattle.std.specs.BTreeMap.{is_at}
use Rattle.std.specs.Map.{lookup}
use Rattle.std.specs.Ordering.{ordering_then}
use Rattle.std.proofs.lemmas.Option.{same_Some}
use Rattle.std.specs.Option.{option_and_then}
use Rattle.serde_json.specs.Data as parsed
use Rattle.serde_json.specs.Find.{as_u64, as_i64}
use Rattle.serde_json.specs.Data.{Num, Data, unsigned, negative, float}
use Rattle.jp_document.specs.Document.{value_of_data, items_of_data, members_of_data}
use Rattle.jp_document.specs.Document.{data_items_from, data_members, data_entries}
use Rattle.jp_document.specs.Document.{data_at, IsFraction, IsFirstFraction}
use Rattle.jp_document.specs.Location.{Step, step_cmp, Location, location_cmp}
use Rattle.jp_document.specs.Value.{Value, list, object, Items, item, Members, member}
use Rattle.jp_document.proofs.Descent.Steps.{step_same}
use Rattle.jp_document.proofs.Options.{some_from_both, some_from_map, some_from_then}

-- ---- a reading with a value has no such number

-- what a look-up goes on with stands first, or is found among the others
neither_found : (b : Bool) (d : Data) (rest r : Option Data) (f : Data → Option Data)
    → option_and_then f (cond b (Some d) rest) ≡ r → (f d ≡ r → ⊥)
    → (option_and_then f rest ≡ r → ⊥) → ⊥
neither_found true d rest r f is here there = here is
neither_found false d rest r f is here there = there is

mutual
  pub no_fraction : (d : Data) (v : Value) (l : Location) (x : Float) → value_of_data d ≡ Some v
      → data_at d l ≡ Some (parsed.number (float x)) → ⊥
  no_fraction (parsed.array ds) v (k ∷ l) x has is =
      let vs = some_from_map list (items_of_data ds) v has in
      no_fraction_in_items ds vs.0 0 k l x vs.1 is
  no_fraction (parsed.object ms) v (k ∷ l) x has is =
      let vs = some_from_map object (members_of_data ms) v has in
      no_fraction_in_members ms vs.0 k l x vs.1 is
  no_fraction (parsed.number (float y)) v l x has is = cc
  no_fraction d v [] x has is = cc
  no_fraction d v (k ∷ l) x has is = cc

  no_fraction_in_items : (ds : parsed.Items) (vs : Items) (i : ℕ) (k : Step) (l : Location)
      (x : Float) → items_of_data ds ≡ Some vs
      → option_and_then (λ e. data_at e l) (lookup (is_at (step_cmp k)) (data_items_from i ds)) ≡
      Some (parsed.number (float x)) → ⊥
  no_fraction_in_items parsed.no_items vs i k l x has is = cc
  no_fraction_in_items (parsed.item d ds) vs i k l x has is =
      let both = some_from_both item (value_of_data d) (items_of_data ds) vs has in
      neither_found _ d _ _ (λ e. data_at e l) is (no_fraction d both.0 l x both.2)
      (no_fraction_in_items ds both.1 (suc i) k l x both.3)

  no_fraction_in_members : (ms : parsed.Members) (vs : Members) (k : Step) (l : Location)
      (x : Float) → members_of_data ms ≡ Some vs
      → option_and_then (λ e. data_at e l) (lookup (is_at (step_cmp k)) (data_members ms)) ≡
      Some (parsed.number (float x)) → ⊥
  no_fraction_in_members parsed.no_members vs k l x has is = cc
  no_fraction_in_members (parsed.member n d ms) vs k l x has is =
      let both = some_from_both (member n) (value_of_data d) (members_of_data ms) vs has in
      neither_found _ d _ _ (λ e. data_at e l) is (no_fraction d both.0 l x both.2)
      (no_fraction_in_members ms both.1 k l x both.3)

-- ---- the first among entries

abbrev pub Entries : Type 0
Entries = List (Step × Data)

-- what stands at a location below some entries
abbrev pub entries_at : Entries → Location → Option Data
entries_at es [] = None
entries_at es (k ∷ l) = option_and_then (λ e. data_at e l) (lookup (is_at (step_cmp k)) es)

-- at l stands the first fraction below the entries
pub record IsFirstIn (es : Entries) (l : Location) : Type 0 where
  pub there : (x : Float) × (entries_at es l ≡ Some (parsed.number (float x)))
  pub least : (m : Location) → (x : Float) → entries_at es m ≡ Some (parsed.number (float x))
      → location_cmp m l ≢ Less

-- every step that leads on among the entries is above k
pub record IsAbove (k : Step) (es : Entries) : Type 0 where
  pub above : (q : Step) (d : Data) → lookup (is_at (step_cmp q)) es ≡ Some d → step_cmp q k ≡ Greater

not_below : (m : Location) → location_cmp m [] ≢ Less
not_below [] less = cc
not_below (k ∷ m) less = cc

there_later : (k : Step) (d : Data) (es : Entries) (l : Location) (x : Float) → IsAbove k es
    → entries_at es l ≡ Some (parsed.number (float x))
    → entries_at ((k, d) ∷ es) l ≡ Some (parsed.number (float x))
there_later k d es [] x above is = is
there_later k d es (q ∷ m) x above is =
    let e = some_from_then (λ e. data_at e m) (lookup (is_at (step_cmp q)) es) _ is in
    ap
    (λ o. option_and_then (λ e. data_at e m)
    (cond (is_eq o) (Some d) (lookup (is_at (step_cmp q)) es))) (above.above q e.0 e.1) ∙ is

least_later : (k : Step) (d : Data) (v : Value) (es : Entries) (l m : Location) (x : Float)
    → value_of_data d ≡ Some v → IsFirstIn es l
    → entries_at ((k, d) ∷ es) m ≡ Some (parsed.number (float x)) → location_cmp m l ≢ Less
least_later k d v es l [] x has first is less = cc
least_later k d v es l (q ∷ n) x has first is less =
    neither_found _ d _ _ (λ e. data_at e n) is (no_fraction d v n x has)
    (λ h. first.least (q ∷ n) x h less)

-- an entry without a fraction stands before the entries
pub skipped : (k : Step) (d : Data) (v : Value) (es : Entries) (l : Location)
    → value_of_data d ≡ Some v → IsAbove k es → IsFirstIn es l → IsFirstIn ((k, d) ∷ es) l
skipped k d v es l has above first = record {
  there = (first.there.0, there_later k d es l first.there.0 above first.there.1);
  least = λ m x is. least_later k d v es l m x has first is;
}

-- a fraction at q ∷ n, by where q stands beside k
least_by : (q k : Step) (d : Data) (es : Entries) (n l : Location) (x : Float) (o : Ordering)
    → IsAbove k es → IsFirstFraction d l → step_cmp q k ≡ o
    → option_and_then (λ e. data_at e n) (cond (is_eq o) (Some d) (lookup (is_at (step_cmp q)) es)) ≡
    Some (parsed.number (float x)) → ordering_then o (location_cmp n l) ≢ Less
least_by q k d es n l x Equal above first at is less = first.least n (x, is) less
least_by q k d es n l x Greater above first at is less = cc
least_by q k d es n l x Less above first at is less =
    let e = some_from_then (λ e. data_at e n) (lookup (is_at (step_cmp q)) es) _ is in
    let higher = above.above q e.0 e.1 in
    cc

least_hit : (k : Step) (d : Data) (es : Entries) (l m : Location) (x : Float) → IsAbove k es
    → IsFirstFraction d l → entries_at ((k, d) ∷ es) m ≡ Some (parsed.number (float x))
    → location_cmp m (k ∷ l) ≢ Less
least_hit k d es l [] x above first is less = cc
least_hit k d es l (q ∷ n) x above first is less =
    least_by q k d es n l x (step_cmp q k) above first refl is less

-- the entry at k has the first fraction
pub hit : (k : Step) (d : Data) (es : Entries) (l : Location) → IsAbove k es → IsFirstFraction d l
    → IsFirstIn ((k, d) ∷ es) (k ∷ l)
hit k d es l above first = record {
  there = (
    first.there.0,
    ap
        (λ o. option_and_then (λ e. data_at e l)
        (cond (is_eq o) (Some d) (lookup (is_at (step_cmp k)) es))) (step_same k) ∙ first.there.1,
  );
  least = λ m x is. least_hit k d es l m x above first is;
}

-- ---- the first of a list and of an object

first_there : (d : Data) (l : Location) (x : Float) → ((y : Float) → d ≢ parsed.number (float y))
    → entries_at (data_entries d) l ≡ Some (parsed.number (float x)) → IsFraction d l
first_there d [] x other is = cc
first_there d (k ∷ l) x other is = (x, is)

first_least : (d : Data) (l m : Location) → ((y : Float) → d ≢ parsed.number (float y))
    → IsFirstIn (data_entries d) l → IsFraction d m → location_cmp m l ≢ Less
first_least d l [] other first has less = other has.0 (same_Some _ _ has.1)
first_least d l (k ∷ m) other first has less = first.least (k ∷ m) has.0 has.1 less

-- what is the first among the entries of a list or an object is its first
pub IsFirstFraction-inside : (d : Data) (l : Location) → ((y : Float) → d ≢ parsed.number (float y))
    → IsFirstIn (data_entries d) l → IsFirstFraction d l
IsFirstFraction-inside d l other first = record {
  there = first_there d l first.there.0 other first.there.1;
  least = λ m has. first_least d l m other first has;
}

-- a number that is no whole one
pub IsFirstFraction-number : (x : Float) → IsFirstFraction (parsed.number (float x)) []
IsFirstFraction-number x = record { there = (x, refl); least = λ m has. not_below m }

-- a number that is held neither as u64 nor as i64
pub IsFirstFraction-neither : (n : Num) → None ≡ as_u64 n → None ≡ as_i64 n
    → IsFirstFraction (parsed.number n) []
IsFirstFraction-neither (unsigned n) u i = cc
IsFirstFraction-neither (negative z) u i = cc
IsFirstFraction-neither (float x) u i = IsFirstFraction-number x
