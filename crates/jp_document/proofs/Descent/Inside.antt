-- What holds everywhere in a value holds one step inside, and a child stands where its parent's
-- location goes on: for each call that goes to a child.
use Rattle.std.proofs.Common.{◌≡◌, ◌&&◌, ℕ, suc, ◌+◌, ◌<◌, Bool, true, false, List}
use Rattle.std.proofs.Common.{[], ◌∷◌, ◌++◌, length, get_or, drop, map, Option}
use Rattle.std.proofs.Common.{Some, None, cond, refl, sym, ap, subst, ◌∙◌, ◌⊎◌, inl, inr, ℤ, rules}
use Rattle.std.proofs.Common.{String, Global}
use Rattle.std.specs.BTreeMap.{is_at}
use Rattle.std.specs.List.{list_all}
use Rattle.std.specs.Map.{lookup}
use Rattle.std.proofs.lemmas.List.{drop_more}
use Rattle.std.specs.Option.{option_and_then}
use Rattle.jp_document.specs.Location.{Step, step_cmp, Location, items_from}
use Rattle.jp_document.specs.Location.{members_by_name, child, value_at}
use Rattle.jp_document.specs.Value.{Value, null, boolean, whole, decimal, text, list, object, Items}
use Rattle.jp_document.specs.Value.{no_items, item, Members, no_members, member}
use Rattle.jp_document.specs.Value.{items_of, members_of}
use Rattle.jp_document.specs.Value.{everywhere, everywhere_in_items, everywhere_in_members}
use Rattle.jp_document.specs.Value.{is_allowed, IsDocumentValue, value_of}
use Rattle.jp_document.specs.declared.value.Json.{Json, Null, Bool as Truth, Whole, Decimal, Text}
use Rattle.jp_document.specs.declared.value.Json.{the_lemmas}
use Rattle.jp_reading.proofs.Conjunctions.{and-both, and-left, and-right}

everywhere-first_or_rest : (p : Value → Bool) (b : Bool) (v w : Value) (rest : Option Value)
    → cond b (Some v) rest ≡ Some w → everywhere p v ≡ true
    → (rest ≡ Some w → everywhere p w ≡ true) → everywhere p w ≡ true
everywhere-first_or_rest p true v w rest is here there =
    let same : v ≡ w = cc in subst (λ x. everywhere p x ≡ true) same here
everywhere-first_or_rest p false v w rest is here there = there is

among_items : (p : Value → Bool) (test : Step → Bool) (i : ℕ) (vs : Items) (w : Value)
    → everywhere_in_items p vs ≡ true → lookup test (items_from i vs) ≡ Some w → everywhere p w ≡ true
among_items p test i no_items w all is = cc
among_items p test i (item v vs) w all is =
    everywhere-first_or_rest p _ v w _ is (and-left _ _ all)
    (among_items p test (suc i) vs w (and-right _ _ all))

among_members : (p : Value → Bool) (test : Step → Bool) (ms : Members) (w : Value)
    → everywhere_in_members p ms ≡ true → lookup test (members_by_name ms) ≡ Some w
    → everywhere p w ≡ true
among_members p test no_members w all is = cc
among_members p test (member n v ms) w all is =
    everywhere-first_or_rest p _ v w _ is (and-left _ _ all)
    (among_members p test ms w (and-right _ _ all))

-- what holds everywhere in v holds everywhere in its child
pub everywhere-child : (p : Value → Bool) (v w : Value) (k : Step) → everywhere p v ≡ true
    → child v k ≡ Some w → everywhere p w ≡ true
everywhere-child p (list vs) w k all is =
    among_items p (is_at (step_cmp k)) 0 vs w (and-right _ _ all) is
everywhere-child p (object ms) w k all is =
    among_members p (is_at (step_cmp k)) ms w (and-right _ _ all) is
everywhere-child p v w k all is = cc

-- what follows from a test everywhere holds everywhere
mutual
  pub everywhere-weaker : (p q : Value → Bool) → ((v : Value) → p v ≡ true → q v ≡ true)
      → (v : Value) → everywhere p v ≡ true → everywhere q v ≡ true
  everywhere-weaker p q follows (list vs) all =
      and-both _ _ (follows (list vs) (and-left _ _ all))
      (items-weaker p q follows vs (and-right _ _ all))
  everywhere-weaker p q follows (object ms) all =
      and-both _ _ (follows (object ms) (and-left _ _ all))
      (members-weaker p q follows ms (and-right _ _ all))
  everywhere-weaker p q follows null all = follows null all
  everywhere-weaker p q follows (boolean b) all = follows (boolean b) all
  everywhere-weaker p q follows (whole z) all = follows (whole z) all
  everywhere-weaker p q follows (decimal c e) all = follows (decimal c e) all
  everywhere-weaker p q follows (text s) all = follows (text s) all

  items-weaker : (p q : Value → Bool) → ((v : Value) → p v ≡ true → q v ≡ true)
      → (vs : Items) → everywhere_in_items p vs ≡ true → everywhere_in_items q vs ≡ true
  items-weaker p q follows no_items all = refl
  items-weaker p q follows (item v vs) all =
      and-both _ _ (everywhere-weaker p q follows v (and-left _ _ all))
      (items-weaker p q follows vs (and-right _ _ all))

  members-weaker : (p q : Value → Bool) → ((v : Value) → p v ≡ true → q v ≡ true)
      → (ms : Members) → everywhere_in_members p ms ≡ true → everywhere_in_members q ms ≡ true
  members-weaker p q follows no_members all = refl
  members-weaker p q follows (member n v ms) all =
      and-both _ _ (everywhere-weaker p q follows v (and-left _ _ all))
      (members-weaker p q follows ms (and-right _ _ all))

pub IsDocumentValue-child : (v w : Value) (k : Step) → IsDocumentValue v → child v k ≡ Some w
    → IsDocumentValue w
IsDocumentValue-child = everywhere-child is_allowed

-- ---- what holds everywhere among parts

pub all-items : (p : Value → Bool) (vs : List Value)
    → everywhere_in_items p (items_of vs) ≡ list_all (everywhere p) vs
all-items p [] = refl
all-items p (v ∷ vs) = ap (λ b. everywhere p v && b) (all-items p vs)

pub all-members : (p : Value → Bool) (ms : List (List ℕ × Value))
    → everywhere_in_members p (members_of ms) ≡ list_all (λ m. everywhere p m.1) ms
all-members p [] = refl
all-members p (m ∷ ms) = ap (λ b. everywhere p m.1 && b) (all-members p ms)

-- a value of one sort, or one with no values inside, has no child where that sort has none
pub no_child_unless : {X : Type 0} (sort : X → Json) (j : Json) (k : Step)
    → ((x : X) → child (value_of (sort x)) k ≡ None)
    → (j ≡ Null) ⊎ (((b : Bool) × (j ≡ Truth b)) ⊎ (((z : ℤ) × (j ≡ Whole z)) ⊎
    (((e : ℤ) × (c : ℤ) × (j ≡ Decimal e c)) ⊎
    (((s : String Global) × (j ≡ Text s)) ⊎ ((x : X) × (j ≡ sort x))))))
    → child (value_of j) k ≡ None
no_child_unless sort j k none (inl e) = rw e (search (rules, the_lemmas))
no_child_unless sort j k none (inr (inl e)) = rw e.1 (search (rules, the_lemmas))
no_child_unless sort j k none (inr (inr (inl e))) = rw e.1 (search (rules, the_lemmas))
no_child_unless sort j k none (inr (inr (inr (inl e)))) = rw e.2 (search (rules, the_lemmas))
no_child_unless sort j k none (inr (inr (inr (inr (inl e))))) = rw e.1 (search (rules, the_lemmas))
no_child_unless sort j k none (inr (inr (inr (inr (inr e))))) =
    ap (λ i. child (value_of i) k) e.1 ∙ none e.0

and_then-Some : (o : Option Value) → option_and_then (λ w. Some w) o ≡ o
and_then-Some None = refl
and_then-Some (Some w) = refl

value_at-below : (o : Option Value) (v : Value) (l : Location) (k : Step)
    → ((w : Value) → value_at w l ≡ Some v → value_at w (l ++ k ∷ []) ≡ child v k)
    → option_and_then (λ w. value_at w l) o ≡ Some v
    → option_and_then (λ w. value_at w (l ++ k ∷ [])) o ≡ child v k
value_at-below None v l k from is = cc
value_at-below (Some w) v l k from is = from w is

-- the value one step further
pub value_at-step : (d v : Value) (l : Location) (k : Step) → value_at d l ≡ Some v
    → value_at d (l ++ k ∷ []) ≡ child v k
value_at-step d v [] k is =
    let same : d ≡ v = cc in and_then-Some (child d k) ∙ ap (λ x. child x k) same
value_at-step d v (j ∷ l) k is = value_at-below (child d j) v l k (λ w. value_at-step w v l k) is

-- one step of a walk along a location: on to a value, or to none
pub walked : {S : Type 0} (key : S → Step) (steps : List S) (i : ℕ) (e : S) (v : Value)
    (o all : Option Value) → i < length steps → o ≡ child v (key (get_or steps i e))
    → value_at v (map key (drop i steps)) ≡ all
    → option_and_then (λ x. value_at x (map key (drop (i + 1) steps))) o ≡ all
walked key steps i e v o all within is before =
    ap (option_and_then (λ x. value_at x (map key (drop (i + 1) steps)))) is
    ∙ sym (ap (λ ks. value_at v (map key ks)) (drop_more steps i e within)) ∙ before
