-- What a set of locations has once a location is put into it.
use Rattle.std.proofs.Common.{◌≡◌, Bool, true, false, ◌&&◌, ◌||◌, List, [], ◌∷◌, Option, Some, None}
use Rattle.std.proofs.Common.{Ordering, Less, Equal, Greater, is_eq, cond, refl, ap, ap₂, subst, sym, ◌∙◌}
use Rattle.std.specs.BTreeMap.{BTreeMap, get_by, is_at}
use Rattle.std.specs.Map.{lookup}
use Rattle.std.specs.Option.{option_map_or}
use Rattle.std.specs.Ordering.{ordering_then}
use Rattle.jp_document.specs.Location.{Location, Step, location_cmp, named, nth, step_cmp, step_of}
use Rattle.jp_document.specs.contracts.location.StepOrd.TheImpl.{ghosts as steps}
use Rattle.jp_document.specs.declared.location.Step as code
use Rattle.jp_document.specs.declared.location.Step.TheVariants.{Index, Name}
use Rattle.jp_document.proofs.Descent.Steps.{step_exact, step_same}
use Rattle.jp_evaluate.specs.Private.LocationSet.{has}
use Rattle.jp_evaluate.specs.declared.location_set.LocationSet.{LocationSet, out-LocationSet}

-- ---- steps

-- the order of steps is that of keys
pub step-order : (s t : code.Step) → steps.cmp s t ≡ step_cmp (step_of s) (step_of t)
step-order (Name s) (Name t) = refl
step-order (Name s) (Index j) = refl
step-order (Index i) (Name t) = refl
step-order (Index i) (Index j) = refl

-- a step of the code for each
abbrev pub code_step : Step → code.Step
code_step (named s) = Name (record { ref_ptr = (0, 0); now = s })
code_step (nth i) = Index i

code-step_of : (s : Step) → step_of (code_step s) ≡ s
code-step_of (named s) = refl
code-step_of (nth i) = refl

eq-told : (o : Ordering) → is_eq o ≡ true → o ≡ Equal
eq-told Less is = cc
eq-told Equal is = refl
eq-told Greater is = cc

then-eq : (o p : Ordering) → is_eq (ordering_then o p) ≡ (is_eq o && is_eq p)
then-eq Less p = refl
then-eq Equal p = refl
then-eq Greater p = refl

both-told : (a b : Bool) → (a && b) ≡ true → (a ≡ true) × (b ≡ true)
both-told true true is = (refl, refl)
both-told true false is = cc
both-told false b is = cc

-- locations that compare equal are one
pub location-told : (l m : Location) → is_eq (location_cmp l m) ≡ true → l ≡ m
location-told [] [] is = refl
location-told [] (j ∷ m) is = cc
location-told (k ∷ l) [] is = cc
location-told (k ∷ l) (j ∷ m) is =
    let both = both-told (is_eq (step_cmp k j)) (is_eq (location_cmp l m))
    (sym (then-eq (step_cmp k j) (location_cmp l m)) ∙ is) in
    ap₂ (λ s t. s ∷ t) (step_exact k j (eq-told (step_cmp k j) both.0)) (location-told l m both.1)

-- ---- what stands at a step

-- what a map has at a step
abbrev pub at_step : {X : Type 0} → BTreeMap code.Step X → Step → Option X
at_step m s = get_by (λ k. step_cmp s (step_of k)) m

at-key : {X : Type 0} (q : code.Step) (es : List (code.Step × X))
    → lookup (is_at (λ k. step_cmp (step_of q) (step_of k))) es ≡ lookup (is_at (steps.cmp q)) es
at-key q [] = refl
at-key q (e ∷ es) =
    ap₂ (λ o r. cond (is_eq o) (Some e.1) r) (sym (step-order q e.0)) (at-key q es)

at-found : {X : Type 0} (s : Step) (es : List (code.Step × X))
    → lookup (is_at (λ k. step_cmp s (step_of k))) es ≡ lookup (is_at (steps.cmp (code_step s))) es
at-found s es =
    ap (λ t. lookup (is_at (λ k. step_cmp t (step_of k))) es) (sym (code-step_of s))
    ∙ at-key (code_step s) es

-- a map in which what stands at one step was changed
abbrev pub Changes : {X : Type 0} → code.Step → Option X → BTreeMap code.Step X → BTreeMap code.Step X → Type 0
Changes k x m n = (q : code.Step) → get_by (steps.cmp q) n ≡ cond (is_at (steps.cmp k) q) x (get_by (steps.cmp q) m)

at-changed : {X : Type 0} (k : code.Step) (x : Option X) (m n : BTreeMap code.Step X) → Changes k x m n
    → (s : Step) → at_step n s ≡ cond (is_eq (step_cmp (step_of k) s)) x (at_step m s)
at-changed k x m n changed s =
    at-found s n.entries
    ∙ changed (code_step s)
    ∙ ap₂ (λ o y. cond (is_eq o) x y)
    (step-order k (code_step s) ∙ ap (step_cmp (step_of k)) (code-step_of s))
    (sym (at-found s m.entries))

-- a set without locations
pub has-none : (s : LocationSet) → (out-LocationSet s).here ≡ false
    → (out-LocationSet s).inside.entries ≡ [] → (l : Location) → has s l ≡ false
has-none s here none [] = here
has-none s here none (k ∷ l) =
    ap (λ es. option_map_or (λ u. has u l) (lookup (is_at (λ i. step_cmp k (step_of i))) es) false) none

-- ---- a location that is put in

-- what stands at a step has
pub has-found : (s w : LocationSet) (k : code.Step) → Some w ≡ get_by (steps.cmp k) (out-LocationSet s).inside
    → (l : Location) → has s (step_of k ∷ l) ≡ has w l
has-found s w k is l =
    ap (λ o. option_map_or (λ u. has u l) o false) (at-key k (out-LocationSet s).inside.entries ∙ sym is)

pub has-absent : (s : LocationSet) (k : code.Step) → None ≡ get_by (steps.cmp k) (out-LocationSet s).inside
    → (l : Location) → has s (step_of k ∷ l) ≡ false
has-absent s k is l =
    ap (λ o. option_map_or (λ u. has u l) o false) (at-key k (out-LocationSet s).inside.entries ∙ sym is)

-- the set t after the location without steps is put into s
pub has-here : (s t : LocationSet) (at : Location) → at ≡ [] → (out-LocationSet t).here ≡ true
    → (out-LocationSet t).inside ≡ (out-LocationSet s).inside
    → (l : Location) → has t l ≡ (is_eq (location_cmp l at) || has s l)
has-here s t at none here inside l =
    subst (λ k. has t l ≡ (is_eq (location_cmp l k) || has s l)) (sym none) (put l)
  where
    put : (m : Location) → has t m ≡ (is_eq (location_cmp m []) || has s m)
    put [] = here
    put (k ∷ m) = ap (λ i. option_map_or (λ u. has u m) (at_step i k) false) inside

put-there : (s t w v : LocationSet) (k : code.Step) (rest : Location)
    → (out-LocationSet t).here ≡ (out-LocationSet s).here
    → Changes k (Some v) (out-LocationSet s).inside (out-LocationSet t).inside
    → ((l : Location) → has s (step_of k ∷ l) ≡ has w l)
    → ((l : Location) → has v l ≡ (is_eq (location_cmp l rest) || has w l))
    → (l : Location) → has t l ≡ (is_eq (location_cmp l (step_of k ∷ rest)) || has s l)
put-there s t w v k rest here changed was now [] = here
put-there s t w v k rest here changed was now (j ∷ l) =
    decided (is_eq (step_cmp (step_of k) j)) (is_eq (step_cmp j (step_of k))) refl refl
  where
    at : at_step (out-LocationSet t).inside j ≡ cond (is_eq (step_cmp (step_of k) j)) (Some v) (at_step (out-LocationSet s).inside j)
    at = at-changed k (Some v) (out-LocationSet s).inside (out-LocationSet t).inside changed j

    Goal : Step → Type 0
    Goal i = has t (i ∷ l) ≡ (is_eq (location_cmp (i ∷ l) (step_of k ∷ rest)) || has s (i ∷ l))

    same : Goal (step_of k)
    same =
        ap (λ o. option_map_or (λ u. has u l) o false)
        (at-changed k (Some v) (out-LocationSet s).inside (out-LocationSet t).inside changed (step_of k)
        ∙ ap (λ o. cond (is_eq o) (Some v) (at_step (out-LocationSet s).inside (step_of k))) (step_same (step_of k)))
        ∙ now l
        ∙ ap₂ (λ a b. a || b)
        (sym (then-eq (step_cmp (step_of k) (step_of k)) (location_cmp l rest)
        ∙ ap (λ o. is_eq o && is_eq (location_cmp l rest)) (step_same (step_of k))))
        (sym (was l))

    decided : (a b : Bool) → is_eq (step_cmp (step_of k) j) ≡ a → is_eq (step_cmp j (step_of k)) ≡ b
        → Goal j
    decided true b is other = subst Goal (step_exact (step_of k) j (eq-told (step_cmp (step_of k) j) is)) same
    decided false true is other =
        subst Goal (sym (step_exact j (step_of k) (eq-told (step_cmp j (step_of k)) other))) same
    decided false false is other =
        ap (λ o. option_map_or (λ u. has u l) o false)
        (at ∙ ap (λ b. cond b (Some v) (at_step (out-LocationSet s).inside j)) is)
        ∙ sym (ap (λ b. b || has s (j ∷ l))
        (then-eq (step_cmp j (step_of k)) (location_cmp l rest)
        ∙ ap (λ b. b && is_eq (location_cmp l rest)) other))

-- the set t after a location is put into what stands at the step k in s, where v is that, and w was it
pub has-put : (s t w v : LocationSet) (k : code.Step) (rest at : Location)
    (n : BTreeMap code.Step LocationSet) → at ≡ step_of k ∷ rest
    → (out-LocationSet t).here ≡ (out-LocationSet s).here → (out-LocationSet t).inside ≡ n
    → Changes k (Some v) (out-LocationSet s).inside n
    → ((l : Location) → has s (step_of k ∷ l) ≡ has w l)
    → ((l : Location) → has v l ≡ (is_eq (location_cmp l rest) || has w l))
    → (l : Location) → has t l ≡ (is_eq (location_cmp l at) || has s l)
has-put s t w v k rest at n is here inside changed was now l =
    subst (λ m. has t l ≡ (is_eq (location_cmp l m) || has s l)) (sym is)
    (put-there s t w v k rest here
    (subst (Changes k (Some v) (out-LocationSet s).inside) (sym inside) changed) was now l)
