-- A loop in code keeps what its rule's loop would still make of what it holds: `by f (each begins
-- rule here)`.
use Rattle.std.proofs.Common.{◌≡◌, Bool, true, false, List, [], ◌∷◌, ◌++◌, refl, sym, ap, ◌∙◌}
use Rattle.std.proofs.Common.{append_assoc, append-nil}
use Rattle.jp_reading.specs.declared.reader.Stop.{Stop}
use Rattle.jp_reading.specs.declared.reader.Stop.TheVariants.{Memory, Syntax, TooDeep}
use Rattle.jp_reading.specs.Outcome.{State, Outcome, took, stuck, deep, ◌>>=◌, each}
use Rattle.jp_reading.specs.Views.{Fails, outcome_map, with_prefix}
use Rattle.jp_reading.proofs.States.Progress.{Progress}
use Rattle.jp_reading.proofs.States.Loops.{each-on, each-off, round}

outcome_map-round : {A B : Type 0} (f g : List A → B) (x : A) (o : Outcome (List A))
    → ((xs : List A) → f (x ∷ xs) ≡ g xs)
    → outcome_map f (o >>= λ xs r. took (x ∷ xs) r) ≡ outcome_map g o
outcome_map-round f g x (took xs q) e = ap (λ y. took y q) (e xs)
outcome_map-round f g x (stuck q) e = refl
outcome_map-round f g x (deep q) e = refl

-- a round that took x
pub folds_on : {A B : Type 0} (begins : State → Bool) (rule : State → Outcome A) → Progress rule
    → (f g : List A → B) (p q : State) (x : A) → begins p ≡ true → rule p ≡ took x q
    → ((xs : List A) → f (x ∷ xs) ≡ g xs) → outcome_map f (each begins rule p) ≡ outcome_map g (each begins rule q)
folds_on begins rule h f g p q x on e same =
    ap (outcome_map f) (each-on begins rule h p on ∙ ap (λ o. round o (each begins rule)) e)
    ∙ outcome_map-round f g x (each begins rule q) same

-- the end of the loop
pub folds_end : {A B : Type 0} (begins : State → Bool) (rule : State → Outcome A) (f : List A → B)
    (p : State)
    → begins p ≡ false → outcome_map f (each begins rule p) ≡ took (f []) p
folds_end begins rule f p off = ap (outcome_map f) (each-off begins rule p off)

-- a rule that fails within another
pub fails-then : {A B : Type 0} (e : Stop) (o : Outcome A) (k : A → State → Outcome B) → Fails e o
    → Fails e (o >>= k)
fails-then Memory o k h = tt
fails-then (Syntax n) (took x q) k h = elim h [ ]
fails-then (Syntax n) (stuck q) k h = h
fails-then (Syntax n) (deep q) k h = h
fails-then (TooDeep n) (took x q) k h = elim h [ ]
fails-then (TooDeep n) (stuck q) k h = h
fails-then (TooDeep n) (deep q) k h = h

-- a round that fails
pub folds_fail : {A B : Type 0} (begins : State → Bool) (rule : State → Outcome A) → Progress rule
    → (f : List A → B) (p : State) (e : Stop) → begins p ≡ true → Fails e (rule p)
    → Fails e (outcome_map f (each begins rule p))
folds_fail begins rule h f p e on failed =
    rw (each-on begins rule h p on)
    (fails-then e (round (rule p) (each begins rule)) _ (fails-then e (rule p) _ failed))

-- nothing in prefix changes nothing
pub with_prefix-nil : {A : Type 0} (o : Outcome (List A)) → with_prefix [] o ≡ o
with_prefix-nil (took xs q) = refl
with_prefix-nil (stuck q) = refl
with_prefix-nil (deep q) = refl

-- a loop that pushes each value to a list: a round more, and its end
pub pushes_on : {A : Type 0} (begins : State → Bool) (rule : State → Outcome A) → Progress rule
    → (xs : List A)
    (p q : State) (x : A) → begins p ≡ true → rule p ≡ took x q
    → with_prefix xs (each begins rule p) ≡ with_prefix (xs ++ x ∷ []) (each begins rule q)
pushes_on begins rule h xs p q x on e =
    folds_on begins rule h (λ ys. xs ++ ys) (λ ys. (xs ++ x ∷ []) ++ ys) p q x on e
    (λ ys. sym (append_assoc xs (x ∷ []) ys))

pub pushes_end : {A : Type 0} (begins : State → Bool) (rule : State → Outcome A) (xs : List A)
    (p : State)
    → begins p ≡ false → with_prefix xs (each begins rule p) ≡ took xs p
pushes_end begins rule xs p off = folds_end begins rule (λ ys. xs ++ ys) p off
    ∙ ap (λ ys. took ys p) (append-nil xs)

-- one value made into another, and that into a third
pub outcome_map-twice_made : {A B C : Type 0} (f : B → C) (g : A → B) (h : A → C) → ((x : A) → f (g x) ≡ h x)
    → (o : Outcome A)
    → outcome_map f (outcome_map g o) ≡ outcome_map h o
outcome_map-twice_made f g h e (took x q) = ap (λ y. took y q) (e x)
outcome_map-twice_made f g h e (stuck q) = refl
outcome_map-twice_made f g h e (deep q) = refl
