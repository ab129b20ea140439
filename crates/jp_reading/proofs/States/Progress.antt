-- That rules leave shorter texts, so that loops over them end.
use Rattle.std.proofs.Common.{◌≡◌, ℕ, zero, suc, ◌<◌, ◌≤◌, Bool, true, false, if◌then◌else◌, []}
use Rattle.std.proofs.Common.{◌∷◌, length, Option, Some, None, inl, inr, refl, subst, arith}
use Rattle.jp_reading.specs.Texts.{Text, Spans}
use Rattle.std.proofs.lemmas.Bool.{cases_Bool}
use Rattle.jp_reading.specs.Outcome.{State, Outcome, took, stuck, deep, ◌>>=◌, head, past}
use Rattle.jp_reading.specs.Outcome.{past_first, skip, take_passing, take_if, loop, each}
use Rattle.jp_reading.specs.Views.{outcome_map}
use Rattle.jp_reading.proofs.Texts.Chars.{past-shorter, skip-shorter}

-- what a rule took from p on leaves a shorter text
abbrev pub Moves : {A : Type 0} → State → Outcome A → Type 0
Moves p (took x q) = length q.rest < length p.rest
Moves p (stuck q) = Unit {0}
Moves p (deep q) = Unit {0}

-- what a rule took from p on leaves no longer text
abbrev pub Keeps : {A : Type 0} → State → Outcome A → Type 0
Keeps p (took x q) = length q.rest ≤ length p.rest
Keeps p (stuck q) = Unit {0}
Keeps p (deep q) = Unit {0}

-- the rule moves wherever it begins
abbrev pub Progress : {A : Type 0} → (State → Outcome A) → Type 0
Progress rule = (p : State) → Moves p (rule p)

pub keeps-from_moves : {A : Type 0} (p : State) (o : Outcome A) → Moves p o → Keeps p o
keeps-from_moves p (took x q) h = omega arith
keeps-from_moves p (stuck q) h = tt
keeps-from_moves p (deep q) h = tt

-- one after the other
pub keeps-then : {A B : Type 0} (p : State) (o : Outcome A) (k : A → State → Outcome B)
    → Keeps p o → ((x : A) (q : State) → Keeps q (k x q)) → Keeps p (o >>= k)
keeps-then p (took x q) k h g = keeps-along p q (k x q) h (g x q)
  where
    keeps-along : {B : Type 0} (p q : State) (o : Outcome B) → length q.rest ≤ length p.rest
        → Keeps q o → Keeps p o
    keeps-along p q (took y r) h g = omega arith
    keeps-along p q (stuck r) h g = tt
    keeps-along p q (deep r) h g = tt
keeps-then p (stuck q) k h g = tt
keeps-then p (deep q) k h g = tt

-- the first moves
pub moves-then : {A B : Type 0} (p : State) (o : Outcome A) (k : A → State → Outcome B)
    → Moves p o → ((x : A) (q : State) → Keeps q (k x q)) → Moves p (o >>= k)
moves-then p (took x q) k h g = moves-along p q (k x q) h (g x q)
  where
    moves-along : {B : Type 0} (p q : State) (o : Outcome B) → length q.rest < length p.rest
        → Keeps q o → Moves p o
    moves-along p q (took y r) h g = omega arith
    moves-along p q (stuck r) h g = tt
    moves-along p q (deep r) h g = tt
moves-then p (stuck q) k h g = tt
moves-then p (deep q) k h g = tt

-- from further on
pub moves-after : {A : Type 0} (p q : State) (o : Outcome A) → length q.rest ≤ length p.rest
    → Moves q o → Moves p o
moves-after p q (took y r) h g = omega arith
moves-after p q (stuck r) h g = tt
moves-after p q (deep r) h g = tt

pub keeps-after : {A : Type 0} (p q : State) (o : Outcome A) → length q.rest ≤ length p.rest
    → Keeps q o → Keeps p o
keeps-after p q (took y r) h g = omega arith
keeps-after p q (stuck r) h g = tt
keeps-after p q (deep r) h g = tt

-- the second moves
pub moves-later : {A B : Type 0} (p : State) (o : Outcome A) (k : A → State → Outcome B)
    → Keeps p o → ((x : A) (q : State) → Moves q (k x q)) → Moves p (o >>= k)
moves-later p (took x q) k h g = moves-after p q (k x q) h (g x q)
moves-later p (stuck q) k h g = tt
moves-later p (deep q) k h g = tt

-- past the next character
pub past-keeps : (p : State) → length (past p).rest ≤ length p.rest
past-keeps p = past_first-keeps p.at p.found p.rest
  where
    past_first-keeps : (at : ℕ) (found : Spans) (t : Text)
        → length (past_first at found t).rest ≤ length t
    past_first-keeps at found [] = omega arith
    past_first-keeps at found (c ∷ t) = omega arith

-- either of two ways
pub moves-if : {A : Type 0} (b : Bool) (p : State) (o u : Outcome A) → (b ≡ true → Moves p o)
    → (b ≡ false → Moves p u)
    → Moves p (if b then o else u)
moves-if true p o u f g = f refl
moves-if false p o u f g = g refl

pub keeps-if : {A : Type 0} (b : Bool) (p : State) (o u : Outcome A) → Keeps p o → Keeps p u
    → Keeps p (if b then o else u)
keeps-if true p o u f g = f
keeps-if false p o u f g = g

-- after blanks
pub moves-skip : {A : Type 0} (p : State) (o : Outcome A) → Moves (skip p) o → Moves p o
moves-skip p o h = moves-after p (skip p) o (skip-shorter p) h

pub keeps-skip : {A : Type 0} (p : State) (o : Outcome A) → Keeps (skip p) o → Keeps p o
keeps-skip p o h = keeps-after p (skip p) o (skip-shorter p) h

-- a character
pub moves-take_if : (ok : ℕ → Bool) (p : State) → Moves p (take_if ok p)
moves-take_if ok p = taken (head p) refl
  where
    taken : (o : Option ℕ) → head p ≡ o → Moves p (take_passing ok p o)
    taken None e = tt
    taken (Some c) e =
        elim (cases_Bool (ok c)) [
          | inl passing ↦ rw passing (past-shorter ok p (rw e passing))
          | inr failing ↦ rw failing tt
        ]

pub keeps-take_if : (ok : ℕ → Bool) (p : State) → Keeps p (take_if ok p)
keeps-take_if ok p = keeps-from_moves p (take_if ok p) (moves-take_if ok p)

-- a value made into another, and a component
pub keeps-map : {A B : Type 0} (f : A → B) (p : State) (o : Outcome A) → Keeps p o → Keeps p (outcome_map f o)
keeps-map f p (took x q) h = h
keeps-map f p (stuck q) h = tt
keeps-map f p (deep q) h = tt

pub moves-map : {A B : Type 0} (f : A → B) (p : State) (o : Outcome A) → Moves p o → Moves p (outcome_map f o)
moves-map f p (took x q) h = h
moves-map f p (stuck q) h = tt
moves-map f p (deep q) h = tt

-- a loop keeps, where each round does
pub keeps-loop : {A : Type 0} (n : ℕ) (begins : State → Bool) (rule : State → Outcome A)
    → ((p : State) → Keeps p (rule p)) → (p : State) → Keeps p (loop n begins rule p)
unfolding loop
keeps-loop zero begins rule h p = omega arith
keeps-loop (suc n) begins rule h p =
    elim (cases_Bool (begins p)) [
      | inl on ↦ rw on (keeps-then p (rule p) _ (h p)
          (λ x q. keeps-then q (loop n begins rule q) _ (keeps-loop n begins rule h q)
          (λ xs r. omega arith)))
      | inr off ↦ rw off (omega arith)
    ]

pub keeps-each : {A : Type 0} (begins : State → Bool) (rule : State → Outcome A)
    → Progress rule → (p : State) → Keeps p (each begins rule p)
keeps-each begins rule h p =
    keeps-loop (suc (length p.rest)) begins rule (λ q. keeps-from_moves q (rule q) (h q)) p

-- where a rule that moves took a value
pub moved : {A : Type 0} (rule : State → Outcome A) → Progress rule → (p q : State) (x : A)
    → rule p ≡ took x q
    → length q.rest < length p.rest
moved rule h p q x e = subst (Moves p) e (h p)
