-- What a reading function promises: its answer and its reader are what the rule does.
use Rattle.std.specs.Prelude.{◌≡◌, ℕ, List, ◌++◌, Result, Ok, Err}
use Rattle.jp_reading.specs.declared.reader.Stop.{Stop}
use Rattle.jp_reading.specs.declared.reader.Stop.TheVariants.{Memory, Syntax, TooDeep}
use Rattle.jp_reading.specs.Outcome.{State, Outcome, took, stuck, deep, ◌>>=◌}

-- the rule is stuck at this byte
abbrev pub IsStuckAt : {A : Type 0} → ℕ → Outcome A → Type 0
IsStuckAt n (took x p) = ⊥
IsStuckAt n (stuck p) = n ≡ p.at
IsStuckAt n (deep p) = ⊥

-- the rule would need a level more at this byte
abbrev pub IsDeepAt : {A : Type 0} → ℕ → Outcome A → Type 0
IsDeepAt n (took x p) = ⊥
IsDeepAt n (stuck p) = ⊥
IsDeepAt n (deep p) = n ≡ p.at

-- the function stops for the reason and at the byte for which the rule does; running out of memory
-- says nothing
abbrev pub Fails : {A : Type 0} → Stop → Outcome A → Type 0
Fails Memory o = Unit {0}
Fails (Syntax n) o = IsStuckAt n o
Fails (TooDeep n) o = IsDeepAt n o

-- the function answers what the rule took, seen through the view, with its reader where the rule
-- goes on; or it fails as the rule does
abbrev pub Gives : {A B : Type 0} → (A → B) → Result A Stop → State → Outcome B → Type 0
Gives view (Ok x) p o = o ≡ took (view x) p
Gives view (Err e) p o = Fails e o

-- the rule with its value made into another
abbrev pub outcome_map : {A B : Type 0} → (A → B) → Outcome A → Outcome B
outcome_map f o = o >>= λ x p. took (f x) p

-- the rule's list after another
abbrev pub with_prefix : {A : Type 0} → List A → Outcome (List A) → Outcome (List A)
with_prefix xs o = outcome_map (λ ys. xs ++ ys) o
