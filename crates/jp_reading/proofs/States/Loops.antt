-- How loops go on and end.
use Rattle.std.proofs.Common.{◌≡◌, ℕ, zero, suc, ◌<◌, Bool, true, false, List, [], ◌∷◌, length, inl}
use Rattle.std.proofs.Common.{inr, refl, ap, arith}
use Rattle.std.proofs.lemmas.Bool.{cases_Bool}
use Rattle.jp_reading.specs.Outcome.{State, Outcome, took, stuck, deep, ◌>>=◌, loop, each}
use Rattle.jp_reading.proofs.States.Progress.{Moves, Progress}

-- a round and the rest of the loop
abbrev pub round : {A : Type 0} → Outcome A → (State → Outcome (List A)) → Outcome (List A)
round o f = o >>= λ x q. f q >>= λ xs r. took (x ∷ xs) r

round-same : {A : Type 0} (p : State) (o : Outcome A) (f g : State → Outcome (List A))
    → Moves p o → ((q : State) → length q.rest < length p.rest → f q ≡ g q) → round o f ≡ round o g
round-same p (took x q) f g h e = ap (λ o. o >>= λ xs r. took (x ∷ xs) r) (e q h)
round-same p (stuck q) f g h e = refl
round-same p (deep q) f g h e = refl

-- more rounds than characters are as good as any other such number
pub loop-same : {A : Type 0} (n m : ℕ) (begins : State → Bool) (rule : State → Outcome A)
    → Progress rule → (p : State)
    → length p.rest < n → length p.rest < m → loop n begins rule p ≡ loop m begins rule p
unfolding loop
loop-same zero m begins rule h p a b = absurd (omega arith)
loop-same (suc n) zero begins rule h p a b = absurd (omega arith)
loop-same (suc n) (suc m) begins rule h p a b =
    elim (cases_Bool (begins p)) [
      | inl on ↦ rw on (round-same p (rule p) (loop n begins rule) (loop m begins rule) (h p)
          (λ q less. loop-same n m begins rule h q (omega arith) (omega arith)))
      | inr off ↦ rw off refl
    ]

-- a loop goes on where another begins
pub each-on : {A : Type 0} (begins : State → Bool) (rule : State → Outcome A) → Progress rule
    → (p : State)
    → begins p ≡ true → each begins rule p ≡ round (rule p) (each begins rule)
unfolding loop
each-on begins rule h p on =
    rw on (round-same p (rule p) (loop (length p.rest) begins rule) (each begins rule) (h p)
    (λ q less. loop-same (length p.rest) (suc (length q.rest)) begins rule h q less (omega arith)))

-- and ends where none does
pub each-off : {A : Type 0} (begins : State → Bool) (rule : State → Outcome A) (p : State)
    → begins p ≡ false → each begins rule p ≡ took [] p
unfolding loop
each-off begins rule p off = rw off refl
