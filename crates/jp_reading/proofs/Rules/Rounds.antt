-- A loop in code keeps what the loop of its rule would still make of what it holds.
use Rattle.std.proofs.Common.{◌≡◌, ℕ, ◌<◌, true, false, List, [], ◌∷◌, ◌++◌, length, Bool}
use Rattle.jp_reading.specs.declared.reader.Stop.{Stop}
use Rattle.jp_reading.specs.Outcome.{State, took, passes}
use Rattle.jp_reading.specs.Views.{Fails, with_prefix}
use Rattle.jp_reading.specs.Rule.{Look, Nesting, Rule, some}
use Rattle.jp_reading.specs.RuleReading.{InnerReader, next, read}
use Rattle.jp_reading.proofs.States.Progress.{Progress, moved}
use Rattle.jp_reading.proofs.States.Folds.{pushes_on, pushes_end, folds_fail}
use Rattle.jp_reading.proofs.Rules.Progress.{goes}

module _ {N : Nesting} {A : Type 0} (inner : InnerReader N) (moves : (o : N.Opening) → Progress (inner o))
    (m : Look) (ok : ℕ → Bool) (r : Rule N true m m A) where
  -- another value
  pub some_on : (p q : State) (xs : List A) (x : A) → passes ok (next m p) ≡ true
      → read inner r p ≡ took x q
      → with_prefix xs (read inner (some m ok r) p) ≡ with_prefix (xs ++ x ∷ [])
      (read inner (some m ok r) q)
  some_on p q xs x on e =
      pushes_on (λ s. passes ok (next m s)) (λ s. read inner r s) (λ s. goes inner moves r s) xs p q
      x on e

  -- no value more
  pub some_end : (p : State) (xs : List A) → passes ok (next m p) ≡ false
      → with_prefix xs (read inner (some m ok r) p) ≡ took xs p
  some_end p xs off = pushes_end (λ s. passes ok (next m s)) (λ s. read inner r s) xs p off

  -- another that fails
  pub some_fail : (p : State) (xs : List A) (e : Stop) → passes ok (next m p) ≡ true
      → Fails e (read inner r p)
      → Fails e (with_prefix xs (read inner (some m ok r) p))
  some_fail p xs e on failed =
      folds_fail (λ s. passes ok (next m s)) (λ s. read inner r s) (λ s. goes inner moves r s)
      (λ ys. xs ++ ys) p e on failed

  -- another leaves a shorter text
  pub some-smaller : (p q : State) (x : A) → read inner r p ≡ took x q
      → length q.rest < length p.rest
  some-smaller p q x e = moved (λ s. read inner r s) (λ s. goes inner moves r s) p q x e
