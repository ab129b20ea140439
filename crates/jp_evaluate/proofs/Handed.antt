-- What goes from one evaluation to the next.
use Rattle.std.proofs.Common.{◌≡◌, Bool, List, [], ◌∷◌, filter, inl, inr, refl, ap}
use Rattle.std.proofs.lemmas.Bool.{cases_Bool}

-- to choose twice by one test is to choose once
pub filter-twice : {X : Type 0} (test : X → Bool) (xs : List X)
    → filter test (filter test xs) ≡ filter test xs
filter-twice test [] = refl
filter-twice test (x ∷ xs) =
    elim (cases_Bool (test x)) [
      | inl e ↦ rw e (rw e (ap (λ ys. x ∷ ys) (filter-twice test xs)))
      | inr e ↦ rw e (filter-twice test xs)
    ]
