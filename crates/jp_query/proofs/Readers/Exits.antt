-- The exit of a `?`.
use Rattle.std.proofs.Common.{◌≡◌, Result, Ok, Err, ap}
use Rattle.std.specs.Prelude.{IsErrAnd}

-- the error that is handed on
pub err_is : {T E : Type 0} {e : E} (r : Result T E) → IsErrAnd r (λ y. y ≡ e) → r ≡ Err e
err_is (Ok x) h = absurd h
err_is (Err y) h = ap (λ z. Err z) h
