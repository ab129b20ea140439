-- Texts with a caret.
use Rattle.std.proofs.Common.{◌≡◌, ℕ, List, Result, Ok, Err, IfOk, String, ap, ◌∙◌, string_bytes}
use Rattle.std.specs.declared.alloc.AllocError.{AllocError}
use Rattle.std.specs.declared.alloc.Global.{Global}

-- a text that is known for each column is known for the column that there is
pub at_column : {P : Type 0} (f : ℕ → List ℕ) (n m : ℕ) (r : Result (String Global) AllocError)
    → IfOk r (λ t. string_bytes t ≡ f n) → (P → n ≡ m) → IfOk r (λ t. P → string_bytes t ≡ f m)
at_column f n m (Ok t) is same = λ p. is ∙ ap f (same p)
at_column f n m (Err e) is same = tt
