-- Calls of `read`, one after another. The clauses `call` of `Source::read` and of `Writer::write`
-- and `Input` cite it.
use Rattle.std.specs.Prelude.{◌≡◌, ℕ, ◌<◌, List, [], ◌++◌, length, take, Option, Some, None}
use Rattle.std.specs.Prelude.{Result, Ok, Err}

-- what a read gave to a buffer, or a write took of one: its first bytes, or None where the call
-- failed
abbrev pub bytes_moved : {E : Type 0} → Result ℕ E → List ℕ → Option (List ℕ)
bytes_moved (Ok n) buffer = Some (take n buffer)
bytes_moved (Err e) buffer = None

-- `read_gives k (Some bytes) j` says that one read leads from k to j and gave these bytes
module _ {R : Type 0} (read_gives : R → Option (List ℕ) → R → Type 0) where
  -- bytes came from i on by one read after another, each of which gave some
  pub data ComeByReads (i : R) : R → List ℕ → Type 0 where
    none : ComeByReads i i []
    one_more : (k j : R) (before last bytes : List ℕ) → ComeByReads i k before
        → read_gives k (Some last) j → 0 < length last → bytes ≡ before ++ last
        → ComeByReads i j bytes
