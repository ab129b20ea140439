-- How the bytes of an input came: by reads of which none came after the end or a failure. `Run` says
-- with which answer each holds.
use Rattle.std.specs.Prelude.{◌≡◌, ℕ, ◌<◌, ◌≤◌, Bool, true, false, List, [], ◌++◌, length, Option}
use Rattle.std.specs.Prelude.{Some, None}
use Rattle.std.specs.Io.KnownBytes.{Consumes, IsAtEnd}
use Rattle.jp_command.specs.Limits.{chunk_size}
use Rattle.jp_command.specs.Reads.{ComeByReads}

-- i and j are the input before and after, `between` the input before the last read
module _ {R : Type 0} (remaining : R → Option (List ℕ)) (has_failed : R → Bool)
    (read_gives : R → Option (List ℕ) → R → Type 0) where
  -- these bytes came, by reads that each gave some; no read failed
  pub record ReadsSome (i j : R) (bytes : List ℕ) : Type 0 where
    pub came : Consumes (remaining i) (remaining j) bytes
    pub works : has_failed j ≡ has_failed i
    pub calls : ComeByReads read_gives i j bytes

  -- some came, and then the rest, by one read that gave at most a chunk; no read failed
  pub record ReadsMore (i j : R) (before rest : List ℕ) : Type 0 where
    pub came : Consumes (remaining i) (remaining j) (before ++ rest)
    pub works : has_failed j ≡ has_failed i
    pub between : R
    pub calls : ComeByReads read_gives i between before
    pub last : read_gives between (Some rest) j
    pub some : 0 < length rest
    pub small : length rest ≤ chunk_size

  -- these bytes came, and then a read gave none: the input came to its end
  pub record ReadsToEnd (i j : R) (bytes : List ℕ) : Type 0 where
    pub came : Consumes (remaining i) (remaining j) bytes
    pub ended : IsAtEnd (remaining j)
    pub works : has_failed j ≡ has_failed i
    pub between : R
    pub calls : ComeByReads read_gives i between bytes
    pub last : read_gives between (Some []) j

  -- these bytes came, and then a read failed
  pub record ReadsToFailure (i j : R) (bytes : List ℕ) : Type 0 where
    pub came : Consumes (remaining i) (remaining j) bytes
    pub fails : has_failed j ≡ true
    pub between : R
    pub calls : ComeByReads read_gives i between bytes
    pub last : read_gives between None j

  -- What came before the last read and what that read gave, and whether it was at the input's end,
  -- where it gives nothing. The first is: all came before, and no read was made after that.
  pub data HasRead (i j : R) (before rest : List ℕ) : Bool → Type 0 where
    so_far : rest ≡ [] → ReadsSome i j before → HasRead i j before rest false
    by_one_more : ReadsMore i j before rest → HasRead i j before rest false
    to_end : rest ≡ [] → ReadsToEnd i j before → HasRead i j before rest true
