-- What a run has read of its input: a part, all of it, more than it takes, or what came before a
-- read failed. `Run` says with which answer each holds.
use Rattle.std.specs.Prelude.{◌≡◌, ℕ, ◌<◌, ◌≤◌, Bool, true, List, [], ◌++◌, length, Option, Some}
use Rattle.std.specs.Prelude.{None}
use Rattle.std.specs.Io.KnownBytes.{Consumes, IsAtEnd}
use Rattle.jp_command.specs.Limits.{chunk_size, document_limit}
use Rattle.jp_command.specs.Reads.{ComeByReads}

-- i and j are the input before and after, `between` the input before the last read
module _ {R : Type 0} (remaining : R → Option (List ℕ)) (has_failed : R → Bool)
    (read_gives : R → Option (List ℕ) → R → Type 0) where
  -- these bytes came, not more than a document may have, by reads that each gave some; no read
  -- failed
  pub record ReadsSome (i j : R) : Type 0 where
    pub bytes : List ℕ
    pub came : Consumes (remaining i) (remaining j) bytes
    pub few : length bytes ≤ document_limit
    pub works : has_failed j ≡ has_failed i
    pub calls : ComeByReads read_gives i j bytes

  -- the input came to its end with these bytes, not more than a document may have, by reads that
  -- each gave some and one that gave none; no read failed
  pub record ReadsAll (i j : R) (bytes : List ℕ) : Type 0 where
    pub came : Consumes (remaining i) (remaining j) bytes
    pub ended : IsAtEnd (remaining j)
    pub few : length bytes ≤ document_limit
    pub works : has_failed j ≡ has_failed i
    pub between : R
    pub calls : ComeByReads read_gives i between bytes
    pub last : read_gives between (Some []) j

  -- more bytes came than a document may have, by reads that each gave some: not more than that
  -- before the last of them, which gave at most a chunk; no read failed
  pub record ReadsTooMuch (i j : R) : Type 0 where
    pub before : List ℕ
    pub rest : List ℕ
    pub came : Consumes (remaining i) (remaining j) (before ++ rest)
    pub few : length before ≤ document_limit
    pub many : document_limit < length (before ++ rest)
    pub small : length rest ≤ chunk_size
    pub works : has_failed j ≡ has_failed i
    pub between : R
    pub calls : ComeByReads read_gives i between before
    pub last : read_gives between (Some rest) j

  -- a read failed (the input tells so, and where it told of no failure before, the read is of this
  -- run), and before it came no more bytes than a document may have, by reads that each gave some
  pub record FailsToRead (i j : R) : Type 0 where
    pub bytes : List ℕ
    pub came : Consumes (remaining i) (remaining j) bytes
    pub few : length bytes ≤ document_limit
    pub fails : has_failed j ≡ true
    pub between : R
    pub calls : ComeByReads read_gives i between bytes
    pub last : read_gives between None j
