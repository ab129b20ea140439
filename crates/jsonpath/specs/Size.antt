-- How many bytes a document may have.
use Rattle.std.specs.Prelude.{ℕ, ◌^◌, ◌<◌, ◌≤◌, List, length}

-- the tables that a document is read into number its bytes by 32 bits
abbrev pub too_many_bytes : ℕ
too_many_bytes = 2 ^ 32

-- the bytes are few enough for a document
abbrev pub Fits : List ℕ → Type 0
Fits bytes = length bytes < too_many_bytes

-- the bytes are too many for a document
abbrev pub IsTooLarge : List ℕ → Type 0
IsTooLarge bytes = too_many_bytes ≤ length bytes
