-- The limits of a run, which `Run` and `Input` cite. The constants of the same names in the code
-- are these numbers.
use Rattle.std.specs.Prelude.{ℕ}

-- the most bytes that a query may have
abbrev pub query_limit : ℕ
query_limit = 1048576

-- the most bytes that a document may have
abbrev pub document_limit : ℕ
document_limit = 16777216

-- the most bytes that one read may give
abbrev pub chunk_size : ℕ
chunk_size = 65536
