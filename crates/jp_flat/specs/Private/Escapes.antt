-- What stands for other characters in a text between quotes (RFC 8259 section 7).
use Rattle.std.specs.Prelude.{◌≡◌, ◌+◌, ◌-◌, ◌<◌, ◌≤◌, ℕ, List, Some, drop, length, slice_index}
use Rattle.std.specs.Char.{encode_utf8}
use Rattle.json.specs.Text.{Within, code_unit, content, plain, prepend}

-- with what was read so far, the content from one offset on is that from the other on with what is
-- read up to there
pub record GoesOn (d before : List ℕ) (from : ℕ) (after : List ℕ) (to : ℕ) : Type 0 where
  pub within : to ≤ length d
  pub after_from : from ≤ to
  pub reads :
      prepend before (content plain (drop from d)) ≡ prepend after (content plain (drop to d))

-- the content from one offset on begins with the character and goes on at the other, behind an
-- ASCII byte
pub record IsEscape (d : List ℕ) (w : Within) (from c to : ℕ) : Type 0 where
  pub within : to ≤ length d
  pub after_from : from < to
  pub reads : content w (drop from d) ≡ prepend (encode_utf8 c) (content plain (drop to d))
  pub ascii : slice_index d (to - 1) < 128

-- an escape stands from one offset on up to the other
pub record IsPastEscape (d : List ℕ) (from to : ℕ) : Type 0 where
  pub character : ℕ
  pub is : IsEscape d plain from character to

-- the four bytes from the offset on are hexadecimal digits of the code unit
pub record IsCodeUnit (d : List ℕ) (from u : ℕ) : Type 0 where
  pub within : from + 4 ≤ length d
  pub spelled :
      code_unit (slice_index d from) (slice_index d (from + 1)) (slice_index d (from + 2))
      (slice_index d (from + 3)) ≡ Some u
  pub small : u < 65536
  pub ascii : slice_index d (from + 3) < 128
