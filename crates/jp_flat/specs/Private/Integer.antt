-- Whole numbers as characters of JSON (RFC 8259 section 6).
use Rattle.std.specs.Prelude.{◌≡◌, ℕ, ℤ, List, Some}
use Rattle.jp_document.specs.Value.{whole}
use Rattle.jp_document.specs.NumberTexts.{whole_number}

-- the characters write the whole number z
pub record IsWholeText (s : List ℕ) (z : ℤ) : Type 0 where
  pub is : whole_number s ≡ Some (whole z)
