-- Digits, the numbers that they write in base ten, and the greatest of the exact ones.
use Rattle.std.specs.Prelude.{◌≡◌, ℕ, ◌+◌, ◌-◌, ◌*◌, ◌^◌, ◌<◌, nat_le, Bool, ◌&&◌, [], ◌∷◌, length}
use Rattle.jp_reading.specs.Characters.{digit_nine, digit_one, digit_zero}
use Rattle.jp_reading.specs.Texts.{Text, Spans}
use Rattle.jp_reading.specs.Forms.{AllPassing}

-- whether a character is one of 0 to 9 (RFC 5234 appendix B.1, DIGIT)
unfoldable pub is_digit : ℕ → Bool
is_digit c = nat_le digit_zero c && nat_le c digit_nine

-- whether a character is one of 1 to 9 (RFC 9535 section 2.3.3.1, DIGIT1)
abbrev pub is_leading_digit : ℕ → Bool
is_leading_digit c = nat_le digit_one c && nat_le c digit_nine

-- the number that the digits write, after what the digits before them write
abbrev pub value_from : ℕ → Text → ℕ
value_from n [] = n
value_from n (d ∷ ds) = value_from (n * 10 + (d - digit_zero)) ds

-- the greatest of the whole numbers that are exact as IEEE 754 doubles, with all below them (RFC 7493
-- section 2.2, RFC 9535 section 2.1)
abbrev pub largest_exact : ℕ
largest_exact = 2 ^ 53 - 1

-- one digit or more
pub record Digits (ds : Text) (s : Spans) (o : ℕ) (t : Text) : Type 0 where
  pub none : s ≡ []
  pub is : t ≡ ds
  pub digits : AllPassing is_digit ds
  pub some : 0 < length ds
