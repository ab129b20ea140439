-- Kinds of hexadecimal digits (RFC 9535 section 2.3.1.1).
use Rattle.std.specs.Prelude.{◌≡◌, ℕ, ◌/◌, ◌%◌, ◌<◌, Bool, true, not, ◌&&◌, nat_le, nat_lt, ◌==◌}
use Rattle.jp_query.specs.declared.strings.HexDigit.{HexDigit}
use Rattle.jp_query.specs.declared.strings.HexDigit.TheVariants.{Any, NotD, D, UpTo7, EightToB}
use Rattle.jp_query.specs.declared.strings.HexDigit.TheVariants.{FromC}
use Rattle.jp_query.specs.Strings.{is_hexdig, is_not_d, is_d, is_0_to_7, is_8_to_b, is_c_to_f}

-- whether a character is a digit of the kind
abbrev pub is_one_of : HexDigit → ℕ → Bool
is_one_of Any = is_hexdig
is_one_of NotD = is_not_d
is_one_of D = is_d
is_one_of UpTo7 = is_0_to_7
is_one_of EightToB = is_8_to_b
is_one_of FromC = is_c_to_f

-- whether a digit of that value is of the kind
abbrev pub holds_value : HexDigit → ℕ → Bool
holds_value Any v = nat_lt v 16
holds_value NotD v = nat_lt v 16 && not (v == 13)
holds_value D v = v == 13
holds_value UpTo7 v = nat_lt v 8
holds_value EightToB v = nat_le 8 v && nat_lt v 12
holds_value FromC v = nat_le 12 v && nat_lt v 16

-- four hexadecimal digits write it, of which the first has the value a and the second is of this
-- kind
pub record IsUnitAfter (a : ℕ) (second : HexDigit) (v : ℕ) : Type 0 where
  pub fits : v < 65536
  pub one : v / 4096 ≡ a
  pub two : holds_value second (v / 256 % 16) ≡ true

-- four hexadecimal digits write it, of which the first two are of these kinds
pub record IsUnitOf (first second : HexDigit) (v : ℕ) : Type 0 where
  pub fits : v < 65536
  pub one : holds_value first (v / 4096) ≡ true
  pub two : holds_value second (v / 256 % 16) ≡ true
