-- The whole numbers of queries (RFC 9535 section 2.3.3.1).
use Rattle.std.specs.Prelude.{◌≡◌, ℕ, ◌^◌, pos, neg_ℤ, nat_le, nat_lt, if◌then◌else◌}
use Rattle.std.specs.Prelude.{◌∷◌, None, codes}
use Rattle.jp_tree.specs.declared.tree.Numeral.{Numeral}
use Rattle.jp_tree.specs.declared.tree.Numeral.TheVariants.{Whole, Beyond}
use Rattle.jp_reading.specs.Texts.{Text, Spans}
use Rattle.jp_reading.specs.Forms.{Form, word, One, ◌⌢◌, Each}
use Rattle.jp_reading.specs.Numbers.{is_digit, value_from, is_leading_digit}

-- the whole number of that size, or that it is outside -(2^63) to (2^64)-1
abbrev pub whole_of : ℕ → Numeral
whole_of size = if nat_lt size (2 ^ 64) then Whole (pos size) else Beyond None

-- the same for the number below zero of that size
abbrev pub negative_of : ℕ → Numeral
negative_of size = if nat_le size (2 ^ 63) then Whole (neg_ℤ (pos size)) else Beyond None

-- DIGIT1 *DIGIT: the digits c and more, without a leading zero
abbrev pub Unsigned : ℕ → Text → Form
Unsigned c more = One is_leading_digit c ⌢ Each (One is_digit) more

-- int (section 2.3.3.1): a zero, or digits without a leading zero and a `-` before them or none
pub data Int (x : Numeral) (s : Spans) (o : ℕ) (t : Text) : Type 0 where
  zero_int : x ≡ whole_of 0 → word (codes "0") s o t → Int x s o t
  positive_int : (c : ℕ) (more : Text) → x ≡ whole_of (value_from 0 (c ∷ more))
      → Unsigned c more s o t → Int x s o t
  negative_int : (c : ℕ) (more : Text) → x ≡ negative_of (value_from 0 (c ∷ more))
      → (word (codes "-") ⌢ Unsigned c more) s o t → Int x s o t
