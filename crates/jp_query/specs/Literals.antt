-- Literals, and the operators of comparisons (RFC 9535 section 2.3.5.1).
use Rattle.std.specs.Prelude.{◌≡◌, ℕ, Bool, true, false, ◌||◌, ◌==◌, if◌then◌else◌, [], codes}
use Rattle.std.specs.Prelude.{Option, Some, None}
use Rattle.jp_decimal.specs.NormalForm.{normal_form}
use Rattle.jp_decimal.specs.TextValue.{value_of_text}
use Rattle.jp_decimal.specs.declared.number.Decimal.{Decimal}
use Rattle.jp_decimal.specs.declared.number.Number.{Number as HeldNumber}
use Rattle.jp_decimal.specs.declared.number.Number.TheVariants.{Decimal as AsDecimal}
use Rattle.jp_tree.specs.declared.tree.Numeral.{Numeral}
use Rattle.jp_tree.specs.declared.tree.Numeral.TheVariants.{Whole, Beyond, Fraction}
use Rattle.jp_tree.specs.declared.tree.Op.{Op}
use Rattle.jp_tree.specs.declared.tree.Op.TheVariants.{Equal, Unequal, Less, LessEqual, Greater}
use Rattle.jp_tree.specs.declared.tree.Op.TheVariants.{GreaterEqual}
use Rattle.jp_reading.specs.Texts.{Text, Spans}
use Rattle.jp_reading.specs.Forms.{Form, word, One, ◌⌢◌, Each}
use Rattle.jp_reading.specs.Numbers.{is_digit}
use Rattle.jp_tree.specs.Tree.{LiteralTree, number as number_literal, text, true_literal}
use Rattle.jp_tree.specs.Tree.{false_literal, null_literal}
use Rattle.jp_query.specs.Ints.{Int, whole_of}
use Rattle.jp_query.specs.Strings.{Quoted}
use Rattle.jp_reading.specs.Characters.{plus, minus, letter_e, capital_e}

-- a text of the form, or no text (RFC 5234 section 3.8)
pub data Optional (P : Form) (there : Bool) (s : Spans) (o : ℕ) (t : Text) : Type 0 where
  left_out : there ≡ false → word [] s o t → Optional P there s o t
  written : there ≡ true → P s o t → Optional P there s o t

-- 1*DIGIT: the digit c and more
abbrev pub DigitSequence : ℕ → Text → Form
DigitSequence c more = One is_digit c ⌢ Each (One is_digit) more

-- frac: a dot and digits
pub data Decimals (s : Spans) (o : ℕ) (t : Text) : Type 0 where
  decimals : (c : ℕ) (more : Text) → (word (codes ".") ⌢ DigitSequence c more) s o t
      → Decimals s o t

-- an `e` of either case; a sign
abbrev pub is_e : ℕ → Bool
is_e c = (c == letter_e) || (c == capital_e)

abbrev pub is_sign : ℕ → Bool
is_sign c = (c == plus) || (c == minus)

-- exp: an `e`, a sign or none, and digits
pub data Exponent (s : Spans) (o : ℕ) (t : Text) : Type 0 where
  unsigned : (e c : ℕ) (more : Text) → (One is_e e ⌢ DigitSequence c more) s o t → Exponent s o t
  signed : (e sign c : ℕ) (more : Text)
      → (One is_e e ⌢ One is_sign sign ⌢ DigitSequence c more) s o t → Exponent s o t

-- int / "-0": zero may have a sign here, and is 0 then too
pub data Mantissa (x : Numeral) (s : Spans) (o : ℕ) (t : Text) : Type 0 where
  whole : Int x s o t → Mantissa x s o t
  minus_zero : x ≡ whole_of 0 → word (codes "-0") s o t → Mantissa x s o t

-- the number that the text of a number writes (RFC 8259 section 6, whose numbers are the same texts),
-- in the form that numbers are held in, if it can be held
abbrev pub number_in : Text → Option HeldNumber
number_in t = normal_form (value_of_text t)

-- the decimal that a number is, if it is one
abbrev pub decimal_in : Option HeldNumber → Option Decimal
decimal_in (Some (AsDecimal d)) = Some d
decimal_in _ = None

-- a whole number of 64 bits is that, and another one the decimal that is written
abbrev pub integer : Numeral → Option HeldNumber → Numeral
integer (Whole z) n = Whole z
integer _ n = Beyond (decimal_in n)

-- what a number is held as: one with a fraction or an exponent by what is written, also where that is
-- a whole number
abbrev pub numeral : Numeral → Bool → Bool → Option HeldNumber → Numeral
numeral x has_decimals has_exponent n =
    if has_decimals || has_exponent then Fraction n else integer x n

-- number: (int / "-0") [ frac ] [ exp ]
pub data Number (x : Numeral) (s : Spans) (o : ℕ) (t : Text) : Type 0 where
  number : (y : Numeral) (has_decimals has_exponent : Bool)
      → x ≡ numeral y has_decimals has_exponent (number_in t)
      → (Mantissa y ⌢ Optional Decimals has_decimals ⌢ Optional Exponent has_exponent) s o t
      → Number x s o t

-- literal: a number, a string, or one of the words true, false, null
pub data Literal (x : LiteralTree) (s : Spans) (o : ℕ) (t : Text) : Type 0 where
  of_number : (n : Numeral) → x ≡ number_literal n → Number n s o t → Literal x s o t
  of_text : (cs : Text) → x ≡ text cs → Quoted cs s o t → Literal x s o t
  of_true : x ≡ true_literal → word (codes "true") s o t → Literal x s o t
  of_false : x ≡ false_literal → word (codes "false") s o t → Literal x s o t
  of_null : x ≡ null_literal → word (codes "null") s o t → Literal x s o t

-- comparison-op: ==, !=, <, <=, >, >=
abbrev pub spelling : Op → Text
spelling Equal = codes "=="
spelling Unequal = codes "!="
spelling Less = codes "<"
spelling LessEqual = codes "<="
spelling Greater = codes ">"
spelling GreaterEqual = codes ">="
