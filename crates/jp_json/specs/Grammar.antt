-- JSON texts, rule by rule (RFC 8259 sections 2 to 7).
use Rattle.std.specs.Prelude.{ℕ, zero, suc, Bool, ◌&&◌, ◌||◌, ◌==◌, not, nat_le}
use Rattle.std.specs.Prelude.{[], ◌∷◌, codes}
use Rattle.jp_reading.specs.Characters.{backslash, capital_a, capital_e, closing_brace}
use Rattle.jp_reading.specs.Characters.{closing_bracket, colon, comma, digit_zero, dot, double_quote}
use Rattle.jp_reading.specs.Characters.{letter_a, letter_b, letter_e, letter_f, letter_n, letter_r}
use Rattle.jp_reading.specs.Characters.{letter_t, letter_u, minus, opening_brace, opening_bracket}
use Rattle.jp_reading.specs.Characters.{plus, slash, space}
use Rattle.jp_reading.specs.Forms.{AllPassing}
use Rattle.jp_reading.specs.Numbers.{is_digit, is_leading_digit}
use Rattle.jp_reading.specs.Texts.{Text, is_blank}
use Rattle.jp_json.specs.Language.{Language, word, One, ◌⌢◌, Either, Optional, Times, Any}

-- ---- RFC 8259 section 2: blanks, and the six structural characters

-- ws = *( space / tab / line feed / carriage return )
abbrev pub blanks : Language
blanks = AllPassing is_blank

-- begin-array, begin-object, end-array, end-object, name-separator, value-separator = ws c ws
abbrev pub structural : ℕ → Language
structural c = blanks ⌢ word (c ∷ []) ⌢ blanks

-- P *( value-separator P )
abbrev pub separated : Language → Language
separated P = P ⌢ Any (structural comma ⌢ P)

-- ---- RFC 8259 section 7: strings

-- unescaped = %x20-21 / %x23-5B / %x5D-10FFFF
abbrev pub is_unescaped : ℕ → Bool
is_unescaped c = nat_le space c && not (c == double_quote) && not (c == backslash)

-- the characters that stand after a backslash alone: " \ / b f n r t
abbrev pub is_escapable : ℕ → Bool
is_escapable c =
    c == double_quote || c == backslash || c == slash || c == letter_b || c == letter_f || c == letter_n
    || c == letter_r || c == letter_t

-- HEXDIG, of either case (RFC 5234 appendix B.1)
abbrev pub is_hex_digit : ℕ → Bool
is_hex_digit c =
    is_digit c || (nat_le capital_a c && nat_le c 70) || (nat_le letter_a c && nat_le c letter_f)

-- escape ( " / \ / / / b / f / n / r / t / u 4HEXDIG )
abbrev pub escaped : Language
escaped =
    word (backslash ∷ [])
    ⌢ Either (One is_escapable) (word (letter_u ∷ []) ⌢ Times 4 (One is_hex_digit))

-- char = unescaped / escape ..
abbrev pub char : Language
char = Either (One is_unescaped) escaped

-- string = quotation-mark *char quotation-mark
abbrev pub string : Language
string = word (double_quote ∷ []) ⌢ Any char ⌢ word (double_quote ∷ [])

-- ---- RFC 8259 section 6: numbers

-- *DIGIT
abbrev pub digits : Language
digits = AllPassing is_digit

-- 1*DIGIT
abbrev pub some_digits : Language
some_digits = One is_digit ⌢ digits

-- int = zero / ( digit1-9 *DIGIT )
abbrev pub int : Language
int = Either (word (digit_zero ∷ [])) (One is_leading_digit ⌢ digits)

-- frac = decimal-point 1*DIGIT
abbrev pub frac : Language
frac = word (dot ∷ []) ⌢ some_digits

-- e = %x65 / %x45, and the signs
abbrev pub is_e : ℕ → Bool
is_e c = c == letter_e || c == capital_e

abbrev pub is_sign : ℕ → Bool
is_sign c = c == minus || c == plus

-- exp = e [ minus / plus ] 1*DIGIT
abbrev pub exp : Language
exp = One is_e ⌢ Optional (One is_sign) ⌢ some_digits

-- number = [ minus ] int [ frac ] [ exp ]
abbrev pub number : Language
number = Optional (word (minus ∷ [])) ⌢ int ⌢ Optional frac ⌢ Optional exp

-- ---- RFC 8259 sections 3 to 5: values, over the values one level further in

-- false / null / true
abbrev pub literal_name : Language
literal_name = Either (word (codes "false")) (Either (word (codes "null")) (word (codes "true")))

-- member = string name-separator value
abbrev pub member : Language → Language
member value = string ⌢ structural colon ⌢ value

-- object = begin-object [ member *( value-separator member ) ] end-object
abbrev pub object : Language → Language
object value =
    structural opening_brace ⌢ Optional (separated (member value)) ⌢ structural closing_brace

-- array = begin-array [ value *( value-separator value ) ] end-array
abbrev pub array : Language → Language
array value =
    structural opening_bracket ⌢ Optional (separated value) ⌢ structural closing_bracket

-- the values that are neither
abbrev pub scalar : Language
scalar = Either literal_name (Either number string)

-- a value whose arrays and objects are at most n levels inside one another
abbrev pub value : ℕ → Language
value zero = scalar
value (suc n) = Either scalar (Either (array (value n)) (object (value n)))

-- ---- RFC 8259 section 2: JSON-text = ws value ws

-- a JSON text of at most n levels
abbrev pub json_text : ℕ → Language
json_text n = blanks ⌢ value n ⌢ blanks

-- a JSON text, of whatever levels
abbrev pub IsJsonText : Text → Type 0
IsJsonText t = (n : ℕ) × json_text n t
