-- The texts of numbers and the numbers that they write, rule by rule (RFC 8259 section 6).
use Rattle.std.specs.Prelude.{ℕ, ◌≡◌, ◌<◌, ◌≤◌, List, [], ◌∷◌, ◌++◌, length, ℤ, pos, ◌-ℤ◌, Bool}
use Rattle.std.specs.Prelude.{true, false, ◌⊎◌}
use Rattle.std.specs.Fmt.{sign_text}
use Rattle.std.specs.Str.Parse.{AllDigits, digits_value}
use Rattle.fast_float.specs.Text.{with_sign}
use Rattle.jp_reading.specs.Characters.{capital_e, digit_nine, digit_one, digit_zero, dot, letter_e}
use Rattle.jp_reading.specs.Characters.{minus, plus}
use Rattle.jp_decimal.specs.Scaled.{Scaled}

-- 1*DIGIT
pub record AreDigits (t : List ℕ) : Type 0 where
  pub some : 0 < length t
  pub all : AllDigits 10 t

-- int = zero / ( digit1-9 *DIGIT )
abbrev pub IsInt : List ℕ → Type 0
IsInt t =
    (t ≡ digit_zero ∷ [])
    ⊎ ((c : ℕ) × (more : List ℕ) × (t ≡ c ∷ more) × (digit_one ≤ c) × (c ≤ digit_nine)
    × AllDigits 10 more)

-- frac = decimal-point 1*DIGIT, or nothing; and its digits
abbrev pub IsFrac : List ℕ → List ℕ → Type 0
IsFrac t ds = ((t ≡ []) × (ds ≡ [])) ⊎ ((t ≡ dot ∷ ds) × AreDigits ds)

-- [ minus / plus ]
pub data Sign : Type 0 where
  no_sign : Sign
  plus_sign : Sign
  minus_sign : Sign

abbrev pub text_of_sign : Sign → List ℕ
text_of_sign no_sign = []
text_of_sign plus_sign = plus ∷ []
text_of_sign minus_sign = minus ∷ []

abbrev pub is_minus : Sign → Bool
is_minus no_sign = false
is_minus plus_sign = false
is_minus minus_sign = true

-- exp = e [ minus / plus ] 1*DIGIT, and the power that it writes
pub record IsExp (t : List ℕ) (z : ℤ) : Type 0 where
  pub e : ℕ
  pub is_e : (e ≡ letter_e) ⊎ (e ≡ capital_e)
  pub sign : Sign
  pub digits : List ℕ
  pub is : t ≡ e ∷ (text_of_sign sign ++ digits)
  pub are_digits : AreDigits digits
  pub value : z ≡ with_sign (is_minus sign) (digits_value 10 digits)

-- number = [ minus ] int [ frac ] [ exp ], and the number that it writes: its digits as one whole
-- number, times ten to the exponent less one for each digit behind the point
pub record Writes (t : List ℕ) (x : Scaled) : Type 0 where
  pub negative : Bool
  pub int : List ℕ
  pub frac : List ℕ
  pub fraction : List ℕ
  pub exp : List ℕ
  pub power : ℤ
  pub is : t ≡ sign_text negative ++ (int ++ (frac ++ exp))
  pub is_int : IsInt int
  pub is_frac : IsFrac frac fraction
  pub is_exp : ((exp ≡ []) × (power ≡ pos 0)) ⊎ IsExp exp power
  pub coefficient : x.coefficient ≡ with_sign negative (digits_value 10 (int ++ fraction))
  pub exponent : x.exponent ≡ power -ℤ pos (length fraction)
