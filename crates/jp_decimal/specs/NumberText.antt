-- The text that a number is written as, of all its digits, in the layout of ECMAScript's
-- Number::toString (RFC 8785 section 3.2.2.3).
use Rattle.std.specs.Prelude.{ℕ, suc, zero, ◌+◌, ◌-◌, nat_lt, List, [], ◌∷◌, ◌++◌, length, take}
use Rattle.std.specs.Prelude.{drop, ℤ, pos, negsuc, Bool, true, false, if◌then◌else◌, unsigned_abs}
use Rattle.std.specs.Fmt.{decimal, signed_decimal, sign_text}
use Rattle.jp_reading.specs.Characters.{digit_zero, dot, letter_e, minus, plus}
use Rattle.jp_decimal.specs.Scaled.{is_below_zero}
use Rattle.jp_decimal.specs.declared.number.Number.{Number}
use Rattle.jp_decimal.specs.declared.number.Number.TheVariants.{Whole, Decimal as AsDecimal}

-- so many digits 0
abbrev pub zeros : ℕ → List ℕ
zeros zero = []
zeros (suc n) = digit_zero ∷ zeros n

-- digits with a point behind the first so many, if more follow
abbrev pub pointed : ℕ → List ℕ → List ℕ
pointed k ds = if nat_lt k (length ds) then take k ds ++ dot ∷ drop k ds else ds

-- an exponent, below 0 or not
abbrev pub power_text : Bool → ℕ → List ℕ
power_text false power = letter_e ∷ plus ∷ decimal power
power_text true power = letter_e ∷ minus ∷ decimal power

-- digits with a point behind the first, and an exponent
abbrev pub with_power : Bool → ℕ → List ℕ → List ℕ
with_power below power ds = pointed 1 ds ++ power_text below power

-- digits with `places` of them behind a point: as they are where 1 to 21 digits stand before it,
-- behind `0.` and up to five zeros, else with an exponent
abbrev pub with_places : ℕ → List ℕ → List ℕ
with_places places ds =
    if nat_lt places (length ds)
    then (if nat_lt (length ds - places) 22 then pointed (length ds - places) ds
    else with_power false (length ds - places - 1) ds)
    else (if nat_lt (places - length ds) 6
    then digit_zero ∷ dot ∷ (zeros (places - length ds) ++ ds)
    else with_power true (places - length ds + 1) ds)

-- digits times ten to the exponent: with zeros behind them where that makes at most 21 digits
abbrev pub size_text : List ℕ → ℤ → List ℕ
size_text ds (pos n) =
    if nat_lt (length ds + n) 22 then ds ++ zeros n else with_power false (length ds + n - 1) ds
size_text ds (negsuc n) = with_places (suc n) ds

-- the text of a number: of a whole number of 64 bits its digits
abbrev pub number_text : Number → List ℕ
number_text (Whole z) = signed_decimal z
number_text (AsDecimal d) =
    sign_text (is_below_zero d.coefficient)
    ++ size_text (decimal (unsigned_abs d.coefficient)) d.exponent
