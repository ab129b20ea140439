-- The definitions at work.
use Rattle.std.proofs.Common.{◌≡◌, ◌+◌, ◌-◌, ◌^◌, pos, negsuc, true, false, Some, None, Less, Equal}
use Rattle.std.proofs.Common.{Greater, refl, codes, ℤ}
use Rattle.std.specs.Fmt.{digits}
use Rattle.std.specs.Float.Numeral.{scan_numeral}
use Rattle.jp_decimal.specs.NormalForm.{normal_form}
use Rattle.jp_decimal.specs.Number.{is_decimal, is_whole_64}
use Rattle.jp_decimal.specs.NumberText.{number_text}
use Rattle.jp_decimal.specs.Scaled.{Scaled, scaled_cmp}
use Rattle.jp_decimal.specs.TextValue.{value_of_text}
use Rattle.jp_decimal.specs.declared.number.Number.{Number}
use Rattle.jp_decimal.specs.declared.number.Number.TheVariants.{Whole, Decimal}

-- c times ten to the e
abbrev number : ℤ → ℤ → Scaled
number c e = record { coefficient = c; exponent = e }

abbrev held : ℤ → ℤ → Number
held c e = Decimal (record { coefficient = c; exponent = e })

-- 0.10 is 10 times ten to the -2, and 1.5E+1 is 15
tenth-value : value_of_text (codes "0.10") ≡ number (pos 10) (negsuc 1)
unfolding scan_numeral
tenth-value = refl

fifteen-value : value_of_text (codes "1.5E+1") ≡ number (pos 15) (pos 0)
unfolding scan_numeral
fifteen-value = refl

below_zero-value : value_of_text (codes "-12e-3") ≡ number (negsuc 11) (negsuc 2)
unfolding scan_numeral
below_zero-value = refl

-- zeros at the end are none of a number's digits
tenth-form : normal_form (number (pos 10) (negsuc 1)) ≡ Some (held (pos 1) (negsuc 0))
tenth-form = refl

one-form : normal_form (number (pos 10) (negsuc 0)) ≡ Some (Whole (pos 1))
one-form = refl

hundred-form : normal_form (number (pos 1) (pos 2)) ≡ Some (Whole (pos 100))
hundred-form = refl

zero-form : normal_form (number (pos 0) (negsuc 5)) ≡ Some (Whole (pos 0))
zero-form = refl

-- (2^64)-1 is a whole number of 64 bits, and 2^64 is a decimal
greatest_whole-row : is_whole_64 (pos 18446744073709551615) (pos 0) ≡ true
greatest_whole-row = refl

next_whole-row : is_decimal (pos 18446744073709551616) (pos 0) ≡ true
next_whole-row = refl

-- 38 digits, and 39; and exponents at the lower end and below it
most_digits-row : is_decimal (pos (10 ^ 38 - 1)) (negsuc 0) ≡ true
most_digits-row = refl

more_digits-row : is_decimal (pos (10 ^ 38 + 1)) (negsuc 0) ≡ false
more_digits-row = refl

least_exponent-row : is_decimal (pos 1) (negsuc 999999) ≡ true
least_exponent-row = refl

lower_exponent-form : normal_form (number (pos 1) (negsuc 1000000)) ≡ None
lower_exponent-form = refl

-- 1e400 is less than 10e400, 9007199254740993.5 greater than 9007199254740993, 1.50 is 1.5
power-order : scaled_cmp (number (pos 1) (pos 400)) (number (pos 10) (pos 400)) ≡ Less
power-order = refl

half-order : scaled_cmp (number (pos 90071992547409935) (negsuc 0))
    (number (pos 9007199254740993) (pos 0)) ≡ Greater
half-order = refl

same-order : scaled_cmp (number (pos 150) (negsuc 1)) (number (pos 15) (negsuc 0)) ≡ Equal
same-order = refl

-- 8.95, 0.000001, -1.5e-7, 100000000000000000000, 1e+21 and 1.5e+400
price-text : number_text (held (pos 895) (negsuc 1)) ≡ codes "8.95"
unfolding digits
price-text = refl

millionth-text : number_text (held (pos 1) (negsuc 5)) ≡ codes "0.000001"
unfolding digits
millionth-text = refl

small-text : number_text (held (negsuc 14) (negsuc 7)) ≡ codes "-1.5e-7"
unfolding digits
small-text = refl

plain-text : number_text (held (pos 1) (pos 20)) ≡ codes "100000000000000000000"
unfolding digits
plain-text = refl

great-text : number_text (held (pos 1) (pos 21)) ≡ codes "1e+21"
unfolding digits
great-text = refl

greater-text : number_text (held (pos 15) (pos 399)) ≡ codes "1.5e+400"
unfolding digits
greater-text = refl
