-- Kinds of hexadecimal digits, by character and by value.
use Rattle.std.proofs.Common.{◌≡◌, ℕ, ◌+◌, ◌*◌, ◌/◌, ◌%◌, ◌<◌, ◌≤◌, true, false, refl, arith}
use Rattle.std.specs.Prelude.{Result, Ok, Err, IfOk}
use Rattle.std.proofs.lemmas.Bool.Decides.{nat_tests}
use Rattle.std.specs.Char.{digit_value}
use Rattle.jp_query.specs.declared.strings.HexDigit.{HexDigit}
use Rattle.jp_query.specs.declared.strings.HexDigit.TheVariants.{Any, NotD, D, UpTo7, EightToB}
use Rattle.jp_query.specs.declared.strings.HexDigit.TheVariants.{FromC}
use Rattle.jp_query.specs.Strings.{is_hexdig, is_not_d, is_d, is_0_to_7, is_8_to_b, is_c_to_f}
use Rattle.jp_query.specs.Private.HexDigits.{is_one_of, holds_value, IsUnitAfter, IsUnitOf}

-- a character is of the kind that its value is of
pub is_one_of-value : (k : HexDigit) (c : ℕ) → is_one_of k c ≡ holds_value k (digit_value c)
unfolding is_hexdig is_not_d is_d is_0_to_7 is_8_to_b is_c_to_f
is_one_of-value Any c = refl
is_one_of-value NotD c = refl
is_one_of-value D c = refl
is_one_of-value UpTo7 c = refl
is_one_of-value EightToB c = refl
is_one_of-value FromC c = refl

-- a value of any kind is below sixteen
pub holds_value-below : (k : HexDigit) (v : ℕ) → holds_value k v ≡ true → v < 16
holds_value-below Any v h = grind (arith, nat_tests)
holds_value-below NotD v h = grind (arith, nat_tests)
holds_value-below D v h = grind (arith, nat_tests)
holds_value-below UpTo7 v h = grind (arith, nat_tests)
holds_value-below EightToB v h = grind (arith, nat_tests)
holds_value-below FromC v h = grind (arith, nat_tests)

-- and no other is of a kind
pub holds_value-above : (k : HexDigit) (v : ℕ) → 16 ≤ v → holds_value k v ≡ false
holds_value-above Any v h = grind (arith, nat_tests)
holds_value-above NotD v h = grind (arith, nat_tests)
holds_value-above D v h = grind (arith, nat_tests)
holds_value-above UpTo7 v h = grind (arith, nat_tests)
holds_value-above EightToB v h = grind (arith, nat_tests)
holds_value-above FromC v h = grind (arith, nat_tests)

pub is_one_of-below : (k : HexDigit) (c : ℕ) → is_one_of k c ≡ true → digit_value c < 16
is_one_of-below k c h = holds_value-below k (digit_value c) (rw (is_one_of-value k c) at h)

-- the number of four digits
pub unit-after : (l : HexDigit) (a b c d : ℕ) → a < 16 → holds_value l b ≡ true → c < 16 → d < 16
    → IsUnitAfter a l (((a * 16 + b) * 16 + c) * 16 + d)
unit-after l a b c d small g h i =
    let less = holds_value-below l b g in
    let first : (((a * 16 + b) * 16 + c) * 16 + d) / 4096 ≡ a = omega arith in
    let second : (((a * 16 + b) * 16 + c) * 16 + d) / 256 % 16 ≡ b = omega arith in
    record { fits = omega arith; one = first; two = rw second g }

unit-of : (k l : HexDigit) (a v : ℕ) → holds_value k a ≡ true → IsUnitAfter a l v → IsUnitOf k l v
unit-of k l a v f h = record { fits = h.fits; one = rw h.one f; two = h.two }

pub unit-result : {E : Type 0} (k l : HexDigit) (a : ℕ) (r : Result ℕ E) → holds_value k a ≡ true
    → IfOk r (λ v. IsUnitAfter a l v) → IfOk r (λ v. IsUnitOf k l v)
unit-result k l a (Ok v) f h = unit-of k l a v f h
unit-result k l a (Err e) f h = tt
