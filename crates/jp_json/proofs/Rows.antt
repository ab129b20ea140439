-- Texts that are JSON texts by the grammar (RFC 8259), and texts that are none.
use Rattle.std.proofs.Common.{◌≡◌, ℕ, false, [], ◌∷◌, refl}
use Rattle.std.specs.Prelude.{codes}
use Rattle.jp_reading.specs.Numbers.{is_digit}
use Rattle.jp_reading.specs.Texts.{Text, is_blank}
use Rattle.jp_json.specs.Grammar.{json_text}
use Rattle.jp_json.specs.declared.state.State.TheVariants.{Value}
use Rattle.jp_json.specs.Private.Machine.{accepts}
use Rattle.jp_json.proofs.Accepted.{text-accepted}
use Rattle.jp_json.proofs.Written.{accepted-text}

refused : (n : ℕ) (t : Text) → accepts n [] Value t ≡ false → json_text n t → ⊥
refused n t not_accepted is = let accepted = text-accepted n t is in cc

word : json_text 0 (codes " true ")
unfolding is_blank
word = accepted-text 0 (codes " true ") refl

number : json_text 0 (codes "-0.50e+10")
unfolding is_digit is_blank
number = accepted-text 0 (codes "-0.50e+10") refl

-- the text "é\u0041" in quotes
string : json_text 0 (34 ∷ 233 ∷ 92 ∷ 117 ∷ 48 ∷ 48 ∷ 52 ∷ 49 ∷ 34 ∷ [])
unfolding is_digit is_blank
string = accepted-text 0 (34 ∷ 233 ∷ 92 ∷ 117 ∷ 48 ∷ 48 ∷ 52 ∷ 49 ∷ 34 ∷ []) refl

-- {"":[ ]}
object : json_text 2 (123 ∷ 34 ∷ 34 ∷ 58 ∷ 91 ∷ 32 ∷ 93 ∷ 125 ∷ [])
unfolding is_digit is_blank
object = accepted-text 2 (123 ∷ 34 ∷ 34 ∷ 58 ∷ 91 ∷ 32 ∷ 93 ∷ 125 ∷ []) refl

array : json_text 1 (codes "[1 ,2]")
unfolding is_digit is_blank
array = accepted-text 1 (codes "[1 ,2]") refl

three_levels : json_text 3 (codes "[[[]]]")
unfolding is_digit is_blank
three_levels = accepted-text 3 (codes "[[[]]]") refl

not_within_two : json_text 2 (codes "[[[]]]") → ⊥
unfolding is_digit is_blank
not_within_two = refused 2 (codes "[[[]]]") refl

no_text : json_text 9 [] → ⊥
no_text = refused 9 [] refl

trailing_comma : json_text 9 (codes "[1,]") → ⊥
unfolding is_digit is_blank
trailing_comma = refused 9 (codes "[1,]") refl

leading_zero : json_text 9 (codes "01") → ⊥
unfolding is_digit is_blank
leading_zero = refused 9 (codes "01") refl

bare_point : json_text 9 (codes "1.") → ⊥
unfolding is_digit is_blank
bare_point = refused 9 (codes "1.") refl

plus_sign : json_text 9 (codes "+1") → ⊥
unfolding is_digit is_blank
plus_sign = refused 9 (codes "+1") refl

two_values : json_text 9 (codes "1 2") → ⊥
unfolding is_digit is_blank
two_values = refused 9 (codes "1 2") refl

-- a line feed in a string
bare_control : json_text 9 (34 ∷ 10 ∷ 34 ∷ []) → ⊥
unfolding is_digit is_blank
bare_control = refused 9 (34 ∷ 10 ∷ 34 ∷ []) refl
