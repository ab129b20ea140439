-- The definitions at work.
use Rattle.std.proofs.Common.{◌≡◌, ℕ, true, false, [], ◌∷◌, Some, codes, refl}
use Rattle.jp_reading.specs.Characters as char
use Rattle.jp_reading.specs.Texts.{bytes, is_blank}
use Rattle.jp_reading.specs.Outcome.{took, stuck, deep, past_blanks, skip, expect, loop}
use Rattle.jp_reading.specs.Outcome.{component_since}
use Rattle.jp_reading.specs.Outcome.{enter}
use Rattle.jp_reading.specs.Numbers.{is_digit, value_from}
use Rattle.jp_reading.specs.NumberReading.{digits_at, capped}

-- `é[` takes three bytes, `😀` four
bytes-row : bytes (233 ∷ char.opening_bracket ∷ []) ≡ 3
bytes-row = refl

bytes-astral_row : bytes (128512 ∷ []) ≡ 4
bytes-astral_row = refl

-- a tab is blank; U+000B, U+000C and U+00A0 are not
tab-row : is_blank char.tab ≡ true
unfolding is_blank
tab-row = refl

vertical_tab-row : is_blank 11 ≡ false
unfolding is_blank
vertical_tab-row = refl

form_feed-row : is_blank char.form_feed ≡ false
unfolding is_blank
form_feed-row = refl

no_break_space-row : is_blank 160 ≡ false
unfolding is_blank
no_break_space-row = refl

-- U+0660 is no digit here
arabic_zero-row : is_digit 1632 ≡ false
unfolding is_digit
arabic_zero-row = refl

-- from byte 2 past a space and a line feed
skip-row : skip (record {
  at = 2;
  rest = codes " \n[ ";
  found = [];
}) ≡ record { at = 4; rest = codes "[ "; found = [] }
unfolding past_blanks is_blank
skip-row = refl

-- a quotation mark, where one stands and where none does
expect-row : expect char.single_quote (record { at = 1; rest = codes "']"; found = [] })
    ≡ took char.single_quote
    (record { at = 2; rest = codes "]"; found = [] })
expect-row = refl

expect-stuck_row : expect char.single_quote (record { at = 1; rest = codes "]"; found = [] })
    ≡ stuck
    (record { at = 1; rest = codes "]"; found = [] })
expect-stuck_row = refl

-- the digits of `340]`, what they write, and what they write up to 53
digits-row : digits_at (record { at = 1; rest = codes "340]"; found = [] })
    ≡ took (codes "340") (record { at = 4; rest = codes "]"; found = [] })
unfolding digits_at loop is_digit
digits-row = refl

value-row : value_from 0 (codes "340") ≡ 340
value-row = refl

capped-row : capped 53 0 (codes "340") ≡ 53
capped-row = refl

-- a component from byte 0 to byte 4, around one from 1 to 3
component-row : component_since 0 0 (record {
  at = 4;
  rest = [];
  found = Some (record { start = 1; end = 3 }) ∷ [];
})
    ≡ record {
      at = 4;
      rest = [];
      found = Some (record { start = 0; end = 4 }) ∷ Some (record { start = 1; end = 3 }) ∷ [];
    }
component-row = refl

-- with no level left nothing is entered
enter-row : enter {A = ℕ} 0 (record { at = 7; rest = codes "("; found = [] })
    (λ n. took n (record { at = 8; rest = []; found = [] }))
    ≡ deep (record { at = 7; rest = codes "("; found = [] })
enter-row = refl
