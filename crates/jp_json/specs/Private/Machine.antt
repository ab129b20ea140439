-- The automaton that reads a JSON text character by character: what each character does.
use Rattle.std.specs.Prelude.{ℕ, zero, suc, Bool, true, false, ◌==◌, if◌then◌else◌}
use Rattle.std.specs.Prelude.{List, [], ◌∷◌, Option, Some, None}
use Rattle.jp_reading.specs.Characters.{backslash, closing_brace, closing_bracket, colon, comma}
use Rattle.jp_reading.specs.Characters.{digit_zero, dot, double_quote, letter_a, letter_e, letter_f}
use Rattle.jp_reading.specs.Characters.{letter_n, letter_r, letter_t, letter_u, minus}
use Rattle.jp_reading.specs.Characters.{opening_brace, opening_bracket}
use Rattle.jp_reading.specs.Numbers.{is_digit, is_leading_digit}
use Rattle.jp_reading.specs.Texts.{Text, is_blank}
use Rattle.jp_json.specs.Grammar.{is_e, is_escapable, is_hex_digit, is_sign, is_unescaped}
use Rattle.jp_json.specs.declared.state.Level.{Level}
use Rattle.jp_json.specs.declared.state.Level.TheVariants.{Array, Object}
use Rattle.jp_json.specs.declared.state.Role.{Role}
use Rattle.jp_json.specs.declared.state.Role.TheVariants.{Key, Plain}
use Rattle.jp_json.specs.declared.state.Part.{Part}
use Rattle.jp_json.specs.declared.state.Part.TheVariants.{Minus, Zero, Whole, Point, Fraction}
use Rattle.jp_json.specs.declared.state.Part.TheVariants.{Exponent, Sign, Power}
use Rattle.jp_json.specs.declared.state.Letters.{Letters as Wants}
use Rattle.jp_json.specs.declared.state.Letters.TheVariants.{Rue, Ue, E, Alse, Lse, Se, Ull, Ll, L}
use Rattle.jp_json.specs.declared.state.Wanted.{Wanted}
use Rattle.jp_json.specs.declared.state.Wanted.TheVariants.{Four, Three, Two, Last}
use Rattle.jp_json.specs.declared.state.State.{State}
use Rattle.jp_json.specs.declared.state.State.TheVariants.{Value, Item, Member, Name, Colon, After}
use Rattle.jp_json.specs.declared.state.State.TheVariants.{Text as InText, Escape, Hex, Number}
use Rattle.jp_json.specs.declared.state.State.TheVariants.{Letters}
use Rattle.jp_json.specs.declared.state.Step.{Step}
use Rattle.jp_json.specs.declared.state.Step.TheVariants.{Go, Open, Close, Stuck}

-- the innermost level that is open
abbrev pub top : List Level → Option Level
top [] = None
top (l ∷ k) = Some l

-- what comes first in a level
abbrev pub first_in : Level → State
first_in Array = Item
first_in Object = Member

-- a comma goes on to a value in an array, and to a member in an object
abbrev pub after_comma : Option Level → Step
after_comma None = Stuck
after_comma (Some Array) = Go Value
after_comma (Some Object) = Go Name

-- a bracket closes the level that it is of
abbrev pub closing : Level → Option Level → Step
closing l None = Stuck
closing Array (Some Array) = Close
closing Array (Some Object) = Stuck
closing Object (Some Array) = Stuck
closing Object (Some Object) = Close

-- where a value begins
abbrev pub begin_value : ℕ → Step
begin_value c =
    if is_leading_digit c then Go (Number Whole)
    else if is_blank c then Go Value
    else if c == double_quote then Go (InText Plain)
    else if c == opening_bracket then Open Array
    else if c == opening_brace then Open Object
    else if c == minus then Go (Number Minus)
    else if c == digit_zero then Go (Number Zero)
    else if c == letter_t then Go (Letters Rue)
    else if c == letter_f then Go (Letters Alse)
    else if c == letter_n then Go (Letters Ull)
    else Stuck

abbrev pub begin_name : ℕ → Step
begin_name c =
    if is_blank c then Go Name else if c == double_quote then Go (InText Key) else Stuck

-- after a value
abbrev pub after_value : Option Level → ℕ → Step
after_value l c =
    if is_blank c then Go After
    else if c == comma then after_comma l
    else if c == closing_bracket then closing Array l
    else if c == closing_brace then closing Object l
    else Stuck

-- after a string
abbrev pub past_text : Role → State
past_text Key = Colon
past_text Plain = After

-- in a string
abbrev pub in_text : Role → ℕ → Step
in_text r c =
    if is_unescaped c then Go (InText r)
    else if c == double_quote then Go (past_text r)
    else if c == backslash then Go (Escape r)
    else Stuck

abbrev pub in_escape : Role → ℕ → Step
in_escape r c =
    if is_escapable c then Go (InText r) else if c == letter_u then Go (Hex r Four) else Stuck

-- after one more of the digits
abbrev pub past_hex : Role → Wanted → State
past_hex r Four = Hex r Three
past_hex r Three = Hex r Two
past_hex r Two = Hex r Last
past_hex r Last = InText r

-- the next letter, and what is after it
abbrev pub letter : Wants → ℕ
letter Rue = letter_r
letter Ue = letter_u
letter E = letter_e
letter Alse = letter_a
letter Lse = 108
letter Se = 115
letter Ull = letter_u
letter Ll = 108
letter L = 108

abbrev pub past_letter : Wants → State
past_letter Rue = Letters Ue
past_letter Ue = Letters E
past_letter E = After
past_letter Alse = Letters Lse
past_letter Lse = Letters Se
past_letter Se = Letters E
past_letter Ull = Letters Ll
past_letter Ll = Letters L
past_letter L = After

-- a digit, and what else
abbrev pub or_digit : Part → ℕ → Step → Step
or_digit p c other = if is_digit c then Go (Number p) else other

abbrev pub or_exponent : ℕ → Step → Step
or_exponent c other = if is_e c then Go (Number Exponent) else other

-- in a number, or after it
abbrev pub in_number : Part → Option Level → ℕ → Step
in_number Minus l c =
    if is_leading_digit c then Go (Number Whole)
    else if c == digit_zero then Go (Number Zero)
    else Stuck
in_number Zero l c = if c == dot then Go (Number Point) else or_exponent c (after_value l c)
in_number Whole l c =
    or_digit Whole c (if c == dot then Go (Number Point) else or_exponent c (after_value l c))
in_number Point l c = or_digit Fraction c Stuck
in_number Fraction l c = or_digit Fraction c (or_exponent c (after_value l c))
in_number Exponent l c = or_digit Power c (if is_sign c then Go (Number Sign) else Stuck)
in_number Sign l c = or_digit Power c Stuck
in_number Power l c = or_digit Power c (after_value l c)

-- what a character does, where that level is the innermost open
abbrev pub step : Option Level → State → ℕ → Step
step l Value c = begin_value c
step l Item c =
    if c == closing_bracket then closing Array l
    else if is_blank c then Go Item
    else begin_value c
step l Member c =
    if c == closing_brace then closing Object l
    else if is_blank c then Go Member
    else begin_name c
step l Name c = begin_name c
step l Colon c = if is_blank c then Go Colon else if c == colon then Go Value else Stuck
step l After c = after_value l c
step l (InText r) c = in_text r c
step l (Escape r) c = in_escape r c
step l (Hex r w) c = if is_hex_digit c then Go (past_hex r w) else Stuck
step l (Number p) c = in_number p l c
step l (Letters w) c = if c == letter w then Go (past_letter w) else Stuck

-- on with so many levels to spare, these levels open, and that state; or stuck, or a level too deep
pub data Moved : Type 0 where
  on : ℕ → List Level → State → Moved
  stuck : Moved
  deep : Moved

abbrev pub moved : ℕ → List Level → Step → Moved
moved n k (Go s) = on n k s
moved zero k (Open l) = deep
moved (suc n) k (Open l) = on n (l ∷ k) (first_in l)
moved n [] Close = stuck
moved n (l ∷ k) Close = on (suc n) k After
moved n k Stuck = stuck

abbrev pub move : ℕ → List Level → State → ℕ → Moved
move n k s c = moved n k (step (top k) s c)

-- then
abbrev pub from : {A : Type 0} → A → A → Moved → (ℕ → List Level → State → A) → A
from x y (on n k s) f = f n k s
from x y stuck f = x
from x y deep f = y

-- after a text
abbrev pub walk : ℕ → List Level → State → Text → Moved
walk n k s [] = on n k s
walk n k s (c ∷ t) = from stuck deep (move n k s c) (λ m j r. walk m j r t)

-- whether a number may end so
abbrev pub ends_number : Part → Bool
ends_number Minus = false
ends_number Zero = true
ends_number Whole = true
ends_number Point = false
ends_number Fraction = true
ends_number Exponent = false
ends_number Sign = false
ends_number Power = true

-- whether the text may end so
abbrev pub may_end : State → Bool
may_end After = true
may_end (Number p) = ends_number p
may_end _ = false

abbrev pub is_final : List Level → State → Bool
is_final [] s = may_end s
is_final (l ∷ k) s = false

-- whether the rest of a text is accepted
abbrev pub accepts : ℕ → List Level → State → Text → Bool
accepts n k s [] = is_final k s
accepts n k s (c ∷ t) = from false false (move n k s c) (λ m j r. accepts m j r t)
