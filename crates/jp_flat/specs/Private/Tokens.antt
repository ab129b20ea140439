-- The tokens that a text has from an offset on, and what the program's tokens stand for.
use Rattle.std.specs.Prelude.{◌≡◌, ◌+◌, ◌-◌, ◌<◌, ◌≤◌, ◌||◌, ◌==◌, ◌++◌, ℕ, Bool, true, false, List, ◌∷◌}
use Rattle.std.specs.Prelude.{Option, Some, None, length, drop, refl, slice_index, take}
use Rattle.std.specs.Coded.{Coded, code_by, coded×, coded_list, coded_ℕ}
use Rattle.std.specs.Str.Parse.{AllDigits, digits_value}
use Rattle.json.specs.Align.{is_good}
use Rattle.json.specs.Json.{read_key}
use Rattle.json.specs.Lex.{Place, after_comma, after_value, between, fresh, in_string, lex}
use Rattle.json.specs.Lex.{Lexeme, may_begin, punctuate, string_token}
use Rattle.json.specs.Text.{content, plain}
use Rattle.json.specs.Token as spec
use Rattle.json.specs.Word.{after_exponent, after_fraction, ends_word, is_space}
use Rattle.jp_flat.specs.declared.cursor.Point.{Point}
use Rattle.jp_flat.specs.declared.cursor.Expected.{Expected}
use Rattle.jp_flat.specs.declared.cursor.Expected.TheVariants.{AfterComma, AfterValue, Fresh}
use Rattle.jp_flat.specs.declared.token.Spelled.{Spelled}
use Rattle.jp_flat.specs.declared.token.Spelled.TheVariants.{Escaped, Plain}
use Rattle.jp_flat.specs.declared.token.Token.{Token}
use Rattle.jp_flat.specs.declared.item.Span.{Span}
use Rattle.jp_flat.specs.Flat.{Shown, text_at}
use Rattle.jp_flat.specs.declared.token.Token.TheVariants as code

-- what may stand next
abbrev pub expected_of : Expected → Place
expected_of Fresh = fresh
expected_of AfterValue = after_value
expected_of AfterComma = after_comma

-- the tokens of a text from an offset on
abbrev pub tokens_from : List ℕ → Point → List spec.Token
tokens_from d p = punctuate (expected_of p.expected) (lex between (drop p.at d))

-- a text, and the tokens that are left of it
pub record TokensLeft : Type 0 where
  pub text : List ℕ
  pub tokens : List spec.Token

abbrev pub tokens_left_code : Coded TokensLeft
tokens_left_code =
    code_by (List ℕ × List spec.Token) (coded× (coded_list coded_ℕ) spec.tokens_code) (λ r. (r.text, r.tokens))
    (λ p. record { text = p.0; tokens = p.1 }) (λ _. refl)

-- the bytes stand in the text from an offset on
pub record StandsAt (d : List ℕ) (first : ℕ) (s : List ℕ) : Type 0 where
  pub within : first + length s ≤ length d
  pub is : take (length s) (drop first d) ≡ s

-- the text ends with the bytes
abbrev pub IsEndOf : List ℕ → List ℕ → Type 0
IsEndOf d s = drop (length d - length s) d ≡ s

-- a text that is spelled by itself stands where it says, and one with escapes is followed by all
-- that follows it
abbrev pub IsSpelledIn : List ℕ → Spelled → Type 0
IsSpelledIn d (Plain first s) = StandsAt d first s.now
IsSpelledIn d (Escaped s) = IsEndOf d s.now

-- the characters are digits, and write the number, if they are at most 18
pub record IsDigits (s : List ℕ) (n : ℕ) : Type 0 where
  pub digits : AllDigits 10 s
  pub value : length s ≤ 18 → digits_value 10 s ≡ n

-- so are those of a number with no minus
abbrev pub IsSized : List ℕ → ℕ → Type 0
IsSized s n = (slice_index s 0 == 45) ≡ false → (0 < length s) × IsDigits s n

-- the name or the text of a token stands where it says, and its number is that of its digits
abbrev pub TokenHolds : List ℕ → Token → Type 0
TokenHolds d (code.Key s) = IsSpelledIn d s
TokenHolds d (code.Text s) = IsSpelledIn d s
TokenHolds d (code.Number s n) = IsSized s.now n
TokenHolds d (code.Numeral first s) = StandsAt d first s.now
TokenHolds d _ = Unit {0}

-- the text that is spelled so, None where its escapes are none
abbrev pub said : Spelled → Option (List ℕ)
said (Plain first s) = Some s.now
said (Escaped s) = content plain (drop 1 s.now)

abbrev pub key_token : Option (List ℕ) → spec.Token
key_token None = spec.bad
key_token (Some s) = spec.key s

-- the token of JSON
abbrev pub token_of : Token → spec.Token
token_of code.BeginArray = spec.begin_array
token_of code.EndArray = spec.end_array
token_of code.BeginObject = spec.begin_object
token_of code.EndObject = spec.end_object
token_of (code.Key s) = key_token (said s)
token_of (code.Text s) = string_token (said s)
token_of (code.Number s n) = spec.number s.now
token_of (code.Numeral first s) = spec.number s.now
token_of (code.Bool b) = spec.boolean b
token_of code.Null = spec.null

-- the text goes on with the token from one point on, and then from another, if the token is one
abbrev pub GivesToken : List ℕ → Point → spec.Token → Point → Type 0
GivesToken d from token to = is_good token ≡ true → tokens_from d from ≡ token ∷ tokens_from d to

-- the text is spelled so from the offset behind the quote on, and its last quote stands before
-- the other offset
pub record IsSpelledFrom (d : List ℕ) (from to : ℕ) (s : Spelled) : Type 0 where
  pub within : to ≤ length d
  pub stands : IsSpelledIn d s
  pub reads : (x : List ℕ) → said s ≡ Some x → content plain (drop from d) ≡ Some x
  pub passes : lex in_string (drop from d) ≡ lex between (drop to d)

-- a whole number may end before the byte
abbrev pub ends_byte : ℕ → Bool
ends_byte x = (x == 44) || (x == 125) || (x == 93) || is_space x

-- the token is the literal of this name
pub record IsLiteral (name : List ℕ) (token : spec.Token) : Type 0 where
  pub lexes :
      (rest : List ℕ) → ends_word rest ≡ true
      → lex between (name ++ rest) ≡ Lexeme.token token ∷ lex between rest
  pub goes :
      (p : Place) (ls : List Lexeme) → may_begin p ≡ true
      → punctuate p (Lexeme.token token ∷ ls) ≡ token ∷ punctuate after_value ls

-- a whole number may end before the text: no point follows, and no exponent
pub record EndsWhole (rest : List ℕ) : Type 0 where
  pub word : ends_word rest ≡ true
  pub point : after_fraction rest ≡ Some rest
  pub power : after_exponent rest ≡ Some rest

-- the tokens begin with the name, or with the end of an object where there is none
abbrev pub ReadsName : List spec.Token → List spec.Token → Option Spelled → Type 0
ReadsName ts rest None = read_key ts ≡ Some (None, rest)
ReadsName ts rest (Some s) =
    (x : List ℕ) → said s ≡ Some x → read_key ts ≡ Some (Some x, rest)

-- the text stands at the span
pub record HasSpan (t : Shown) (s : Span) (o : Option (List ℕ)) : Type 0 where
  pub text : List ℕ
  pub says : o ≡ Some text
  pub there : text_at t s ≡ Some text

-- what is spelled so is a text: its escapes are escapes
pub record IsSaid (o : Option (List ℕ)) : Type 0 where
  pub text : List ℕ
  pub says : o ≡ Some text
