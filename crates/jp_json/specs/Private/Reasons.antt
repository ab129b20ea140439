-- The reason for which the automaton stops, by where it stops and at which character.
use Rattle.std.specs.Prelude.{ℕ, Bool, ◌==◌, ◌||◌, ◌&&◌, nat_le, if◌then◌else◌, Option, Some, None, List, [], ◌∷◌}
use Rattle.std.specs.List.{list_all, list_any}
use Rattle.jp_reading.specs.Characters.{single_quote, colon, comma, dot, minus, plus, slash}
use Rattle.jp_reading.specs.Characters.{closing_brace, closing_bracket}
use Rattle.jp_reading.specs.Numbers.{is_digit}
use Rattle.jp_json.specs.declared.reason.JsonReason.{JsonReason}
use Rattle.jp_json.specs.declared.reason.JsonReason.TheVariants.{ByteOrderMark, Empty, EndInText, EndInNumber}
use Rattle.jp_json.specs.declared.reason.JsonReason.TheVariants.{EndInWord, EndInArray, EndInObject, AfterValue, TooManyLevels}
use Rattle.jp_json.specs.declared.reason.JsonReason.TheVariants.{MissingValue, MissingName, MissingColon, MissingComma, StrayColon}
use Rattle.jp_json.specs.declared.reason.JsonReason.TheVariants.{TrailingComma, WrongBracket, SingleQuote, UnquotedName, Comment}
use Rattle.jp_json.specs.declared.reason.JsonReason.TheVariants.{WrongWord, WrongNumber, LeadingZero, ControlCharacter, WrongEscape}
use Rattle.jp_json.specs.declared.reason.JsonReason.TheVariants.{HasFraction, NegativeZero, OutOfRange}
use Rattle.jp_json.specs.declared.reason.JsonReason.TheVariants.{Unreadable, Unexpected}
use Rattle.jp_json.specs.declared.reason.JsonReason.TheVariants.{NotUtf8, Utf16, Gzip, RecordSeparator, NullCharacter, NoBreakSpace}
use Rattle.jp_json.specs.declared.state.Level.{Level}
use Rattle.jp_json.specs.declared.state.Level.TheVariants.{Array, Object}
use Rattle.jp_json.specs.declared.state.Part.{Part}
use Rattle.jp_json.specs.declared.state.Part.TheVariants.{Minus, Zero, Whole, Point, Fraction}
use Rattle.jp_json.specs.declared.state.Part.TheVariants.{Exponent, Sign, Power}
use Rattle.jp_json.specs.declared.state.State.{State}
use Rattle.jp_json.specs.declared.state.State.TheVariants.{Value, Item, Member, Name, Colon, After}
use Rattle.jp_json.specs.declared.state.State.TheVariants.{Text, Escape, Hex, Number, Letters}
use Rattle.jp_json.specs.declared.reading.Stop.{Stop}
use Rattle.jp_json.specs.declared.reading.Stop.TheVariants as stop
use Rattle.jp_json.specs.Misreading.{is_gzip, is_utf16}
use Rattle.jp_json.specs.Private.Machine.{ends_number}

-- a digit, a letter, `_` or `$`
abbrev pub is_word : ℕ → Bool
is_word c =
    is_digit c || (nat_le 65 c && nat_le c 90) || (nat_le 97 c && nat_le c 122) || c == 95 || c == 36

abbrev pub is_comment : ℕ → Bool
is_comment c = c == slash || c == 35

-- a bracket where a value has to stand
abbrev pub bracket_reason : Option Level → JsonReason
bracket_reason None = WrongBracket
bracket_reason (Some Array) = TrailingComma
bracket_reason (Some Object) = WrongBracket

abbrev pub brace_reason : Option Level → JsonReason
brace_reason None = WrongBracket
brace_reason (Some Array) = WrongBracket
brace_reason (Some Object) = MissingValue

abbrev pub mark_reason : Option Level → JsonReason
mark_reason None = ByteOrderMark
mark_reason (Some l) = Unexpected

-- U+001E begins each text of a JSON text sequence (RFC 7464 section 2.2)
abbrev pub separator_reason : Option Level → JsonReason
separator_reason None = RecordSeparator
separator_reason (Some l) = Unexpected

abbrev pub value_reason : Option Level → ℕ → JsonReason
value_reason l c =
    if c == 65279 then mark_reason l
    else if c == 30 then separator_reason l
    else if c == single_quote then SingleQuote
    else if is_comment c then Comment
    else if c == closing_bracket then bracket_reason l
    else if c == closing_brace then brace_reason l
    else if c == comma || c == colon then MissingValue
    else if c == plus || c == dot then WrongNumber
    else if is_word c then WrongWord
    else Unexpected

abbrev pub name_reason : ℕ → JsonReason
name_reason c =
    if c == single_quote then SingleQuote
    else if is_comment c then Comment
    else if c == closing_brace then TrailingComma
    else if c == closing_bracket then WrongBracket
    else if c == minus || is_word c then UnquotedName
    else MissingName

-- after a value in an array or an object
abbrev pub joint_reason : ℕ → JsonReason
joint_reason c =
    if c == closing_bracket || c == closing_brace then WrongBracket
    else if c == colon then StrayColon
    else MissingComma

abbrev pub level_reason : Option Level → ℕ → JsonReason
level_reason None c = AfterValue
level_reason (Some l) c = joint_reason c

abbrev pub after_reason : Option Level → ℕ → JsonReason
after_reason l c = if is_comment c then Comment else level_reason l c

abbrev pub colon_reason : ℕ → JsonReason
colon_reason c = if is_comment c then Comment else MissingColon

-- after a part of a number that may end it
abbrev pub past_number_reason : Option Level → ℕ → JsonReason
past_number_reason l c =
    if is_word c || c == dot || c == plus || c == minus then WrongNumber else after_reason l c

abbrev pub number_reason : Part → Option Level → ℕ → JsonReason
number_reason Minus l c = if c == 73 then WrongWord else WrongNumber
number_reason Zero l c = if is_digit c then LeadingZero else past_number_reason l c
number_reason Whole l c = past_number_reason l c
number_reason Point l c = WrongNumber
number_reason Fraction l c = past_number_reason l c
number_reason Exponent l c = WrongNumber
number_reason Sign l c = WrongNumber
number_reason Power l c = past_number_reason l c

-- outside of strings two characters show more than that other reason
abbrev pub outside_reason : ℕ → JsonReason → JsonReason
outside_reason c other =
    if c == 0 then NullCharacter else if c == 160 then NoBreakSpace else other

-- a character with which no text goes on
abbrev pub unexpected_reason : Option Level → State → ℕ → JsonReason
unexpected_reason l Value c = outside_reason c (value_reason l c)
unexpected_reason l Item c = outside_reason c (value_reason l c)
unexpected_reason l Member c = outside_reason c (name_reason c)
unexpected_reason l Name c = outside_reason c (name_reason c)
unexpected_reason l Colon c = outside_reason c (colon_reason c)
unexpected_reason l After c = outside_reason c (after_reason l c)
unexpected_reason l (Text r) c = ControlCharacter
unexpected_reason l (Escape r) c = WrongEscape
unexpected_reason l (Hex r w) c = WrongEscape
unexpected_reason l (Number p) c = outside_reason c (number_reason p l c)
unexpected_reason l (Letters w) c = outside_reason c WrongWord

-- an end between characters of strings, numbers and words
abbrev pub open_reason : Option Level → JsonReason
open_reason None = Empty
open_reason (Some Array) = EndInArray
open_reason (Some Object) = EndInObject

abbrev pub end_reason : Option Level → State → JsonReason
end_reason l (Text r) = EndInText
end_reason l (Escape r) = EndInText
end_reason l (Hex r w) = EndInText
end_reason l (Number p) = if ends_number p then open_reason l else EndInNumber
end_reason l (Letters w) = EndInWord
end_reason l _ = open_reason l

-- where reading stops, before that text
abbrev pub stop_reason : Stop → Option Level → State → List ℕ → JsonReason
stop_reason stop.Whole l s t = Unreadable
stop_reason stop.Unfinished l s t = end_reason l s
stop_reason stop.Unexpected l s [] = Unreadable
stop_reason stop.Unexpected l s (c ∷ t) = unexpected_reason l s c
stop_reason stop.TooDeep l s t = TooManyLevels

-- bytes that no JSON text goes on with, for that reason, and bytes that are no UTF-8
abbrev pub wrong_reason : List ℕ → JsonReason → JsonReason
wrong_reason bytes other = if is_gzip bytes then Gzip else other

abbrev pub encoding_reason : List ℕ → JsonReason
encoding_reason bytes = if is_utf16 bytes then Utf16 else NotUtf8

-- whether a number has a fraction or an exponent, and whether it has no digit but 0
abbrev pub has_fraction : List ℕ → Bool
has_fraction number = list_any (λ b. b == 46 || b == 101 || b == 69) number

abbrev pub is_zero : List ℕ → Bool
is_zero number = list_all (λ b. b == 45 || b == 48) number

-- why a number is not whole
abbrev pub fraction_reason : List ℕ → JsonReason
fraction_reason number =
    if has_fraction number then HasFraction else if is_zero number then NegativeZero else OutOfRange
