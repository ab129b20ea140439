-- What is told of bytes that are no document.
use Rattle.std.specs.Prelude.{◌≡◌, ◌⊎◌, ◌≤◌, ◌&&◌, ◌||◌, ◌==◌, ℕ, Bool, true, false, List, [], ◌∷◌, length}
use Rattle.std.specs.Prelude.{codes, slice_range, take, string_bytes, IsUtf8, Option, Some, None, String}
use Rattle.jp_reading.specs.Characters.{double_quote, minus}
use Rattle.jp_reading.specs.Numbers.{is_digit}
use Rattle.std.specs.Str.{chars}
use Rattle.std.specs.Str.Lossy.{utf8_valid_len}
use Rattle.jp_reading.specs.Texts.{Text}
use Rattle.jp_decimal.specs.declared.numbers.Numbers.{Numbers}
use Rattle.jp_decimal.specs.declared.numbers.Numbers.TheVariants.{Whole, Decimal}
use Rattle.jp_document.specs.Document.{HasDefect, not_json, not_whole, list_too_long}
use Rattle.jp_exact.specs.Defects as exact
use Rattle.jp_exact.specs.Defects.{HasExactDefect}
use Rattle.jp_json.specs.declared.misreading.Misreading.{Misreading}
use Rattle.jp_json.specs.declared.reason.JsonReason.{JsonReason}
use Rattle.jp_json.specs.declared.reason.JsonReason.TheVariants.{NotUtf8, TooManyLevels, LoneSurrogate}
use Rattle.jp_json.specs.declared.reason.JsonReason.TheVariants.{BeyondFloat, HasFraction, NegativeZero}
use Rattle.jp_json.specs.declared.reason.JsonReason.TheVariants.{OutOfRange, BeyondDecimal, ListTooLong, Unreadable}
use Rattle.jp_json.specs.declared.reason.JsonReason.TheVariants.{Utf16, Gzip, ByteOrderMark, RecordSeparator}
use Rattle.jp_json.specs.declared.reason.JsonReason.TheVariants.{NullCharacter, NoBreakSpace}
use Rattle.jp_json.specs.Grammar.{json_text}
use Rattle.jp_json.specs.Place.{column, front_of, line_number}
use Rattle.jp_reading.specs.Sentences.{is_sentence}
use Rattle.jp_json.specs.ViablePrefix.{IsTooDeepAt, IsUnexpectedAt, IsUnfinishedAt}
use Rattle.jp_json.specs.ViablePrefix.{IsViablePrefix}

-- the longest front of the bytes that is UTF-8, as a text
abbrev pub utf8_text : List ℕ → Text
utf8_text bytes = chars (take (utf8_valid_len bytes) bytes)

-- whether bytes begin as gzip's do (RFC 1952 section 2.3.1)
abbrev pub is_gzip : List ℕ → Bool
is_gzip (b ∷ c ∷ rest) = b == 31 && c == 139
is_gzip _ = false

-- whether they begin with U+FEFF in UTF-16, in either order of its bytes
abbrev pub is_utf16 : List ℕ → Bool
is_utf16 (b ∷ c ∷ rest) = (b == 255 && c == 254) || (b == 254 && c == 255)
is_utf16 _ = false

-- What kind of reason: the bytes are no UTF-8, or begin as UTF-16 does besides; they are no JSON text, or
-- that character stands where they are none, or they begin as gzip's do besides; they nest too deep; a string
-- or a number in them stands for no value; a number is not whole; a number is too much for a decimal; a
-- list is too long; or another.
pub data Cause : Type 0 where
  encoding : Cause
  utf16 : Cause
  syntax : Cause
  named : ℕ → Cause
  gzip : Cause
  levels : Cause
  scalar : Cause
  fraction : Cause
  range : Cause
  long_list : Cause
  other : Cause

abbrev pub cause_of : JsonReason → Cause
cause_of NotUtf8 = encoding
cause_of Utf16 = utf16
cause_of Gzip = gzip
cause_of ByteOrderMark = named 65279
cause_of RecordSeparator = named 30
cause_of NullCharacter = named 0
cause_of NoBreakSpace = named 160
cause_of TooManyLevels = levels
cause_of LoneSurrogate = scalar
cause_of BeyondFloat = scalar
cause_of HasFraction = fraction
cause_of NegativeZero = fraction
cause_of OutOfRange = fraction
cause_of BeyondDecimal = range
cause_of ListTooLong = long_list
cause_of Unreadable = other
cause_of _ = syntax

-- from that byte on the bytes are no UTF-8, and what is before it goes on to a JSON text
pub record IsNoUtf8At (bytes : List ℕ) (place : ℕ) : Type 0 where
  pub none : IsUtf8 bytes → ⊥
  pub place_is : place ≡ utf8_valid_len bytes
  pub is_viable : IsViablePrefix 127 (utf8_text bytes)

-- that byte is the first through which no JSON text goes on, or it is the end of bytes that go on to
-- one
abbrev pub IsWrongAt : List ℕ → ℕ → Type 0
IsWrongAt bytes place =
    IsUnexpectedAt 127 (utf8_text bytes) place
    ⊎ (IsUtf8 bytes × IsUnfinishedAt 127 (utf8_text bytes) place)

-- that byte is in a part of the bytes, or at its end, and the part alone has that property
pub record IsPartAt (bytes : List ℕ) (place : ℕ) (Has : List ℕ → Type 0) : Type 0 where
  pub start : ℕ
  pub end : ℕ
  pub before : start ≤ place
  pub after : place ≤ end
  pub within : end ≤ length bytes
  pub has : Has (slice_range bytes start end)

-- whether the first byte is a double quote, a minus or a digit
abbrev pub begins_scalar : List ℕ → Bool
begins_scalar [] = false
begins_scalar (b ∷ bs) = b == double_quote || b == minus || is_digit b

-- the bytes hold no JSON value, with such numbers
abbrev pub IsNoJson : Numbers → List ℕ → Type 0
IsNoJson Whole bytes = HasDefect bytes not_json
IsNoJson Decimal bytes = HasExactDefect bytes exact.not_json

-- a string or a number by the grammar, which alone holds no value with such numbers
pub record IsNoValue (numbers : Numbers) (part : List ℕ) : Type 0 where
  pub begins : begins_scalar part ≡ true
  pub utf8 : IsUtf8 part
  pub text : json_text 127 (chars part)
  pub defect : IsNoJson numbers part

-- a number that is not whole: its path in itself is that of the root
abbrev pub IsNotWhole : List ℕ → Type 0
IsNotWhole part = HasDefect part (not_whole (codes "$"))

-- the path of the first number that is not whole
abbrev pub IsFractionPath : {Z : Type 0} → List ℕ → Option (String Z) → Type 0
IsFractionPath bytes None = ⊥
IsFractionPath bytes (Some path) = HasDefect bytes (not_whole (string_bytes path))

-- a number that is too much for a decimal: its path in itself is that of the root
abbrev pub IsBeyondDecimal : List ℕ → Type 0
IsBeyondDecimal part = HasExactDefect part (exact.number_range (codes "$"))

-- the path of the first number that is too much for a decimal
abbrev pub IsRangePath : {Z : Type 0} → List ℕ → Option (String Z) → Type 0
IsRangePath bytes None = ⊥
IsRangePath bytes (Some path) = HasExactDefect bytes (exact.number_range (string_bytes path))

-- the path of the first number that is none of such numbers
abbrev pub IsNumberPath : {Z : Type 0} → Numbers → List ℕ → Option (String Z) → Type 0
IsNumberPath Whole bytes path = IsFractionPath bytes path
IsNumberPath Decimal bytes path = IsRangePath bytes path

-- a number is not whole, at that byte; of decimals that is no reason
abbrev pub IsFractionAt : {Z : Type 0} → Numbers → List ℕ → ℕ → Option (String Z) → Type 0
IsFractionAt Whole bytes place path = IsFractionPath bytes path × IsPartAt bytes place IsNotWhole
IsFractionAt Decimal bytes place path = ⊥

-- a number is too much for a decimal, at that byte; of whole numbers that is no reason
abbrev pub IsRangeAt : {Z : Type 0} → Numbers → List ℕ → ℕ → Option (String Z) → Type 0
IsRangeAt Whole bytes place path = ⊥
IsRangeAt Decimal bytes place path = IsRangePath bytes path × IsPartAt bytes place IsBeyondDecimal

-- every number is one of such numbers, and some list is too long
abbrev pub IsLongList : Numbers → List ℕ → Type 0
IsLongList Whole bytes = HasDefect bytes list_too_long
IsLongList Decimal bytes = HasExactDefect bytes exact.list_too_long

-- the bytes are no document with such numbers, by a reason of that kind, at that byte
abbrev pub IsCausedBy : {Z : Type 0} → Numbers → Cause → List ℕ → ℕ → Option (String Z) → Type 0
IsCausedBy numbers encoding bytes place path = IsNoJson numbers bytes × IsNoUtf8At bytes place
IsCausedBy numbers utf16 bytes place path =
    IsNoJson numbers bytes × IsNoUtf8At bytes place × (is_utf16 bytes ≡ true)
IsCausedBy numbers syntax bytes place path = IsNoJson numbers bytes × IsWrongAt bytes place
IsCausedBy numbers (named c) bytes place path = IsNoJson numbers bytes
    × ((u : IsUnexpectedAt 127 (utf8_text bytes) place) × (u.there.character ≡ c))
IsCausedBy numbers gzip bytes place path =
    IsNoJson numbers bytes × IsWrongAt bytes place × (is_gzip bytes ≡ true)
IsCausedBy numbers levels bytes place path =
    IsNoJson numbers bytes × IsTooDeepAt 127 (utf8_text bytes) place
IsCausedBy numbers scalar bytes place path =
    IsNoJson numbers bytes
    × IsUtf8 bytes
    × json_text 127 (utf8_text bytes)
    × IsPartAt bytes place (IsNoValue numbers)
IsCausedBy numbers fraction bytes place path = IsFractionAt numbers bytes place path
IsCausedBy numbers range bytes place path = IsRangeAt numbers bytes place path
IsCausedBy numbers long_list bytes place path = IsLongList numbers bytes
IsCausedBy numbers other bytes place path =
    (IsNoJson numbers bytes × IsUtf8 bytes × json_text 127 (utf8_text bytes))
    ⊎ IsNumberPath numbers bytes path

-- the byte is one of the bytes, or their end, and what is before it is UTF-8: no character is cut there
pub record IsPlaceIn (bytes : List ℕ) (place : ℕ) : Type 0 where
  pub within : place ≤ length bytes
  pub before : IsUtf8 (take place bytes)

-- the bytes, which are to be a document with such numbers, are misread so, and a sentence says it
pub record IsMisreading (numbers : Numbers) (bytes : List ℕ) (m : Misreading) : Type 0 where
  pub place : IsPlaceIn bytes m.offset
  pub cause : IsCausedBy numbers (cause_of m.reason) bytes m.offset m.path
  pub line : m.line ≡ line_number (front_of m.offset (utf8_text bytes))
  pub column : m.column ≡ column (front_of m.offset (utf8_text bytes))
  pub sentence : is_sentence m.sentence.now ≡ true
