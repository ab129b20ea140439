-- What is said more of a document that is refused and shows another form, or has a number that is not
-- whole. `Line` cites it.
use Rattle.std.specs.Prelude.{ℕ, Bool, false, ◌&&◌, ◌||◌, ◌==◌, List, [], codes, if◌then◌else◌, slice_get}
use Rattle.std.specs.Option.{option_map_or}
use Rattle.jp_json.specs.declared.misreading.Misreading.{Misreading}
use Rattle.jp_json.specs.declared.reason.JsonReason.{JsonReason}
use Rattle.jp_json.specs.declared.reason.JsonReason.TheVariants.{AfterValue, Gzip, HasFraction, NegativeZero}
use Rattle.jp_json.specs.declared.reason.JsonReason.TheVariants.{OutOfRange, RecordSeparator, Utf16}
use Rattle.jp_reading.specs.Characters.{double_quote, letter_f, letter_n, letter_t, minus}
use Rattle.jp_reading.specs.Characters.{opening_brace, opening_bracket}
use Rattle.jp_reading.specs.Numbers.{is_digit}

-- a JSON value begins with the byte (RFC 8259 section 3)
abbrev pub begins_value : ℕ → Bool
begins_value b =
    b == opening_brace || b == opening_bracket || b == double_quote || b == minus || is_digit b
    || b == letter_t || b == letter_f || b == letter_n

-- a line begins with the place, and there a value
abbrev pub is_next_document : ℕ → ℕ → List ℕ → Bool
is_next_document column offset bytes =
    column == 1 && option_map_or begins_value (slice_get bytes offset) false

-- by the reason, the column and the offset: where a value on a line of its own comes after the value, a number
-- is not whole, or the bytes are a JSON text sequence (RFC 7464), compressed, or UTF-16
abbrev pub hint_by : JsonReason → ℕ → ℕ → List ℕ → List ℕ
hint_by AfterValue column offset bytes = if is_next_document column offset bytes
    then codes " Where each line holds a document, jp-lines reads them." else []
hint_by HasFraction column offset bytes = codes " With --decimals jp takes numbers of up to 38 digits exactly."
hint_by NegativeZero column offset bytes = codes " With --decimals jp takes numbers of up to 38 digits exactly."
hint_by OutOfRange column offset bytes = codes " With --decimals jp takes numbers of up to 38 digits exactly."
hint_by RecordSeparator column offset bytes = codes " tr -d '\\036' takes it away."
hint_by Gzip column offset bytes = codes " gzip -dc writes what it holds."
hint_by Utf16 column offset bytes = codes " iconv -f UTF-16 -t UTF-8 writes it so."
hint_by _ column offset bytes = []

abbrev pub document_hint : Misreading → List ℕ → List ℕ
document_hint m bytes = hint_by m.reason m.column m.offset bytes
