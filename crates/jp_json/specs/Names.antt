-- The names of the reasons.
use Rattle.std.specs.Prelude.{ℕ, List, codes}
use Rattle.jp_json.specs.declared.reason.JsonReason.{JsonReason}
use Rattle.jp_json.specs.declared.reason.JsonReason.TheVariants.{NotUtf8, ByteOrderMark, Empty, EndInText, EndInNumber}
use Rattle.jp_json.specs.declared.reason.JsonReason.TheVariants.{EndInWord, EndInArray, EndInObject, AfterValue, TooManyLevels}
use Rattle.jp_json.specs.declared.reason.JsonReason.TheVariants.{MissingValue, MissingName, MissingColon, MissingComma, StrayColon}
use Rattle.jp_json.specs.declared.reason.JsonReason.TheVariants.{TrailingComma, WrongBracket, SingleQuote, UnquotedName, Comment}
use Rattle.jp_json.specs.declared.reason.JsonReason.TheVariants.{WrongWord, WrongNumber, LeadingZero, ControlCharacter, WrongEscape}
use Rattle.jp_json.specs.declared.reason.JsonReason.TheVariants.{LoneSurrogate, BeyondFloat, HasFraction, NegativeZero, OutOfRange, BeyondDecimal}
use Rattle.jp_json.specs.declared.reason.JsonReason.TheVariants.{ListTooLong, Unreadable, Unexpected}
use Rattle.jp_json.specs.declared.reason.JsonReason.TheVariants.{Utf16, Gzip, RecordSeparator, NullCharacter, NoBreakSpace}

-- the name of a reason, in ASCII
abbrev pub name_of : JsonReason → List ℕ
name_of NotUtf8 = codes "NotUtf8"
name_of Utf16 = codes "Utf16"
name_of Gzip = codes "Gzip"
name_of ByteOrderMark = codes "ByteOrderMark"
name_of RecordSeparator = codes "RecordSeparator"
name_of NullCharacter = codes "NullCharacter"
name_of NoBreakSpace = codes "NoBreakSpace"
name_of Empty = codes "Empty"
name_of EndInText = codes "EndInText"
name_of EndInNumber = codes "EndInNumber"
name_of EndInWord = codes "EndInWord"
name_of EndInArray = codes "EndInArray"
name_of EndInObject = codes "EndInObject"
name_of AfterValue = codes "AfterValue"
name_of TooManyLevels = codes "TooManyLevels"
name_of MissingValue = codes "MissingValue"
name_of MissingName = codes "MissingName"
name_of MissingColon = codes "MissingColon"
name_of MissingComma = codes "MissingComma"
name_of StrayColon = codes "StrayColon"
name_of TrailingComma = codes "TrailingComma"
name_of WrongBracket = codes "WrongBracket"
name_of SingleQuote = codes "SingleQuote"
name_of UnquotedName = codes "UnquotedName"
name_of Comment = codes "Comment"
name_of WrongWord = codes "WrongWord"
name_of WrongNumber = codes "WrongNumber"
name_of LeadingZero = codes "LeadingZero"
name_of ControlCharacter = codes "ControlCharacter"
name_of WrongEscape = codes "WrongEscape"
name_of LoneSurrogate = codes "LoneSurrogate"
name_of BeyondFloat = codes "BeyondFloat"
name_of HasFraction = codes "HasFraction"
name_of NegativeZero = codes "NegativeZero"
name_of OutOfRange = codes "OutOfRange"
name_of BeyondDecimal = codes "BeyondDecimal"
name_of ListTooLong = codes "ListTooLong"
name_of Unreadable = codes "Unreadable"
name_of Unexpected = codes "Unexpected"
