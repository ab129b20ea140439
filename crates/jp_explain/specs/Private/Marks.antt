-- What a text begins and ends with.
use Rattle.std.specs.Prelude.{◌-◌, Bool, false, ◌&&◌, ◌||◌, not, ◌==◌, nat_lt, length, take, drop, reverse}
use Rattle.std.specs.Prelude.{◌%◌, [], ◌∷◌, codes}
use Rattle.std.specs.List.{count_by, suffix_len, take_while}
use Rattle.std.specs.Str.{bytes_eq}
use Rattle.jp_reading.specs.Texts.{Text, is_among}
use Rattle.jp_explain.specs.declared.class.Class.{Class}
use Rattle.jp_explain.specs.declared.class.Class.TheVariants.{Blank, Name}
use Rattle.jp_explain.specs.Private.Classes.{holds}

-- whether there is nothing
abbrev pub is_empty : Text → Bool
is_empty text = length text == 0

-- whether it is the word
abbrev pub is : Text → Text → Bool
is text word = bytes_eq text word

-- whether it begins with the word, or ends with it
abbrev pub begins : Text → Text → Bool
begins text word = bytes_eq (take (length word) text) word

abbrev pub ends : Text → Text → Bool
ends text word = bytes_eq (drop (length text - length word) text) word

-- whether its first character, or its last, is one of those
abbrev pub begins_in : Text → Text → Bool
begins_in [] signs = false
begins_in (c ∷ t) signs = is_among signs c

abbrev pub ends_in : Text → Text → Bool
ends_in text signs = begins_in (reverse text) signs

-- whether its first character, or its last, is of the class
abbrev pub begins_as : Text → Class → Bool
begins_as [] class = false
begins_as (c ∷ t) class = holds class c

abbrev pub ends_as : Text → Class → Bool
ends_as text class = begins_as (reverse text) class

-- whether it ends with the sign, and not with two of it
abbrev pub ends_in_one : Text → Text → Bool
ends_in_one text sign = ends text sign && not (ends (take (length text - length sign) text) sign)

-- whether it has the one sign more often than the other
abbrev pub has_more : Text → Text → Text → Bool
has_more text sign other =
    nat_lt (count_by (is_among other) text) (count_by (is_among sign) text)

-- whether it has more opening brackets than closing ones
abbrev pub is_inside : Text → Bool
is_inside text = has_more text (codes "[") (codes "]")

-- whether it has the sign an odd number of times
abbrev pub is_odd : Text → Text → Bool
is_odd text sign = count_by (is_among sign) text % 2 == 1

-- whether it has an odd number of either quotation mark
abbrev pub is_quoted : Text → Bool
is_quoted text = is_odd text (codes "'") || is_odd text (codes "\"")

-- it without its first character
abbrev pub without_first : Text → Text
without_first text = drop 1 text

-- it without its last character
abbrev pub without_last : Text → Text
without_last text = take (length text - 1) text

-- it without the blanks at its end
abbrev pub stem : Text → Text
stem text = take (length text - suffix_len (holds Blank) text) text

-- the name that it begins with, and the one that it ends with
abbrev pub name_at : Text → Text
name_at = take_while (holds Name)

abbrev pub last_name : Text → Text
last_name text = drop (length text - suffix_len (holds Name) text) text

-- it without the name that it ends with, and without the blanks before that
abbrev pub without_name : Text → Text
without_name text = take (length text - suffix_len (holds Name) text) text

abbrev pub before_name : Text → Text
before_name text = stem (without_name text)
