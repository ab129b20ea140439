-- Rows of the definitions, computed: for a reader who checks them by examples.
use Rattle.std.proofs.Common.{◌≡◌, pos, negsuc, true, false, [], ◌∷◌, Some, None, Less, refl, codes}
use Rattle.std.specs.Fmt.{digits}
use Rattle.jp_reading.specs.Characters as char
use Rattle.jp_document.specs.Location.{named, nth, location_cmp, value_at}
use Rattle.jp_document.specs.Path.{path_of, index_text}
use Rattle.jp_document.specs.Spelling.{spelling}
use Rattle.jp_document.specs.Text.{text_of}
use Rattle.jp_document.specs.Value.{Value, null, boolean, whole, text, list, object, no_items}
use Rattle.jp_document.specs.Value.{item, no_members, member, names_rise}
use Rattle.jp_decimal.specs.Number.{is_in_64_bits}

root_path : path_of [] ≡ codes "$"
root_path = refl

quote_path : path_of (named (codes "'") ∷ named (codes "@") ∷ []) ≡ codes "$['\\'']['@']"
unfolding spelling
quote_path = refl

control_path : path_of (named (31 ∷ char.line_feed ∷ char.single_quote ∷ char.backslash ∷ []) ∷ [])
    ≡ codes "$['\\u001f\\n\\'\\\\']"
unfolding spelling
control_path = refl

plain_path : path_of (named (char.double_quote ∷ char.slash ∷ 127 ∷ []) ∷ [])
    ≡ char.dollar ∷ char.opening_bracket ∷ char.single_quote ∷ char.double_quote ∷ char.slash ∷ 127
    ∷ char.single_quote ∷ char.closing_bracket ∷ []
unfolding spelling
plain_path = refl

index_path : path_of (nth 0 ∷ nth 10 ∷ []) ≡ codes "$[0][10]"
unfolding index_text
index_path = refl

list_text : text_of
    (list
    (item (whole (negsuc 0)) (item null (item (boolean true) (item (list no_items) no_items))))) ≡
    codes "[-1,null,true,[]]"
unfolding digits
list_text = refl

object_text : text_of
    (object
    (member (codes "a") (text (codes "'\"\n"))
    (member (codes "b") (object no_members) no_members))) ≡
    codes "{\"a\":\"'\\\"\\n\",\"b\":{}}"
unfolding spelling
object_text = refl

first_before_longer : location_cmp (nth 0 ∷ []) (nth 0 ∷ named (codes "a") ∷ []) ≡ Less
first_before_longer = refl

indexes_by_number : location_cmp (nth 2 ∷ []) (nth 10 ∷ []) ≡ Less
indexes_by_number = refl

names_by_bytes : location_cmp (named (codes "B") ∷ nth 5 ∷ []) (named (codes "a") ∷ []) ≡ Less
names_by_bytes = refl

abbrev list_with_an_object : Value
list_with_an_object =
    list (item null (item (object (member (codes "a") (whole (pos 7)) no_members)) no_items))

value_inside : value_at list_with_an_object (nth 1 ∷ named (codes "a") ∷ []) ≡ Some (whole (pos 7))
value_inside = refl

no_value : value_at list_with_an_object (nth 2 ∷ []) ≡ None
no_value = refl

no_member : value_at list_with_an_object (nth 1 ∷ named (codes "b") ∷ []) ≡ None
no_member = refl

rising : names_rise (codes "B" ∷ codes "a" ∷ codes "aa" ∷ []) ≡ true
rising = refl

equal_names : names_rise (codes "a" ∷ codes "a" ∷ []) ≡ false
equal_names = refl

greatest : is_in_64_bits (pos 18446744073709551615) ≡ true
greatest = refl

too_great : is_in_64_bits (pos 18446744073709551616) ≡ false
too_great = refl

least : is_in_64_bits (negsuc 9223372036854775807) ≡ true
least = refl

too_small : is_in_64_bits (negsuc 9223372036854775808) ≡ false
too_small = refl
