-- Section 2.7.1: normalized paths.
use Rattle.std.proofs.Common.{codes, refl}
use Rattle.jp_command.proofs.Standard.Computed.{Selects, answer, row}

object_value : Selects (codes "{\"a\":1}") (codes "$.a") (codes "$['a']\t1\n")
unfolding answer
object_value = row refl

array_index : Selects (codes "[0,1]") (codes "$[1]") (codes "$[1]\t1\n")
unfolding answer
array_index = row refl

negative_index : Selects (codes "[0,1,2,3,4]") (codes "$[-3]") (codes "$[2]\t2\n")
unfolding answer
negative_index = row refl

nested : Selects (codes "{\"a\":{\"b\":[0,1]}}") (codes "$.a.b[1:2]") (codes "$['a']['b'][1]\t1\n")
unfolding answer
nested = row refl

unicode_escape : Selects (codes "{\"\\u000b\":1}") (codes "$[\"\\u000B\"]")
    (codes "$['\\u000b']\t1\n")
unfolding answer
unicode_escape = row refl

unicode_character : Selects (codes "{\"a\":1}") (codes "$[\"\\u0061\"]") (codes "$['a']\t1\n")
unfolding answer
unicode_character = row refl
