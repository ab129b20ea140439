-- Section 2.3.5.3: comparisons.
use Rattle.std.proofs.Common.{codes, refl, [], List, ℕ, ◌++◌}
use Rattle.jp_command.proofs.Standard.Computed.{Selects, answer, row}

abbrev compared : List ℕ
compared = codes "{\"obj\":{\"x\":\"y\"},\"arr\":[2,3]}"

-- a filter of the comparison selects both members, or none
abbrev Holds : List ℕ → Type 0
Holds comparison = Selects compared (codes "$[?" ++ comparison ++ codes "]")
    (codes "$['arr']\t[2,3]\n$['obj']\t{\"x\":\"y\"}\n")

abbrev Fails : List ℕ → Type 0
Fails comparison = Selects compared (codes "$[?" ++ comparison ++ codes "]") []

nothing_equals_nothing : Holds (codes "$.absent1 == $.absent2")
unfolding answer
nothing_equals_nothing = row refl

nothing_at_most_nothing : Holds (codes "$.absent1 <= $.absent2")
unfolding answer
nothing_at_most_nothing = row refl

nothing_unequal_text : Holds (codes "$.absent != 'g'")
unfolding answer
nothing_unequal_text = row refl

numbers_in_order : Holds (codes "1 <= 2")
unfolding answer
numbers_in_order = row refl

texts_in_order : Holds (codes "'a' <= 'b'")
unfolding answer
texts_in_order = row refl

object_unequal_list : Holds (codes "$.obj != $.arr")
unfolding answer
object_unequal_list = row refl

object_equals_itself : Holds (codes "$.obj == $.obj")
unfolding answer
object_equals_itself = row refl

list_equals_itself : Holds (codes "$.arr == $.arr")
unfolding answer
list_equals_itself = row refl

object_unequal_number : Holds (codes "$.obj != 17")
unfolding answer
object_unequal_number = row refl

object_at_most_itself : Holds (codes "$.obj <= $.obj")
unfolding answer
object_at_most_itself = row refl

list_at_most_itself : Holds (codes "$.arr <= $.arr")
unfolding answer
list_at_most_itself = row refl

true_at_most_itself : Holds (codes "true <= true")
unfolding answer
true_at_most_itself = row refl

-- ---- false

nothing_equals_text : Fails (codes "$.absent == 'g'")
unfolding answer
nothing_equals_text = row refl

nothing_unequal_nothing : Fails (codes "$.absent1 != $.absent2")
unfolding answer
nothing_unequal_nothing = row refl

numbers_out_of_order : Fails (codes "1 > 2")
unfolding answer
numbers_out_of_order = row refl

number_equals_text : Fails (codes "13 == '13'")
unfolding answer
number_equals_text = row refl

texts_out_of_order : Fails (codes "'a' > 'b'")
unfolding answer
texts_out_of_order = row refl

object_equals_list : Fails (codes "$.obj == $.arr")
unfolding answer
object_equals_list = row refl

object_unequal_itself : Fails (codes "$.obj != $.obj")
unfolding answer
object_unequal_itself = row refl

list_unequal_itself : Fails (codes "$.arr != $.arr")
unfolding answer
list_unequal_itself = row refl

object_equals_number : Fails (codes "$.obj == 17")
unfolding answer
object_equals_number = row refl

object_at_most_list : Fails (codes "$.obj <= $.arr")
unfolding answer
object_at_most_list = row refl

object_below_list : Fails (codes "$.obj < $.arr")
unfolding answer
object_below_list = row refl

number_at_most_list : Fails (codes "1 <= $.arr")
unfolding answer
number_at_most_list = row refl

number_at_least_list : Fails (codes "1 >= $.arr")
unfolding answer
number_at_least_list = row refl

number_above_list : Fails (codes "1 > $.arr")
unfolding answer
number_above_list = row refl

number_below_list : Fails (codes "1 < $.arr")
unfolding answer
number_below_list = row refl

true_above_itself : Fails (codes "true > true")
unfolding answer
true_above_itself = row refl
