-- Worked rows of the definitions.
use Rattle.std.proofs.Common.{◌≡◌, true, false, pos, negsuc, [], ◌∷◌, Some, None, codes, map, refl}
use Rattle.jp_document.specs.Location.{Location, named, nth}
use Rattle.jp_document.specs.Node.{location_of, root_of}
use Rattle.jp_document.specs.Value.{Value, null, boolean, whole, text, list}
use Rattle.jp_document.specs.Value.{object, no_items, item, no_members, member}
use Rattle.jp_tree.specs.declared.tree.Op.TheVariants.{Equal, Less, LessEqual, Greater}
use Rattle.jp_select.specs.Subtree.{subtree_of}
use Rattle.jp_select.specs.Comparison.{compared, precedes}
use Rattle.jp_select.specs.Selectors.{item_at}
use Rattle.jp_select.specs.Slice.{slice_of}

-- ---- slices of seven items (RFC 9535 section 2.3.4.3)

omitted_end : slice_of 7 (Some (pos 5)) None (pos 1) ≡ 5 ∷ 6 ∷ []
omitted_end = refl

every_other : slice_of 7 (Some (pos 1)) (Some (pos 5)) (pos 2) ≡ 1 ∷ 3 ∷ []
every_other = refl

downwards : slice_of 7 (Some (pos 5)) (Some (pos 1)) (negsuc 1) ≡ 5 ∷ 3 ∷ []
downwards = refl

reversed : slice_of 7 None None (negsuc 0) ≡ 6 ∷ 5 ∷ 4 ∷ 3 ∷ 2 ∷ 1 ∷ 0 ∷ []
reversed = refl

from_the_end : slice_of 7 (Some (negsuc 2)) (Some (negsuc 0)) (pos 1) ≡ 4 ∷ 5 ∷ []
from_the_end = refl

step_0 : slice_of 7 None None (pos 0) ≡ []
step_0 = refl

past_the_bounds : slice_of 7 (Some (pos 10)) (Some (pos 0)) (negsuc 2) ≡ 6 ∷ 3 ∷ []
past_the_bounds = refl

-- ---- indexes (section 2.3.3)

last_item : item_at 7 (negsuc 0) ≡ Some 6
last_item = refl

before_the_first : item_at 7 (negsuc 7) ≡ None
before_the_first = refl

-- ---- descendants (section 2.5.2)

-- {"a": [null, [null]], "b": null}
abbrev nested_nulls : Value
nested_nulls =
    object
    (member (codes "a") (list (item null (item (list (item null no_items)) no_items)))
    (member (codes "b") null no_members))

abbrev at_a : Location
at_a = named (codes "a") ∷ []

subtree_root : map location_of (subtree_of (root_of nested_nulls)) ≡
    [] ∷ at_a ∷ (named (codes "a") ∷ nth 0 ∷ []) ∷ (named (codes "a") ∷ nth 1 ∷ []) ∷ (named
    (codes "a") ∷ nth 1 ∷ nth 0 ∷ []) ∷ (named (codes "b") ∷ []) ∷ []
subtree_root = refl

subtree_leaf : subtree_of (record { location = at_a; value = null }) ≡ record {
  location = at_a;
  value = null;
} ∷ []
subtree_leaf = refl

-- ---- comparisons (section 2.3.5.3)

nothing_is_nothing : compared LessEqual None None ≡ true
nothing_is_nothing = refl

nothing_is_not_null : compared Equal None (Some null) ≡ false
nothing_is_not_null = refl

number_is_no_text : compared Equal (Some (whole (pos 13))) (Some (text (codes "13"))) ≡ false
number_is_no_text = refl

object_at_most_itself : compared LessEqual (Some nested_nulls) (Some nested_nulls) ≡ true
object_at_most_itself = refl

object_not_below_itself : compared Less (Some nested_nulls) (Some nested_nulls) ≡ false
object_not_below_itself = refl

beyond_53_bits : compared Greater (Some (whole (pos 18446744073709551615)))
    (Some (whole (pos 18446744073709551614))) ≡ true
beyond_53_bits = refl

true_at_most_true : compared LessEqual (Some (boolean true)) (Some (boolean true)) ≡ true
true_at_most_true = refl

-- U+FFFF precedes U+1F600
higher_scalar : precedes (0xffff ∷ []) (0x1f600 ∷ []) ≡ true
higher_scalar = refl

longer_text : precedes (codes "a") (codes "aa") ≡ true
longer_text = refl
