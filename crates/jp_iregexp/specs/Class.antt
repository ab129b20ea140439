-- The characters that a class holds (RFC 9485 section 3).
use Rattle.std.specs.Prelude.{ℕ, Bool, List, true, false, ◌&&◌, not, nat_le}
use Rattle.std.specs.List.{list_any}
use Rattle.jp_iregexp.specs.Category.{in_category}
use Rattle.jp_iregexp.specs.declared.class.ClassElement.{ClassElement}
use Rattle.jp_iregexp.specs.declared.class.ClassElement.TheVariants.{Range, Category}

-- a test, or with a negation its opposite
abbrev pub negated_if : Bool → Bool → Bool
negated_if true b = not b
negated_if false b = b

-- the characters of an element: those from the first to the last, or those of a category, negated
-- those outside it (RFC 9485 section 3, CCE1 and charClassEsc)
unfoldable pub element_holds : ℕ → ClassElement → Bool
element_holds c (Range first last) = nat_le first c && nat_le c last
element_holds c (Category code negated) = negated_if negated (in_category code c)

-- the characters of a class: those that an element holds, negated those that none holds (RFC 9485
-- section 3, charClassExpr)
unfoldable pub class_holds : Bool → List ClassElement → ℕ → Bool
class_holds negated items c = negated_if negated (list_any (element_holds c) items)
