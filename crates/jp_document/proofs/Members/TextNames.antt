-- The name of a member of a document is the UTF-8 of scalar values: for names in paths and for the
-- lengths of texts.
use Rattle.std.proofs.Common.{◌≡◌, true, List, ℕ, Option, Some, Ordering}
use Rattle.std.proofs.Common.{Equal, IsUtf8, is_eq, cond, refl, ap, ◌∙◌}
use Rattle.std.specs.List.{list_all}
use Rattle.std.specs.Str.{is_utf8}
use Rattle.std.proofs.lemmas.Map.Lookups.{exact_bytes}
use Rattle.std.proofs.lemmas.Str.{IsUtf8-from_is_utf8}
use Rattle.jp_document.specs.Location.{child, named}
use Rattle.jp_document.specs.Value.{IsDocumentValue, Members, Value, list, member}
use Rattle.jp_document.specs.Value.{names_of, no_members, object}
use Rattle.jp_document.proofs.Members.ByName.{bytes_cmp, child-list_named}
use Rattle.jp_reading.proofs.Conjunctions.{and-left, and-right}

found_text : (o : Ordering) (s n : List ℕ) (v w : Value) (rest : Option Value) → bytes_cmp s n ≡ o
    → cond (is_eq o) (Some v) rest ≡ Some w → is_utf8 n ≡ true → (rest ≡ Some w → is_utf8 s ≡ true)
    → is_utf8 s ≡ true
found_text Ordering.Less s n v w rest at is here later = later is
found_text Equal s n v w rest at is here later = ap is_utf8 (exact_bytes s n at) ∙ here
found_text Ordering.Greater s n v w rest at is here later = later is

member_text : (ms : Members) (s : List ℕ) (w : Value) → list_all is_utf8 (names_of ms) ≡ true
    → child (object ms) (named s) ≡ Some w → is_utf8 s ≡ true
member_text no_members s w all is = absurd (cc)
member_text (member n v ms) s w all is =
    found_text (bytes_cmp s n) s n v w _ refl is (and-left _ _ all)
    (member_text ms s w (and-right _ _ all))

pub IsUtf8-child_named : (v w : Value) (s : List ℕ) → IsDocumentValue v
    → child v (named s) ≡ Some w → IsUtf8 s
IsUtf8-child_named (list vs) w s document is = absurd (let none = child-list_named s vs in cc)
IsUtf8-child_named (object ms) w s document is =
    IsUtf8-from_is_utf8 s (member_text ms s w (and-right _ _ (and-left _ _ document)) is)
IsUtf8-child_named v w s document is = absurd (cc)
