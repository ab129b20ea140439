-- Members put in the order of their names, each instead of an earlier one of its name.
use Rattle.std.specs.Prelude.{◌≡◌, ℕ, List, [], Option, Some, map, true}
use Rattle.std.specs.BTreeMap.{insert_entry}
use Rattle.std.specs.Cmp.Lexicographic.{slice_cmp}
use Rattle.std.specs.List.{filter}
use Rattle.std.specs.List.Sorted.{IsPermutation}
use Rattle.std.specs.Map.{keys_of}
use Rattle.std.specs.Ordering.{nat_cmp}
use Rattle.jp_document.specs.Value.{Value, names_rise}
use Rattle.jp_flat.specs.Flat.{Shown, all_of, member_with}
use Rattle.jp_flat.specs.Private.Reading.{put_all}
use Rattle.jp_flat.specs.Private.Parts.{is_named, name_in}
use Rattle.jp_flat.specs.declared.item.Item.{Item}
use Rattle.jp_flat.specs.declared.item.Named.{Named}

-- whatever the items are, the sorted members stand for all that the members stand for, put one
-- after another
abbrev pub PutsAll : Shown → List Named → List Named → Type 0
PutsAll t members sorted =
    (f : Item → Option Value) (ms : List (List ℕ × Value))
    → all_of (member_with f t) members ≡ Some ms
    → all_of (member_with f t) sorted ≡ Some (put_all [] ms)

-- whatever the items are, where the names of the members rise, this one is put among them
abbrev pub Puts : Shown → Named → List Named → List Named → Type 0
Puts t member before after =
    (f : Item → Option Value) (ms : List (List ℕ × Value)) (m : List ℕ × Value)
    → all_of (member_with f t) before ≡ Some ms → names_rise (keys_of ms) ≡ true
    → member_with f t member ≡ Some m
    → all_of (member_with f t) after ≡ Some (insert_entry (slice_cmp nat_cmp) ms m.0 m.1)

-- the same members in another order, those of each name in theirs
pub record IsSameByName (t : Shown) (before after : List Named) : Type 0 where
  pub moved : IsPermutation before after
  pub named : (name : List ℕ)
      → filter (is_named t name) after ≡ filter (is_named t name) before

-- the names of the members rise, and no two have the same
abbrev pub MembersRise : Shown → List Named → Type 0
MembersRise t members = names_rise (map (name_in t) members) ≡ true
