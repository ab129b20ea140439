use Rattle.std.proofs.Common.{◌≡◌, ◌&&◌, ◌++◌, [], true, drop, length, map}
use Rattle.std.specs.List.{AllByRecursion}
use Rattle.json.specs.Value.{members_view}
use Rattle.jp_document.specs.Value.{everywhere_in_items, everywhere_in_members}
use Rattle.jp_document.specs.Value.{list_fits, items_of, members_of, value_of, member_of}
use Rattle.jp_exact.specs.Defects.{is_held}
use Rattle.jp_exact.specs.Private.ExactValue.{StandsBefore, member_there, members_in}
use Rattle.jp_exact.proofs.Converted.{item_value}
use Rattle.jp_exact.proofs.conversion.+json_of.Given as goal

abbrev pub invariant-json_items-loop-item : goal.invariant-json_items-loop-item
invariant-json_items-loop-item l =
    (map value_of l.found.items ++ map item_value (drop l.item-index l.items) ≡
    map item_value l.items)
    × (everywhere_in_items is_held (items_of (map value_of l.found.items)) ≡ true)
    × (l.fits ≡
    (everywhere_in_items list_fits (items_of (map value_of l.found.items)) && l.initial.fits))

abbrev pub invariant-json_members-loop-name : goal.invariant-json_members-loop-name
invariant-json_members-loop-name l =
    (map member_of l.found.items ++ map (member_there l.members) l.name-iterator ≡
    members_in (members_view l.members) [])
    × AllByRecursion (StandsBefore (length l.members)) l.name-iterator
    × (everywhere_in_members is_held (members_of (map member_of l.found.items)) ≡ true)
    × (l.fits ≡
    (everywhere_in_members list_fits (members_of (map member_of l.found.items)) && l.initial.fits))
