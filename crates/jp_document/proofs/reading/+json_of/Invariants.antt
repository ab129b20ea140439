use Rattle.std.proofs.Common.{◌≡◌, ◌&&◌, length, map}
use Rattle.std.specs.Vec.Iter.{into_iter_items, into_iter_len}
use Rattle.jp_document.specs.Value.{everywhere_in_items, everywhere_in_members}
use Rattle.jp_document.specs.Value.{list_fits, items_of, members_of, value_of, member_of}
use Rattle.jp_document.proofs.Readings.Conversion.{ItemsSoFar, MembersSoFar}
use Rattle.jp_document.proofs.reading.+json_of.Given as goal

abbrev pub invariant-json_items-loop-item : goal.invariant-json_items-loop-item
invariant-json_items-loop-item l =
    ItemsSoFar l.fn.items.items (into_iter_items l.item-iterator) l.found.items
    × (into_iter_len l.item-iterator ≡ length (into_iter_items l.item-iterator))
    × (l.fits ≡
    (everywhere_in_items list_fits (items_of (map value_of l.found.items)) && l.initial.fits))

abbrev pub invariant-json_members-loop-name : goal.invariant-json_members-loop-name
invariant-json_members-loop-name l =
    MembersSoFar l.fn.members.entries l.name-iterator l.found.items
    × (l.fits ≡
    (everywhere_in_members list_fits (members_of (map member_of l.found.items))
    && l.initial.fits))
