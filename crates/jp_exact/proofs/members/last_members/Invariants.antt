use Rattle.std.proofs.Common.{◌≡◌, [], drop, length, map}
use Rattle.std.specs.List.{AllByRecursion}
use Rattle.json.specs.Value.{members_view}
use Rattle.jp_exact.specs.Private.ExactValue.{StandsBefore, member_there, members_in}
use Rattle.jp_exact.proofs.members.last_members.Given as goal

-- those that are found, and then the rest of the members, make up the whole
abbrev pub invariant-members : goal.invariant-members
invariant-members l =
    (members_in (members_view (drop l.index l.members)) (map (member_there l.members) l.last.entries) ≡
    members_in (members_view l.members) [])
    × AllByRecursion (StandsBefore (length l.members)) l.last.entries
