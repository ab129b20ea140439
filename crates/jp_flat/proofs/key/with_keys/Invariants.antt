use Rattle.std.proofs.Common.{take}
use Rattle.jp_flat.specs.Flat.{shown}
use Rattle.jp_flat.specs.Private.Keys.{AreKeyed}
use Rattle.jp_flat.proofs.key.with_keys.Given as goal

abbrev pub invariant-loop-member : goal.invariant-loop-member
invariant-loop-member l =
    AreKeyed (shown l.tables) l.shared (take l.member-index l.members) l.found.items
