use Rattle.std.proofs.Common.{take}
use Rattle.jp_flat.specs.Flat.{shown}
use Rattle.jp_flat.specs.Private.Sorting.{IsSameByName, MembersRise}
use Rattle.jp_flat.proofs.sinking.all_sink.Given as goal

abbrev pub invariant-loop-index : goal.invariant-loop-index
invariant-loop-index l = record {
  same : IsSameByName (shown l.tables) l.initial.members l.members;
  rise : MembersRise (shown l.tables) (take l.index l.members);
}
