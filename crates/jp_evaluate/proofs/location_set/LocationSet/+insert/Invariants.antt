use Rattle.std.proofs.Common.{length}
use Rattle.jp_evaluate.proofs.location_set.LocationSet.+insert.Given as goal

abbrev pub decreases-insert : goal.decreases-insert
decreases-insert l = length l.location.now
