use Rattle.std.proofs.Common.{◌≡◌, length}
use Rattle.jp_reading.specs.Outcome.{skip}
use Rattle.jp_reading.proofs.reader.Reader.skip.Given as goal

abbrev pub invariant-blanks : goal.invariant-blanks
invariant-blanks l = skip l.self ≡ skip l.initial.self

abbrev pub decreases-blanks : goal.decreases-blanks
decreases-blanks l = length l.self.rest
