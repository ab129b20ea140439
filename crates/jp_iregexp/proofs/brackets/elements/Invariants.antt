use Rattle.std.proofs.Common.{◌≡◌, length}
use Rattle.jp_reading.specs.Views.{with_prefix}
use Rattle.jp_iregexp.specs.Private.Reading.{elements_at}
use Rattle.jp_iregexp.proofs.brackets.elements.Given as goal

abbrev pub invariant-elements : goal.invariant-elements
invariant-elements l =
    with_prefix l.initial.items.items (elements_at l.initial.reader) ≡
    with_prefix l.items.items (elements_at l.reader)

abbrev pub decreases-elements : goal.decreases-elements
decreases-elements l = length l.reader.rest
