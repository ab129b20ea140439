use Rattle.std.proofs.Common.{◌≡◌, ◌-◌, suc, length}
use Rattle.jp_document.specs.Location.{entries}
use Rattle.jp_select.specs.Comparable.{comparable_of}
use Rattle.jp_select.specs.Private.Parts.{same_parts}
use Rattle.jp_select.specs.Steps.{Takes}
use Rattle.jp_select.proofs.Comparisons.Parts.{parts_from}
use Rattle.jp_lent.proofs.Weights.{weight, weight_inside, weight_of}
use Rattle.jp_select.proofs.comparable.+equals.Given as goal

abbrev pub decreases-Comparable::equals : goal.decreases-Comparable::equals
decreases-Comparable::equals g l = weight_of (comparable_of g.V.Lent.meaning l.self.now)

abbrev pub decreases-same_parts : goal.decreases-same_parts
decreases-same_parts g l = weight_inside (g.V.Lent.meaning l.left)

abbrev pub decreases-same_part : goal.decreases-same_part
decreases-same_part g l = suc (weight (g.V.Lent.meaning l.left.1))

-- the parts from the position on decide
abbrev pub invariant-same_parts-loop-part : goal.invariant-same_parts-loop-part
invariant-same_parts-loop-part g l =
    let es = entries (g.V.Lent.meaning l.left) in
    let fs = entries (g.V.Lent.meaning l.right) in (parts_from es fs l.position ≡ same_parts es fs)
    × Takes l.fn.steps l.steps

abbrev pub decreases-same_parts-loop-part : goal.decreases-same_parts-loop-part
decreases-same_parts-loop-part g l = length (entries (g.V.Lent.meaning l.left)) - l.position
