use Rattle.std.proofs.Common.{◌≡◌, ℕ, ◌+◌, length}
use Rattle.jp_document.specs.Value.{Value}
use Rattle.jp_evaluate.specs.declared.tally.Way.{Way}
use Rattle.jp_evaluate.specs.Private.Tally.{AreInside, children_sum, inside, places_sum}
use Rattle.jp_evaluate.proofs.tally.push_children.Given as goal

-- what went over and what is left are all
abbrev pub invariant-loop-place : goal.invariant-loop-place
invariant-loop-place g l =
    let m = g.V.Lent.meaning in
    (v : Value) (h : Value → Way → ℕ) → AreInside m v l.fn.children
    → AreInside m v l.children
    × (places_sum m h l.places.items + children_sum (inside v h) l.children
    ≡ places_sum m h l.fn.places.items + children_sum (inside v h) l.fn.children)

abbrev pub decreases-loop-place : goal.decreases-loop-place
decreases-loop-place g l = length l.children.entries
