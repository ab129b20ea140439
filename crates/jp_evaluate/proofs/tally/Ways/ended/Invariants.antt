use Rattle.std.proofs.Common.{◌≡◌, ℕ, ◌+◌, ◌*◌, take}
use Rattle.std.specs.List.{sum_by}
use Rattle.jp_evaluate.specs.Private.Tally.{capped, ended}
use Rattle.jp_evaluate.proofs.tally.Ways.ended.Given as goal

-- those so far
abbrev pub invariant-loop-way : goal.invariant-loop-way
invariant-loop-way l =
    (n : ℕ) → capped (l.count * n) ≡
    capped (ended l.segments l.self.first * n
    + sum_by (λ w. ended l.segments w * n) (take l.way-index l.self.more.items))
