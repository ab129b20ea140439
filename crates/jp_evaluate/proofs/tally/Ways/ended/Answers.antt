use Rattle.std.proofs.Common.{◌≡◌, ℕ, ◌+◌, ◌*◌, ◌∙◌, ap, get_or, take, arith}
use Rattle.std.specs.List.{sum_by}
use Rattle.jp_evaluate.specs.declared.tally.Way.{Way}
use Rattle.jp_evaluate.specs.Private.Tally.{capped, ended}
use Rattle.jp_evaluate.proofs.Walks.Capped.{capped_more}
use Rattle.jp_evaluate.proofs.Walks.WaySums.{sum-more}
use Rattle.jp_evaluate.proofs.tally.Ways.ended.Goals as goal

pub loop-way-preserved : goal.loop-way-preserved
loop-way-preserved c = λ n.
    let ways = c.args.self.now.more.items in
    let i = c.loop-way.way-index in
    let h : Way → ℕ = λ w. ended c.args.segments w * n in
    let none : Way = record { done = 0; count = 0 } in
    let first = h c.args.self.now.first in
    let so_far = sum_by h (take i ways) in
    let more = capped_more c.loop-way.count c.ended.result n (first + so_far) c.saturating_add-count.result
    c.saturating_add-count.ensures (c.loop-way.invariant n) in
    let here : c.ended.result ≡ ended c.args.segments (get_or ways i none) = cc in
    let times = ap (λ k. k * n) here in
    let item = sum-more h ways i none (omega arith) in
    let all : (first + so_far) + c.ended.result * n ≡ first + sum_by h (take (i + 1) ways) = omega arith in
    more ∙ ap capped all
