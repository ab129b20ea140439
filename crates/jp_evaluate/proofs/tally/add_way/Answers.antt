use Rattle.std.proofs.Common.{◌≡◌, ◌<◌, ap, get_or, length, sym, ◌∙◌, arith}
use Rattle.jp_evaluate.specs.declared.tally.Way.{Way}
use Rattle.jp_evaluate.proofs.Walks.WaySums.{together-at}
use Rattle.jp_evaluate.proofs.tally.add_way.Goals as goal

pub returns-in-Some-clause-sums : goal.returns-in-Some-clause-sums
returns-in-Some-clause-sums c = λ h counts.
    let i = c.in-Some.index in
    let a = c.index.result.now in
    let same : get_or c.args.ways.now.items i a ≡ get_or c.deref.result.now i a = cc in
    let alike = ap (λ (w : Way). w.done) (c.index.ensures ∙ same) ∙ c.in-Some.ensures.done a in
    let long : length c.deref.result.now ≡ length c.args.ways.now.items = cc in
    let within : i < length c.args.ways.now.items = omega (arith, c.in-Some.ensures.within) in
    together-at h a c.args.way (record { done = c.args.way.done; count = c.saturating_add-count.result })
    c.args.ways.now.items i counts within c.index.ensures (sym alike) alike c.saturating_add-count.ensures
