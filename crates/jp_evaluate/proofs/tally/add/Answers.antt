use Rattle.std.proofs.Common.{◌≡◌, Some, ap, arith, subst}
use Rattle.std.specs.Option.{IfSome, option_map_or}
use Rattle.jp_document.specs.Location.{child, step_of}
use Rattle.jp_evaluate.proofs.Walks.WaySums.{inside-put, sum-put}
use Rattle.jp_evaluate.proofs.tally.add.Goals as goal

pub returns-clause-sums : goal.returns-clause-sums
returns-clause-sums g c = λ h counts.
    let k = step_of c.in-Some.step in
    let put = sum-put h c.in-Some.step c.args.children.now.entries c.remove.new.self.entries
    c.insert.new.self.entries (record { value = c.args.reached.value; ways = c.in_ok-ways.ways }) c.remove.result c.remove.ensures.value
    c.remove.ensures.entries c.remove.ensures.updates.1 c.in_ok-insert.ensures.entries in
    let told = c.in_ok-ways.ensures.sums (h k) (counts k) in
    let at = ap (λ o. option_map_or (λ s. h (step_of s) c.args.way) o 0) c.in-Some.is in
    omega (arith, put.0, put.1)

pub returns-clause-fewer : goal.returns-clause-fewer
returns-clause-fewer g c = λ h by_done.
    let k = step_of c.in-Some.step in
    let put = sum-put h c.in-Some.step c.args.children.now.entries c.remove.new.self.entries
    c.insert.new.self.entries (record { value = c.args.reached.value; ways = c.in_ok-ways.ways }) c.remove.result c.remove.ensures.value
    c.remove.ensures.entries c.remove.ensures.updates.1 c.in_ok-insert.ensures.entries in
    let told = c.in_ok-ways.ensures.fewer (h k) (by_done k) in
    let at = ap (λ o. option_map_or (λ s. h (step_of s) c.args.way) o 0) c.in-Some.is in
    omega (arith, put.0, put.1)

pub returns-clause-inside : goal.returns-clause-inside
returns-clause-inside g c = λ v at stand.
    inside-put g.V.Lent.meaning v c.in-Some.step c.args.children.now.entries c.remove.new.self.entries
    c.insert.new.self.entries (record { value = c.args.reached.value; ways = c.in_ok-ways.ways })
    c.remove.ensures.entries c.in_ok-insert.ensures.entries
    (subst (λ o. IfSome o (λ s. child v (step_of s) ≡ Some (g.V.Lent.meaning c.args.reached.value))) c.in-Some.is at) stand
