use Rattle.std.proofs.Common.{◌+◌, ◌<◌, ◌≤◌, ◌^◌, ap, arith, length, length-append}
use Rattle.std.proofs.lemmas.List.{length-map}
use Rattle.jp_evaluate.specs.Lent.{rest_of}
use Rattle.jp_flat.specs.FlatValue.{lent_flat}
use Rattle.jp_limit.proofs.Limits.{exceeds}
use Rattle.jsonpath.proofs.finding.matches.Goals as goal

pub returns-then-len-most_nodes-clause-given_up : goal.returns-then-len-most_nodes-clause-given_up
returns-then-len-most_nodes-clause-given_up c =
    let given = rw (c.in-Some.is, c.in_ok-value.was) at c.next_at.ensures.gives in
    let count = length c.loop-next.found.items in
    let nodes = length (rest_of lent_flat c.args.nodes.now) in
    let found = c.loop-next.found.ok in
    let small = c.loop-next.found.small in
    let left = ap length given.2 in
    let all = simp (length-append, length-map) at (ap length c.loop-next.invariant.all) in
    let counted = c.len.ensures in
    let full = c.if-len-most_nodes.true in
    let more : c.most_nodes-most_nodes.result < count + 1 = omega (arith, counted, full, found.0) in
    let fits : count + 1 < 2 ^ 64 = omega (arith, small, found.0, found.1) in
    let less : count + 1 ≤ nodes = omega (arith, left, all) in
    exceeds c.args.limit.nodes c.most_nodes-most_nodes.result (count + 1) nodes
    c.most_nodes-most_nodes.ensures more fits less
