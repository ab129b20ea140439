use Rattle.std.proofs.Common.{◌≡◌, ◌++◌, ◌-◌, ◌∙◌, drop, length, length-drop, rules, sym}
use Rattle.jp_flat.specs.Flat.{Grows, shown}
use Rattle.jp_flat.proofs.Growth.{object_closed}
use Rattle.jp_flat.proofs.closing.object_of.Goals as goal

pub returns-clause-object : goal.returns-clause-object
returns-clause-object c = λ n ms all.
    let t = shown c.args.tables.now in
    let s = shown (record c.args.tables.now { members = c.move_parts.new.table }) in
    let new = drop c.args.base c.args.members.now.items in
    let p = c.in_ok-span.span in
    let more : Grows t s = search rules in
    let moved : s.members ≡ t.members ++ new = search rules in
    let at : p.first ≡ length t.members = search rules in
    let all_from : p.count ≡ length c.args.members.now.items - c.args.base = search rules in
    let many : p.count ≡ length new = all_from ∙ sym (length-drop c.args.base _) in
    object_closed n t s new ms p more moved at many all
