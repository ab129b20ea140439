use Rattle.std.proofs.Common.{◌≡◌, ◌++◌, ◌∷◌, [], length, rules}
use Rattle.jp_flat.specs.Flat.{Grows, shown}
use Rattle.jp_flat.proofs.Growth.{object_closed}
use Rattle.jp_flat.proofs.closing.object_of_one.Goals as goal

pub returns-clause-object : goal.returns-clause-object
returns-clause-object c = λ n ms all.
    let t = shown c.args.tables.now in
    let s = shown (record c.args.tables.now { members = c.put.new.table }) in
    let p = c.in_ok-span.span in
    let more : Grows t s = search rules in
    let moved : s.members ≡ t.members ++ c.args.member ∷ [] = search rules in
    let at : p.first ≡ length t.members = search rules in
    let many : p.count ≡ 1 = search rules in
    object_closed n t s (c.args.member ∷ []) ms p more moved at many all
