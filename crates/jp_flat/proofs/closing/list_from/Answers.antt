use Rattle.std.proofs.Common.{◌≡◌, ◌-◌, length, rules}
use Rattle.jp_flat.specs.Flat.{shown}
use Rattle.jp_flat.proofs.Growth.{list_from_there}
use Rattle.jp_flat.proofs.closing.list_from.Goals as goal

pub returns-clause-list : goal.returns-clause-list
returns-clause-list c =
    let t = shown c.args.tables.now in
    let many : c.in_ok-span.span.count ≡ length t.items - c.args.first = search rules in
    list_from_there t c.args.first c.in_ok-span.span c.requires c.in_ok-span.ensures.first many
