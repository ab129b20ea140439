use Rattle.std.proofs.Common.{◌≡◌, Some, get_or, option_map, sym, ap, rules, arith}
use Rattle.jp_document.specs.Location.{named}
use Rattle.jp_flat.specs.Flat.{piece, shown}
use Rattle.jp_flat.proofs.Lookups.{hit, members-there, missed-each, named-equal}
use Rattle.jp_flat.proofs.flat_value.place_of.Goals as goal

pub returns-in_err-members : goal.returns-in_err-members
returns-in_err-members c =
    let t = shown c.args.tables.now in
    let h = members-there t c.args.span c.requires in
    absurd (let there = h.1 in let gone = c.members.ensures in let was = c.in_err-members.was in grind arith)

pub returns-in-Some : goal.returns-in-Some
returns-in-Some c =
    let t = shown c.args.tables.now in
    let p = c.args.span in
    let q = c.args.name.now in
    let xs = c.in_ok-members.members.now in
    let there : piece t.members p.first p.count ≡ Some xs = search rules in
    hit t p q xs c.in-Some.place c.requires there c.in-Some.ensures.found
    (λ m. named-equal t q (get_or xs c.in-Some.place m) (c.in-Some.ensures.named m))

pub returns-in-None : goal.returns-in-None
returns-in-None c =
    let t = shown c.args.tables.now in
    let p = c.args.span in
    let q = c.args.name.now in
    let xs = c.in_ok-members.members.now in
    let there : piece t.members p.first p.count ≡ Some xs = search rules in
    sym
    (ap (option_map (λ w. (named q, w))) (missed-each t p q xs c.requires there c.in-None.ensures.named))
