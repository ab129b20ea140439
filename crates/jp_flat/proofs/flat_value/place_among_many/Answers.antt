use Rattle.std.proofs.Common.{◌≡◌, Some, option_map, sym, ap, rules, arith}
use Rattle.std.proofs.lemmas.Fn.{always_returns_same}
use Rattle.jp_document.specs.Location.{named}
use Rattle.jp_document.proofs.Members.ByName.{bytes_cmp}
use Rattle.jp_flat.specs.Flat.{piece, shown}
use Rattle.jp_flat.proofs.Inside.{seen_member}
use Rattle.jp_flat.proofs.Lookups.{hit, members-there, missed}
use Rattle.jp_flat.proofs.flat_value.place_among_many.Goals as goal

pub returns-in_err-members : goal.returns-in_err-members
returns-in_err-members c =
    let t = shown c.args.tables.now in
    let h = members-there t c.args.span c.requires in
    absurd (let there = h.1 in let gone = c.members.ensures in let was = c.in_err-members.was in grind arith)

pub returns-in-Ok : goal.returns-in-Ok
returns-in-Ok c =
    let t = shown c.args.tables.now in
    let p = c.args.span in
    let q = c.args.name.now in
    let xs = c.in_ok-members.members.now in
    let there : piece t.members p.first p.count ≡ Some xs = search rules in
    hit t p q xs c.in-Ok.place c.requires there c.in-Ok.ensures.bound
    (c.in-Ok.ensures.position (λ m. bytes_cmp (seen_member t m).0 q)
    (always_returns_same _ _ _ (λ a r f k. search rules)))

pub returns-in-Err : goal.returns-in-Err
returns-in-Err c =
    let t = shown c.args.tables.now in
    let p = c.args.span in
    let q = c.args.name.now in
    let xs = c.in_ok-members.members.now in
    let there : piece t.members p.first p.count ≡ Some xs = search rules in
    sym
    (ap (option_map (λ w. (named q, w)))
    (missed t p q xs c.in-Err.field-0 c.requires there
    (c.in-Err.ensures.position (λ m. bytes_cmp (seen_member t m).0 q)
    (always_returns_same _ _ _ (λ a r f k. search rules)))))
