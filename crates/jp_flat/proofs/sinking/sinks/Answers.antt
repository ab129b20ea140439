use Rattle.std.proofs.Common.{◌≡◌, ◌-◌, ◌∙◌, Greater, Less, ap, arith, get_or, sym}
use Rattle.jp_document.proofs.Members.ByName.{bytes_cmp}
use Rattle.jp_flat.specs.Flat.{shown}
use Rattle.jp_flat.specs.Private.Parts.{name_in}
use Rattle.jp_flat.specs.declared.item.Item.TheVariants as code
use Rattle.jp_flat.specs.declared.item.Named.{Named}
use Rattle.jp_flat.proofs.Sunk.{sunk-more, sunk-none, sunk-upon, sunk-whole}
use Rattle.jp_flat.proofs.sinking.sinks.Goals as goal

pub places-init : goal.places-init
places-init c =
    let d : Named = record { name = record { first = 0; count = 0 }; item = code.Null } in
    sunk-none (shown c.args.tables.now) c.args.index c.name_at-name.result.now c.args.members.now d
    (omega arith) c.name_at-name.ensures

pub returns-in-Less-clause-rise : goal.returns-in-Less-clause-rise
returns-in-Less-clause-rise c = λ rise is.
    let t = shown c.args.tables.now in
    let d : Named = record { name = record { first = 0; count = 0 }; item = code.Null } in
    let l = c.places in
    let name = c.name_at-name.result.now in
    let less : bytes_cmp (name_in t (get_or l.members (l.place - 1) d)) name ≡ Less =
    ap (λ n. bytes_cmp n name) (sym c.name_at.ensures) ∙ sym c.names_order.ensures ∙ c.in-Less.is in
    sunk-upon t l.place c.args.index name c.args.members.now l.members d l.invariant
    c.places-test.true less rise

pub places-preserved : goal.places-preserved
places-preserved c =
    let t = shown c.args.tables.now in
    let d : Named = record { name = record { first = 0; count = 0 }; item = code.Null } in
    let l = c.places in
    let name = c.name_at-name.result.now in
    let greater : bytes_cmp (name_in t (get_or l.members (l.place - 1) d)) name ≡ Greater =
    ap (λ n. bytes_cmp n name) (sym c.name_at.ensures) ∙ sym c.names_order.ensures
    ∙ c.in-Greater.is in
    sunk-more t l.place c.args.index name c.args.members.now l.members d l.invariant
    c.places-test.true greater

pub returns-clause-rise : goal.returns-clause-rise
returns-clause-rise c = λ rise is.
    sunk-whole (shown c.args.tables.now) c.places.place c.args.index c.name_at-name.result.now
    c.args.members.now c.places.members c.places.invariant c.places-test.false rise
