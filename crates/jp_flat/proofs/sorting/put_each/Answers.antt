use Rattle.std.proofs.Common.{◌≡◌, ◌+◌, ◌++◌, ◌∷◌, [], arith, get_or, subst, sym, take, take_all}
use Rattle.std.proofs.lemmas.List.{take_more}
use Rattle.jp_flat.specs.Flat.{shown}
use Rattle.jp_flat.specs.Private.Sorting.{PutsAll}
use Rattle.jp_flat.specs.declared.item.Item.TheVariants as code
use Rattle.jp_flat.specs.declared.item.Named.{Named}
use Rattle.jp_flat.proofs.Putting.{puts_more}
use Rattle.jp_flat.proofs.sorting.put_each.Goals as goal

pub loop-member-preserved : goal.loop-member-preserved
loop-member-preserved c =
    let t = shown c.args.tables.now in
    let xs = c.args.members.now in
    let i = c.loop-member.member-index in
    let d : Named = record { name = record { first = 0; count = 0 }; item = code.Null } in
    let m = get_or xs i d in
    let grown : take (i + 1) xs ≡ take i xs ++ m ∷ [] = take_more xs i d (omega arith) in
    subst (λ ms. PutsAll t ms c.put.new.found.items) (sym grown)
    (puts_more t (take i xs) c.loop-member.found.items c.put.new.found.items m
    c.in_ok-put.ensures c.loop-member.invariant)

pub returns : goal.returns
returns c =
    let t = shown c.args.tables.now in
    let xs = c.args.members.now in
    subst (λ ms. PutsAll t ms c.loop-member.found.items)
    (take_all c.loop-member.member-index xs c.loop-member-test.false) c.loop-member.invariant
