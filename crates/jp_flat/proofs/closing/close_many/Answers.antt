use Rattle.std.proofs.Common.{◌≡◌, [], drop, rules, subst}
use Rattle.jp_flat.specs.Flat.{flat_value, shown}
use Rattle.jp_flat.specs.Private.Reading.{put_all}
use Rattle.jp_flat.specs.Private.Sorting.{PutsAll}
use Rattle.jp_flat.proofs.ByKeys.{same_trans}
use Rattle.jp_flat.proofs.Moved.{puts_moved}
use Rattle.jp_flat.proofs.closing.close_many.Goals as goal

pub returns-clause-object : goal.returns-clause-object
returns-clause-object c = λ were n ms same all.
    let t = shown c.args.tables.now in
    let base = c.args.base in
    let sorted = drop base c.sort_many.new.members.items in
    let found = c.put_each.new.found.items in
    let these : c.tail.result.now ≡ sorted = search rules in
    let put : PutsAll t sorted found =
    subst (λ ms. PutsAll t ms found) these c.in_ok-put_each.ensures in
    let each =
    puts_moved t were sorted found
    (same_trans t were (drop base c.args.members.now.items) sorted same c.in_ok-sort_many.ensures.same)
    put in
    c.in_ok-object.ensures.object n (put_all [] ms) (each (flat_value n t) ms all)
