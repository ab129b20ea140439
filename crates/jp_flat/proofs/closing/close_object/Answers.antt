use Rattle.std.proofs.Common.{[], Some, ap, drop, sym, ◌∙◌}
use Rattle.jp_document.specs.Value.{members_of, object}
use Rattle.jp_flat.specs.Flat.{flat_value, shown}
use Rattle.jp_flat.specs.Private.Reading.{put_all}
use Rattle.jp_flat.proofs.Names.{put_all-rising}
use Rattle.jp_flat.proofs.Sunk.{puts-sorted}
use Rattle.jp_flat.proofs.closing.close_object.Goals as goal

pub returns-then-rises-clause-object : goal.returns-then-rises-clause-object
returns-then-rises-clause-object c = λ n ms rise all.
    c.in_ok-object.ensures.object n ms all
    ∙ ap (λ ws. Some (object (members_of ws))) (sym (put_all-rising ms (rise c.if-rises.true)))

pub returns-then-sort_few-clause-object : goal.returns-then-sort_few-clause-object
returns-then-sort_few-clause-object c = λ n ms rise all.
    let t = shown c.args.tables.now in
    let base = c.args.base in
    let put =
    puts-sorted t (drop base c.args.members.now.items) (drop base c.sort_few.new.members.items)
    c.sort_few.ensures.same (c.sort_few.ensures.rise c.if-sort_few.true) in
    c.in_ok-object-2.ensures.object n (put_all [] ms) (put (flat_value n t) ms all)

pub returns-clause-object : goal.returns-clause-object
returns-clause-object c = λ n ms rise all.
    c.in_ok-object-3.ensures.object (drop c.args.base c.args.members.now.items) n ms
    c.sort_few.ensures.same all
