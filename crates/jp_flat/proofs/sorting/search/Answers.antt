use Rattle.std.proofs.Common.{◌∙◌, ◌<◌, arith, length, Equal, sym}
use Rattle.jp_flat.specs.Flat.{shown}
use Rattle.jp_flat.proofs.Searched.{at_any, halved_above, halved_below, halved_none, order_of}
use Rattle.jp_flat.proofs.sorting.search.Goals as goal
use Rattle.jp_flat.proofs.sorting.search.Goals.{in-Less, in-Greater}

pub halves-init : goal.halves-init
halves-init c = record {
  order = omega arith;
  within = omega arith;
  next = λ some. (omega arith, omega (arith, some, c.saturating_sub-next.ensures));
  halved = halved_none (order_of (shown c.args.tables.now) c.args.name.now) c.args.members.now;
}

pub returns-in-Equal-clause-index : goal.returns-in-Equal-clause-index
returns-in-Equal-clause-index c = λ d.
    let l = c.halves in
    let inside = l.invariant.next c.halves-test.true in
    at_any (order_of (shown c.args.tables.now) c.args.name.now) c.args.members.now l.next d _ Equal
    (omega (arith, inside.1, l.invariant.within)) (sym c.bytes_order.ensures ∙ c.in-Equal.is)

pub halves-preserved : goal.halves-preserved
halves-preserved c =
    let l = c.halves in
    let ms = c.args.members.now in
    let t = shown c.args.tables.now in
    let q = c.args.name.now in
    let inside = l.invariant.next c.halves-test.true in
    let room : l.next < length ms = omega (arith, inside.1, l.invariant.within) in
    let is = c.bytes_order.ensures in
    elim c.match-bytes_order.branch [
      | in-Less w ↦ record {
        order = omega (arith, w.low-is, w.high-is, inside.1);
        within = omega (arith, w.high-is, l.invariant.within);
        next = λ some. (omega arith, omega (arith, some));
        halved =
            rw (w.low-is, w.high-is)
            (halved_below (order_of t q) ms l.low l.high l.next _ room (sym is ∙ w.in-Less.is) l.invariant.halved);
      }
      | in-Greater w ↦ record {
        order = omega (arith, w.low-is, w.high-is, inside.0);
        within = omega (arith, w.high-is, room);
        next = λ some. (omega arith, omega (arith, some));
        halved =
            rw (w.low-is, w.high-is)
            (halved_above (order_of t q) ms l.low l.high l.next _ room (sym is ∙ w.in-Greater.is) l.invariant.halved);
      }
    ]
