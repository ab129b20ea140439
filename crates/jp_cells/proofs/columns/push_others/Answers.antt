use Rattle.std.proofs.Common.{◌≡◌, ◌+◌, ◌++◌, ◌∙◌, ap, append_assoc, arith, length, rules, string_bytes, sym}
use Rattle.std.specs.List.{flat_map}
use Rattle.jp_evaluate.specs.Lent.{rest_of}
use Rattle.jp_select.proofs.Stepping.{takes_then}
use Rattle.jp_cells.specs.Cells.{values_in}
use Rattle.jp_cells.specs.Private.Lists.{behind_comma}
use Rattle.jp_cells.proofs.columns.push_others.Goals as goal

pub loop-next-preserved : goal.loop-next-preserved
loop-next-preserved g c =
    let rest = rest_of g.V.Lent.meaning c.next_value.new.self in
    let old = string_bytes c.loop-next.cell in
    let given = rw (c.in-Some.is, c.in_ok-value.was) at c.next_value.ensures.gives in
    let there = behind_comma (g.V.Lent.meaning c.in_ok-value.value) in
    let next : c.in_ok-count.count ≡ c.loop-next.count + 1 = search rules in
    let wrote : string_bytes c.push_behind_comma.new.cell ≡ old ++ there = search rules in
    record {
      working = given.1.1;
      all = ap (λ t. t ++ flat_map behind_comma (values_in rest)) wrote
          ∙ append_assoc old there _
          ∙ ap (λ ns. old ++ flat_map behind_comma (values_in ns)) (sym given.1.2)
          ∙ c.loop-next.invariant.all;
      count = omega (arith, next, c.loop-next.invariant.count, ap length given.1.2);
      taken = takes_then c.loop-next.invariant.taken c.next_value.ensures.takes;
    }

pub returns-in_err-value-clause-takes : goal.returns-in_err-value-clause-takes
returns-in_err-value-clause-takes g c =
    takes_then c.loop-next.invariant.taken c.next_value.ensures.takes

pub returns-in_err-push_behind_comma-clause-takes :
    goal.returns-in_err-push_behind_comma-clause-takes
returns-in_err-push_behind_comma-clause-takes g c =
    takes_then c.loop-next.invariant.taken c.next_value.ensures.takes

pub returns-in_err-count-clause-takes : goal.returns-in_err-count-clause-takes
returns-in_err-count-clause-takes g c =
    takes_then c.loop-next.invariant.taken c.next_value.ensures.takes

pub returns-clause-takes : goal.returns-clause-takes
returns-clause-takes g c = takes_then c.loop-next.invariant.taken c.next_value.ensures.takes
