use Rattle.std.proofs.Common.{◌∙◌, ap, drop, sym}
use Rattle.jp_evaluate.specs.Lent.{rest_of}
use Rattle.jp_select.proofs.Stepping.{takes_then}
use Rattle.jp_command.proofs.Firsts.{drop_more}
use Rattle.jp_command.proofs.selecting.pass_over.Goals as goal

pub loop-left-preserved : goal.loop-left-preserved
loop-left-preserved g c =
    let given = (rw (c.in-Some.is, c.in_ok-next.was) at c.next_value.ensures.gives).1 in
    let rest = rest_of g.V.Lent.meaning in
    record {
      working = given.1;
      rest = sym (drop_more c.loop-left.left _ (rest c.next_value.new.self) c.loop-left-test.true)
          ∙ ap (λ ns. drop c.loop-left.left ns) (sym given.2)
          ∙ c.loop-left.invariant.rest;
      taken = takes_then c.loop-left.invariant.taken c.next_value.ensures.takes;
    }
