use Rattle.std.proofs.Common.{◌≡◌, ◌+◌, ◌≤◌, suc, ◌∷◌, [], IfOk, false, ap, ap₂, arith, length, option_map, refl, rules, subst, sym, ◌∙◌}
use Rattle.std.specs.List.{flat_map}
use Rattle.jp_document.specs.Location.{entries}
use Rattle.jp_document.specs.Node.{root_of}
use Rattle.jp_tree.specs.declared.tree.Expr.{the_lemmas}
use Rattle.jp_tree.specs.Tree.{call_test}
use Rattle.jp_tree.specs.Views.{argument_of, call_of, expr_of, query_of}
use Rattle.jp_select.specs.Comparable.{comparable_of}
use Rattle.jp_document.specs.Value as value
use Rattle.jp_evaluate.specs.Functions.{logical_answer, meaning, only_value}
use Rattle.jp_evaluate.specs.Nodelist.{has_node, holds, nodelist_at}
use Rattle.jp_evaluate.specs.Private.Calls.{call_function, counted}
use Rattle.jp_evaluate.specs.Private.Selecting.{nodes_query}
use Rattle.jp_evaluate.specs.Private.Walk.{choice_reaches, pending, reached_node, reaches, segments_left, walk_reaches}
use Rattle.jp_evaluate.proofs.Parts.Counted.{no_nodes-value, test-logical, test-nodes}
use Rattle.jp_evaluate.proofs.Parts.Counted.{value_of_nodes-answer}
use Rattle.jp_evaluate.specs.Private.Due.{choice_cost, walk_cost}
use Rattle.jp_evaluate.specs.Private.Walk.{choices_from, frame_choices, offered, turns}
use Rattle.jp_evaluate.proofs.Walks.Costs.{ended-cost, entered-cost, failed-cost, passed-cost, shut-cost}
use Rattle.jp_evaluate.proofs.Walks.Choices.{drop_none}
use Rattle.jp_evaluate.proofs.Walks.Paying.{counts-paid, pays-counts, pays-none-more, pays-offer, pays-then}
use Rattle.jp_evaluate.proofs.Walks.Begun.{begun_nodelist, first-told}
use Rattle.jp_evaluate.proofs.Walks.Kept.{keeps_then}
use Rattle.jp_evaluate.proofs.Walks.Selects.{begun_to_come}
use Rattle.jp_evaluate.proofs.Walks.Advances.{ends_at, ends_in_leaf, goes_on, goes_on_less, offer_less, passed_over}
use Rattle.jp_evaluate.proofs.Walks.Advances.{skipped-reach}
use Rattle.jp_evaluate.proofs.Walks.Spreading.{spread-begun, spread-failed, spread-fewer, spread-passed}
use Rattle.jp_evaluate.proofs.Walks.Spreading.{spread-sums}
use Rattle.jp_evaluate.proofs.Walks.Tallies.{leaf-sum}
use Rattle.jp_evaluate.proofs.Walks.WaySums.{no_children}
use Rattle.jp_evaluate.specs.Private.Tally.{capped, inside, reached_sum, way_weight}
use Rattle.jp_evaluate.proofs.Walks.Tallying.{none_stand}
use Rattle.jp_evaluate.proofs.Walks.Tallying.{all_reached, one-told}
use Rattle.jp_evaluate.proofs.Walks.Tallying.{rounds-fewer, rounds-first, rounds-more, rounds-sums}
use Rattle.jp_evaluate.proofs.Walks.Tallying.{tallies-begun, tallies-less, tallies-more}
use Rattle.jp_evaluate.proofs.Walks.Tallying.{tells-all, tells-first, tells-more}
use Rattle.jp_evaluate.proofs.Parts.Sizes.{part_less}
use Rattle.jp_evaluate.proofs.Parts.Texts.{called-texts}
use Rattle.jp_select.proofs.Stepping.{takes_none, takes_then}
use Rattle.jp_evaluate.proofs.+filter.Goals as goal

-- ---- expressions

pub filter::Asking::any_holds-holds-requires : goal.filter::Asking::any_holds-holds-requires
filter::Asking::any_holds-holds-requires g t c κs within = (
  part_less c.args.parts.now c.loop-part.part-index c.part-item.result _ c.loop-part-test.true
      c.part-item.is c.decreases,
  within,
)

pub filter::Asking::all_hold-holds-requires : goal.filter::Asking::all_hold-holds-requires
filter::Asking::all_hold-holds-requires g t c κs within = (
  part_less c.args.parts.now c.loop-part.part-index c.part-item.result _ c.loop-part-test.true
      c.part-item.is c.decreases,
  within,
)

-- ---- calls

pub filter::Asking::call_value-returns-in-Some-argument_query-clause-gives :
    goal.filter::Asking::call_value-returns-in-Some-argument_query-clause-gives
filter::Asking::call_value-returns-in-Some-argument_query-clause-gives g t c =
    let d = g.V.Lent.meaning c.args.self.now.evaluation.now.root in
    let n = root_of (g.V.Lent.meaning c.args.self.now.current) in
    let x = argument_of c.in-Some.argument.now in
    let p = nodes_query c.in-Some-argument_query.nodes in
    subst (λ v. IfOk c.value_of_nodes.result (λ value. comparable_of g.V.Lent.meaning value ≡ v))
    (value_of_nodes-answer (call_of c.args.call.now) x c.in-Some-function_of.function p d n
    c.in-Some.ensures c.in-Some-function_of.ensures (sym c.in-ValueOfNodes.ensures)
    c.in-Some-argument_query.ensures.gives) c.value_of_nodes.ensures.gives

pub filter::Asking::call_value-returns-in-None-clause-gives : goal.filter::Asking::call_value-returns-in-None-clause-gives
filter::Asking::call_value-returns-in-None-clause-gives g t c =
    let d = g.V.Lent.meaning c.args.self.now.evaluation.now.root in
    let n = root_of (g.V.Lent.meaning c.args.self.now.current) in
    no_nodes-value (call_of c.args.call.now) (argument_of c.in-Some.argument.now)
    c.in-Some-function_of.function d n c.in-Some.ensures c.in-Some-function_of.ensures
    (sym c.in-ValueOfNodes.ensures) c.in-None.ensures.gives

pub filter::Asking::call_holds-returns-clause-gives : goal.filter::Asking::call_holds-returns-clause-gives
filter::Asking::call_holds-returns-clause-gives g t c =
    let d = g.V.Lent.meaning c.args.self.now.evaluation.now.root in
    let n = root_of (g.V.Lent.meaning c.args.self.now.current) in
    let f = call_of c.args.call.now in
    let text = option_map (λ s. value.text s.now) c.in_ok-text.text in
    let pattern = option_map (λ s. value.text s.now) c.in_ok-pattern.pattern in
    subst (λ b. IfOk c.logical_answer.result (λ answer. answer ≡ b))
    (ap (λ o. logical_answer (option_map meaning o) text pattern) c.function_of.ensures
    ∙ ap₂ (logical_answer (option_map meaning (call_function f))) c.in_ok-text.ensures.gives
    c.in_ok-pattern.ensures.gives
    ∙ called-texts f (argument_of c.in-Some.first.now) (argument_of c.in-Some.second.now) d n c.in-Some.ensures)
    c.logical_answer.ensures.gives

pub filter::Asking::holds-returns-in-Some-clause-gives : goal.filter::Asking::holds-returns-in-Some-clause-gives
filter::Asking::holds-returns-in-Some-clause-gives g t c =
    let d = g.V.Lent.meaning c.args.self.now.evaluation.now.root in
    let n = root_of (g.V.Lent.meaning c.args.self.now.current) in
    let f = call_of c.in-Test-Call.call in
    let tree : expr_of c.args.expr.now ≡ call_test f = search (rules, the_lemmas) in
    subst (λ b. IfOk c.selects_some-in-Some.result (λ answer. answer ≡ b))
    (test-nodes f d n (nodes_query c.in-Some.nodes) c.in-Some.ensures.gives
    ∙ ap (λ e. holds e d n) (sym tree)) c.selects_some-in-Some.ensures.gives

pub filter::Asking::holds-returns-in-None-clause-gives : goal.filter::Asking::holds-returns-in-None-clause-gives
filter::Asking::holds-returns-in-None-clause-gives g t c =
    let d = g.V.Lent.meaning c.args.self.now.evaluation.now.root in
    let n = root_of (g.V.Lent.meaning c.args.self.now.current) in
    let f = call_of c.in-Test-Call.call in
    let tree : expr_of c.args.expr.now ≡ call_test f = search (rules, the_lemmas) in
    subst (λ b. IfOk c.call_holds.result (λ answer. answer ≡ b))
    (test-logical f d n c.in-None.ensures.gives ∙ ap (λ e. holds e d n) (sym tree))
    c.call_holds.ensures.gives

pub filter::Asking::node_count-loop-selecting-init :
    goal.filter::Asking::node_count-loop-selecting-init
filter::Asking::node_count-loop-selecting-init g t c =
    let new = c.from-selecting.ensures in
    let all = ap length
    (begun_to_come g.V.Lent.meaning c.args.nodes.query.now (g.V.Lent.meaning c.args.self.now.evaluation.now.root)
    (root_of (g.V.Lent.meaning c.args.self.now.current)) c.from-selecting.result c.start.result
    c.args.nodes.distinct new.segments c.start.ensures new.first new.frames new.seen) in
    (new.segments, omega (arith, all), takes_none c.args.work.now.steps)

pub filter::Asking::node_count-loop-selecting-preserved :
    goal.filter::Asking::node_count-loop-selecting-preserved
filter::Asking::node_count-loop-selecting-preserved g t c = (
  ap (λ s. s.now) c.next.ensures.segments ∙ c.loop-selecting.invariant.0,
  search rules,
  takes_then c.loop-selecting.invariant.2 c.next.ensures.takes,
)

pub filter::Asking::only_value-returns-in_default-clause-gives :
    goal.filter::Asking::only_value-returns-in_default-clause-gives
filter::Asking::only_value-returns-in_default-clause-gives g t c =
    let m = g.V.Lent.meaning in
    let new = c.from-selecting.ensures in
    let begun =
    begun_to_come m c.args.nodes.query.now (m c.args.self.now.evaluation.now.root)
    (root_of (m c.args.self.now.current)) c.from-selecting.result c.start.result
    c.args.nodes.distinct new.segments c.start.ensures new.first new.frames new.seen in
    let none = rw c.in_default.is at c.in_ok-reached.ensures.gives in
    sym (ap only_value (sym begun ∙ none.0))

pub filter::Asking::only_value-returns-in-Some-2-clause-gives : goal.filter::Asking::only_value-returns-in-Some-2-clause-gives
filter::Asking::only_value-returns-in-Some-2-clause-gives g t c =
    let m = g.V.Lent.meaning in
    let new = c.from-selecting.ensures in
    let begun =
    begun_to_come m c.args.nodes.query.now (m c.args.self.now.evaluation.now.root)
    (root_of (m c.args.self.now.current)) c.from-selecting.result c.start.result
    c.args.nodes.distinct new.segments c.start.ensures new.first new.frames new.seen in
    let first = rw c.in-Some.is at c.in_ok-reached.ensures.gives in
    let second = rw c.in-Some-2.is at c.in_ok-next.ensures.gives in
    sym (ap only_value (sym begun ∙ first ∙ ap (λ ns. reached_node m c.next.new.self.walk c.in-Some.reached ∷ ns) second))

pub filter::Asking::only_value-returns-clause-gives : goal.filter::Asking::only_value-returns-clause-gives
filter::Asking::only_value-returns-clause-gives g t c =
    let m = g.V.Lent.meaning in
    let new = c.from-selecting.ensures in
    let begun =
    begun_to_come m c.args.nodes.query.now (m c.args.self.now.evaluation.now.root)
    (root_of (m c.args.self.now.current)) c.from-selecting.result c.start.result
    c.args.nodes.distinct new.segments c.start.ensures new.first new.frames new.seen in
    let first = rw c.in-Some.is at c.in_ok-reached.ensures.gives in
    let second = rw c.in-None.is at c.in_ok-next.ensures.gives in
    sym (ap only_value (sym begun ∙ first ∙ ap (λ ns. reached_node m c.next.new.self.walk c.in-Some.reached ∷ ns) second.0))

pub filter::Asking::selects_some-returns-clause-gives : goal.filter::Asking::selects_some-returns-clause-gives
filter::Asking::selects_some-returns-clause-gives g t c =
    let m = g.V.Lent.meaning in
    let d = m c.args.self.now.evaluation.now.root in
    let all = c.deref-2.result.now in
    let new = c.from-walk.ensures in
    let begun =
    begun_nodelist m c.args.query.now all d (root_of (m c.args.self.now.current)) c.from-walk.result c.start.result
    (sym c.deref-2.ensures.value) c.start.ensures new.first new.frames in
    c.is_some.ensures
    ∙ first-told c.in_ok-first.first (walk_reaches m all d c.from-walk.result) (walk_reaches m all d c.advance.new.self)
    (reached_node m c.advance.new.self) c.in_ok-first.ensures.gives
    ∙ ap has_node begun

-- ---- the walk

pub walk::Walk::advance-loop-self-preserved : goal.walk::Walk::advance-loop-self-preserved
walk::Walk::advance-loop-self-preserved g t c =
    let all = c.args.segments.now in
    let d = g.V.Lent.meaning c.args.evaluation.now.root in
    let o = c.in-Some.offer in
    let same =
    passed_over g.V.Lent.meaning all d c.loop-self.self c.next_offer.new.self o (rw c.in-Some.is at c.in_ok-offer.ensures.gives)
    (sym c.in_ok-passes.ensures.gives ∙ c.if-branch.false) ∙ c.loop-self.invariant.same in
    let one = failed-cost d (offered g.V.Lent.meaning all o) (sym c.in_ok-passes.ensures.gives ∙ c.if-branch.false) in
    record {
      same = same;
      costs = pays-offer c.loop-self.invariant.taken c.loop-self.invariant.costs c.take.ensures.takes
          c.in_ok-take.ensures.counts c.next_offer.ensures.takes (rw c.in-Some.is at c.in_ok-offer.ensures.pays d)
          c.passes.ensures.takes (omega arith);
      keeps = keeps_then c.args.self.now c.loop-self.self c.next_offer.new.self c.loop-self.invariant.keeps
          c.in_ok-offer.ensures.keeps;
      taken = takes_then c.loop-self.invariant.taken (takes_then c.take.ensures.takes (takes_then c.next_offer.ensures.takes c.passes.ensures.takes));
    }

pub walk::Walk::advance-returns-then-offer-segments-clause-gives :
    goal.walk::Walk::advance-returns-then-offer-segments-clause-gives
walk::Walk::advance-returns-then-offer-segments-clause-gives g t c =
    let all = c.args.segments.now in
    let d = g.V.Lent.meaning c.args.evaluation.now.root in
    let o = c.in-Some.offer in
    sym c.loop-self.invariant.same
    ∙ ends_at g.V.Lent.meaning all d c.loop-self.self c.next_offer.new.self o (rw c.in-Some.is at c.in_ok-offer.ensures.gives)
    (sym c.in_ok-passes.ensures.gives ∙ c.if-branch.true) c.if-offer-segments.true

pub walk::Walk::advance-loop-self-smaller : goal.walk::Walk::advance-loop-self-smaller
walk::Walk::advance-loop-self-smaller g t c =
    offer_less g.V.Lent.meaning c.args.segments.now c.loop-self.self c.next_offer.new.self c.in-Some.offer
    (rw c.in-Some.is at c.in_ok-offer.ensures.gives)

pub walk::Walk::advance-loop-self-smaller-else-not-is_leaf :
    goal.walk::Walk::advance-loop-self-smaller-else-not-is_leaf
walk::Walk::advance-loop-self-smaller-else-not-is_leaf g t c =
    offer_less g.V.Lent.meaning c.args.segments.now c.loop-self.self c.next_offer.new.self c.in-Some.offer
    (rw c.in-Some.is at c.in_ok-offer.ensures.gives)

pub walk::Walk::advance-loop-self-smaller-in-Continue-branch-6 :
    goal.walk::Walk::advance-loop-self-smaller-in-Continue-branch-6
walk::Walk::advance-loop-self-smaller-in-Continue-branch-6 g t c =
    goes_on_less g.V.Lent.meaning c.args.segments.now c.loop-self.self c.next_offer.new.self c.enter.new.self
    c.in-Some.offer (rw c.in-Some.is at c.in_ok-offer.ensures.gives) c.in_ok-offer.ensures.begun
    c.if-offer-segments.false c.enter.ensures.first c.in_ok-enter.ensures.frames

pub walk::Walk::advance-loop-self-preserved-in-Continue-branch-6 :
    goal.walk::Walk::advance-loop-self-preserved-in-Continue-branch-6
walk::Walk::advance-loop-self-preserved-in-Continue-branch-6 g t c =
    let all = c.args.segments.now in
    let d = g.V.Lent.meaning c.args.evaluation.now.root in
    let o = c.in-Some.offer in
    let same =
    goes_on g.V.Lent.meaning all d c.loop-self.self c.next_offer.new.self c.enter.new.self o (rw c.in-Some.is at c.in_ok-offer.ensures.gives)
    c.in_ok-offer.ensures.begun (sym c.in_ok-passes.ensures.gives ∙ c.if-branch.true)
    c.if-offer-segments.false c.enter.ensures.first c.in_ok-enter.ensures.frames
    ∙ c.loop-self.invariant.same in
    let passed = passed-cost d (offered g.V.Lent.meaning all o) (sym c.in_ok-passes.ensures.gives ∙ c.if-branch.true) in
    let inside = entered-cost g.V.Lent.meaning all d c.next_offer.new.self c.enter.new.self o.reached
    c.in_ok-offer.ensures.begun c.if-offer-segments.false c.enter.ensures.first c.in_ok-enter.ensures.frames in
    let taken = takes_then c.loop-self.invariant.taken
    (takes_then c.take.ensures.takes (takes_then c.next_offer.ensures.takes c.passes.ensures.takes)) in
    let left = c.turn_count.result + walk_cost g.V.Lent.meaning all d c.enter.new.self in
    let enough : choice_cost d (offered g.V.Lent.meaning all o) + walk_cost g.V.Lent.meaning all d c.next_offer.new.self
    ≤ suc left = omega (arith, c.turn_count.ensures) in
    record {
      same = same;
      costs = pays-then taken (pays-offer c.loop-self.invariant.taken c.loop-self.invariant.costs c.take.ensures.takes
          c.in_ok-take.ensures.counts c.next_offer.ensures.takes (rw c.in-Some.is at c.in_ok-offer.ensures.pays d)
          c.passes.ensures.takes enough)
          (pays-counts (omega arith) c.in_ok-take_many.ensures.counts);
      keeps = keeps_then c.args.self.now c.next_offer.new.self c.enter.new.self
          (keeps_then c.args.self.now c.loop-self.self c.next_offer.new.self c.loop-self.invariant.keeps
          c.in_ok-offer.ensures.keeps) c.in_ok-enter.ensures.keeps;
      taken = takes_then c.loop-self.invariant.taken
          (takes_then c.take.ensures.takes
          (takes_then c.next_offer.ensures.takes (takes_then c.passes.ensures.takes c.take_many.ensures.takes)));
    }

pub walk::Walk::advance-loop-self-preserved-else-not-is_leaf :
    goal.walk::Walk::advance-loop-self-preserved-else-not-is_leaf
walk::Walk::advance-loop-self-preserved-else-not-is_leaf g t c =
    let all = c.args.segments.now in
    let d = g.V.Lent.meaning c.args.evaluation.now.root in
    let o = c.in-Some.offer in
    let leaf : length (entries (g.V.Lent.meaning o.reached.value)) ≡ 0 = search rules in
    let same =
    ends_in_leaf g.V.Lent.meaning all d c.loop-self.self c.next_offer.new.self o (rw c.in-Some.is at c.in_ok-offer.ensures.gives)
    (sym c.in_ok-passes.ensures.gives ∙ c.if-branch.true) c.if-offer-segments.false leaf
    ∙ c.loop-self.invariant.same in
    let passed = passed-cost d (offered g.V.Lent.meaning all o) (sym c.in_ok-passes.ensures.gives ∙ c.if-branch.true) in
    let one = shut-cost all o.reached.done d (g.V.Lent.meaning o.reached.value) c.if-offer-segments.false leaf in
    record {
      same = same;
      costs = pays-offer c.loop-self.invariant.taken c.loop-self.invariant.costs c.take.ensures.takes
          c.in_ok-take.ensures.counts c.next_offer.ensures.takes (rw c.in-Some.is at c.in_ok-offer.ensures.pays d)
          c.passes.ensures.takes (omega arith);
      keeps = keeps_then c.args.self.now c.loop-self.self c.next_offer.new.self c.loop-self.invariant.keeps
          c.in_ok-offer.ensures.keeps;
      taken = takes_then c.loop-self.invariant.taken (takes_then c.take.ensures.takes (takes_then c.next_offer.ensures.takes c.passes.ensures.takes));
    }

pub walk::Walk::advance-returns-in_default-clause-gives :
    goal.walk::Walk::advance-returns-in_default-clause-gives
walk::Walk::advance-returns-in_default-clause-gives g t c =
    let all = c.args.segments.now in
    let d = g.V.Lent.meaning c.args.evaluation.now.root in
    let gives = rw c.in_default.is at c.in_ok-offer.ensures.gives in (
      sym c.loop-self.invariant.same
          ∙ skipped-reach d (pending g.V.Lent.meaning all c.loop-self.self) [] gives.0,
      ap (flat_map (choice_reaches d)) gives.1,
    )

pub walk::Walk::advance-returns-in_default-clause-keeps :
    goal.walk::Walk::advance-returns-in_default-clause-keeps
walk::Walk::advance-returns-in_default-clause-keeps g t c =
    keeps_then c.args.self.now c.loop-self.self c.next_offer.new.self c.loop-self.invariant.keeps
    c.in_ok-offer.ensures.keeps

pub walk::Walk::advance-returns-then-offer-segments-clause-keeps :
    goal.walk::Walk::advance-returns-then-offer-segments-clause-keeps
walk::Walk::advance-returns-then-offer-segments-clause-keeps g t c =
    keeps_then c.args.self.now c.loop-self.self c.next_offer.new.self c.loop-self.invariant.keeps
    c.in_ok-offer.ensures.keeps

pub walk::Walk::advance-returns-then-offer-segments-clause-pays :
    goal.walk::Walk::advance-returns-then-offer-segments-clause-pays
walk::Walk::advance-returns-then-offer-segments-clause-pays g t c =
    let all = c.args.segments.now in
    let d = g.V.Lent.meaning c.args.evaluation.now.root in
    let o = c.in-Some.offer in
    let passed = passed-cost d (offered g.V.Lent.meaning all o) (sym c.in_ok-passes.ensures.gives ∙ c.if-branch.true) in
    let one = ended-cost all o.reached.done d (g.V.Lent.meaning o.reached.value) c.if-offer-segments.true in
    pays-offer c.loop-self.invariant.taken c.loop-self.invariant.costs c.take.ensures.takes
    c.in_ok-take.ensures.counts c.next_offer.ensures.takes (rw c.in-Some.is at c.in_ok-offer.ensures.pays d)
    c.passes.ensures.takes (omega arith)

pub walk::Walk::advance-returns-in_default-clause-pays :
    goal.walk::Walk::advance-returns-in_default-clause-pays
walk::Walk::advance-returns-in_default-clause-pays g t c =
    let d = g.V.Lent.meaning c.args.evaluation.now.root in
    pays-then c.loop-self.invariant.taken c.loop-self.invariant.costs
    (pays-then c.take.ensures.takes (pays-none-more c.take.ensures.takes)
    (rw c.in_default.is at c.in_ok-offer.ensures.pays d))

-- ---- tallies

pub tally::spread-loop-offer-init : goal.tally::spread-loop-offer-init
tally::spread-loop-offer-init g t c =
    let m = g.V.Lent.meaning in
    let frame = c.at-frame.ensures in
    let all = c.args.segments.now in
    let v = m c.args.value in
    let begun = ap (λ f. length (frame_choices m all f)) frame
    ∙ ap (λ ts. length (choices_from v ts 0)) (drop_none (turns (segments_left all c.args.way.done))) in
    let into = c.turn_count.ensures in (
      spread-begun m c.args.segments.now (m c.args.evaluation.now.root) c.args.value c.args.way
          c.args.children.now c.at-frame.result (ap (λ f. f.reached.value) frame)
          (ap (λ f. f.reached.done) frame) (ap (λ f. f.turn) frame) (ap (λ f. f.next) frame),
      c.take_many.ensures.takes,
      pays-counts (omega arith) c.in_ok-take_many.ensures.counts,
    )

pub tally::spread-loop-offer-preserved : goal.tally::spread-loop-offer-preserved
tally::spread-loop-offer-preserved g t c =
    let m = g.V.Lent.meaning in (
      spread-failed m c.args.segments.now (m c.args.evaluation.now.root) c.args.value c.args.way
          c.args.children.now c.loop-offer.children c.loop-offer.frame c.frame_offer.new.frame
          c.in-Some.offer c.loop-offer.invariant.0 c.frame_offer.ensures.reached (rw c.in-Some.is at c.in_ok-offer.ensures.gives)
          (sym c.in_ok-passes.ensures.gives ∙ c.if-branch.false),
      takes_then c.loop-offer.invariant.1
          (takes_then c.frame_offer.ensures.takes (takes_then c.take.ensures.takes c.passes.ensures.takes)),
      pays-then c.loop-offer.invariant.1 c.loop-offer.invariant.2
          (pays-then c.frame_offer.ensures.takes (rw c.in-Some.is at c.in_ok-offer.ensures.pays)
          (pays-then c.take.ensures.takes (pays-counts (omega arith) c.in_ok-take.ensures.counts)
          (pays-none-more c.passes.ensures.takes))),
    )

pub tally::spread-loop-offer-preserved-in-Continue-branch-6 :
    goal.tally::spread-loop-offer-preserved-in-Continue-branch-6
tally::spread-loop-offer-preserved-in-Continue-branch-6 g t c =
    let m = g.V.Lent.meaning in (
      spread-passed m c.args.segments.now (m c.args.evaluation.now.root) c.args.value c.args.way
          c.args.children.now c.loop-offer.children c.loop-offer.frame c.frame_offer.new.frame
          c.in-Some.offer c.loop-offer.invariant.0 c.frame_offer.ensures.reached (rw c.in-Some.is at c.in_ok-offer.ensures.gives)
          c.add.new.children (g.met.V.Selectable.sound c.args.value)
          (sym c.in_ok-passes.ensures.gives ∙ c.if-branch.true) c.in_ok-add.ensures.inside c.in_ok-add.ensures.sums
          c.in_ok-add.ensures.fewer,
      takes_then c.loop-offer.invariant.1
          (takes_then c.frame_offer.ensures.takes (takes_then c.take.ensures.takes
          (takes_then c.passes.ensures.takes c.add.ensures.takes))),
      pays-then c.loop-offer.invariant.1 c.loop-offer.invariant.2
          (pays-then c.frame_offer.ensures.takes (rw c.in-Some.is at c.in_ok-offer.ensures.pays)
          (pays-then c.take.ensures.takes (pays-counts (omega arith) c.in_ok-take.ensures.counts)
          (pays-none-more (takes_then c.passes.ensures.takes c.add.ensures.takes)))),
    )

pub tally::spread-returns-clause-counts : goal.tally::spread-returns-clause-counts
tally::spread-returns-clause-counts g t c =
    counts-paid (pays-then c.loop-offer.invariant.1 c.loop-offer.invariant.2
    (rw c.in_default.is at c.in_ok-offer.ensures.pays))

pub tally::spread-returns-clause-sums : goal.tally::spread-returns-clause-sums
tally::spread-returns-clause-sums g t c = λ f.
    let m = g.V.Lent.meaning in
    spread-sums m c.args.segments.now (m c.args.evaluation.now.root) c.args.value c.args.way
    c.args.children.now c.loop-offer.children c.loop-offer.frame c.loop-offer.invariant.0
    (rw c.in_default.is at c.in_ok-offer.ensures.gives) f

pub tally::spread-returns-clause-fewer : goal.tally::spread-returns-clause-fewer
tally::spread-returns-clause-fewer g t c =
    let m = g.V.Lent.meaning in
    spread-fewer m c.args.segments.now (m c.args.evaluation.now.root) c.args.value c.args.way
    c.args.children.now c.loop-offer.children c.loop-offer.frame c.loop-offer.invariant.0

pub tally::ways_inside-returns-then-is_leaf-clause-sums : goal.tally::ways_inside-returns-then-is_leaf-clause-sums
tally::ways_inside-returns-then-is_leaf-clause-sums g t c = λ f.
    let m = g.V.Lent.meaning in
    let place = c.args.place.now in
    let all = c.args.segments.now in
    let d = m c.args.evaluation.now.root in
    let v = m place.value in
    let leaf : length (entries v) ≡ 0 = search rules in
    ap capped (no_children (inside v (reached_sum f all d)) c.new-children.result c.new-children.ensures.empty
    ∙ sym (leaf-sum f all d v place.ways leaf))

pub tally::ways_inside-returns-then-is_leaf-clause-fewer : goal.tally::ways_inside-returns-then-is_leaf-clause-fewer
tally::ways_inside-returns-then-is_leaf-clause-fewer g t c =
    let v = g.V.Lent.meaning c.args.place.now.value in
    let none = no_children (inside v (way_weight c.args.segments.now)) c.new-children.result c.new-children.ensures.empty in
    omega arith

pub tally::ways_inside-returns-then-is_leaf-clause-inside : goal.tally::ways_inside-returns-then-is_leaf-clause-inside
tally::ways_inside-returns-then-is_leaf-clause-inside g t c =
    let m = g.V.Lent.meaning in
    none_stand m (m c.args.place.now.value) c.new-children.result c.new-children.ensures.empty

pub tally::ways_inside-returns-clause-inside : goal.tally::ways_inside-returns-clause-inside
tally::ways_inside-returns-clause-inside g t c = c.loop-way.invariant.0.stand

pub tally::spread-returns-clause-inside : goal.tally::spread-returns-clause-inside
tally::spread-returns-clause-inside g t c = c.loop-offer.invariant.0.stand

pub tally::ways_inside-loop-way-init : goal.tally::ways_inside-loop-way-init
tally::ways_inside-loop-way-init g t c =
    let m = g.V.Lent.meaning in
    let place = c.args.place.now in (
      rounds-first m c.args.segments.now (m c.args.evaluation.now.root) (m place.value) place.ways
          c.new-children.result c.spread.new.children c.new-children.ensures.empty
          (record { stand = c.in_ok-spread.ensures.inside; sums = c.in_ok-spread.ensures.sums; fewer = c.in_ok-spread.ensures.fewer }),
      c.spread.ensures.takes,
    )

pub tally::ways_inside-loop-way-preserved : goal.tally::ways_inside-loop-way-preserved
tally::ways_inside-loop-way-preserved g t c =
    let m = g.V.Lent.meaning in
    let place = c.args.place.now in (
      rounds-more m c.args.segments.now (m c.args.evaluation.now.root) (m place.value) place.ways
          c.deref-way-items.result.now c.loop-way.way-index (record { done = 0; count = 0 })
          c.loop-way.children c.spread-in-loop-way.new.children c.deref-way-items.ensures.value
          c.loop-way.invariant.0 c.loop-way-test.true
          (record { stand = c.in_ok-spread-2.ensures.inside; sums = c.in_ok-spread-2.ensures.sums; fewer = c.in_ok-spread-2.ensures.fewer }),
      takes_then c.loop-way.invariant.1 c.spread-in-loop-way.ensures.takes,
    )

pub tally::ways_inside-returns-clause-sums : goal.tally::ways_inside-returns-clause-sums
tally::ways_inside-returns-clause-sums g t c = λ f.
    let m = g.V.Lent.meaning in
    let place = c.args.place.now in
    rounds-sums m c.args.segments.now (m c.args.evaluation.now.root) (m place.value) place.ways
    c.deref-way-items.result.now c.loop-way.way-index c.loop-way.children c.deref-way-items.ensures.value
    c.loop-way.invariant.0 c.loop-way-test.false f

pub tally::ways_inside-returns-clause-fewer : goal.tally::ways_inside-returns-clause-fewer
tally::ways_inside-returns-clause-fewer g t c =
    let m = g.V.Lent.meaning in
    let place = c.args.place.now in
    rounds-fewer m c.args.segments.now (m c.args.evaluation.now.root) (m place.value) place.ways
    c.deref-way-items.result.now c.loop-way.way-index c.loop-way.children c.deref-way-items.ensures.value
    c.loop-way.invariant.0 c.loop-way-test.false

pub tally::tally-loop-place-init : goal.tally::tally-loop-place-init
tally::tally-loop-place-init g t c =
    let m = g.V.Lent.meaning in (
      tallies-begun m c.args.segments.now (m c.args.evaluation.now.root) c.args.start _
          c.in_ok-places.places.items refl c.in_ok-places.ensures,
      omega arith,
      c.take.ensures.takes,
    )

pub tally::tally-loop-place-preserved : goal.tally::tally-loop-place-preserved
tally::tally-loop-place-preserved g t c =
    let m = g.V.Lent.meaning in
    let all = c.args.segments.now in
    let d = m c.args.evaluation.now.root in
    let ns = reaches (segments_left all 0) d (root_of (m c.args.start)) in (
      tallies-more m all d ns c.loop-place.tallied c.add.new.self c.loop-place.places.items
          c.pop.new.self.items c.push_children.new.places.items c.in-Some.place c.ended.result
          c.in_ok-children.children c.loop-place.invariant.0 c.in-Some.ensures.items
          (record { ended = c.ended.ensures; count = c.add.ensures.count; first = c.add.ensures.first })
          c.in_ok-children.ensures.sums (λ h. c.in_ok-push_children.ensures (m c.in-Some.place.value) h c.in_ok-children.ensures.inside),
      c.if-tallied-most.false,
      takes_then c.loop-place.invariant.2 c.ways_inside.ensures.takes,
    )

pub tally::tally-loop-place-smaller : goal.tally::tally-loop-place-smaller
tally::tally-loop-place-smaller g t c =
    let m = g.V.Lent.meaning in
    tallies-less m c.args.segments.now c.loop-place.places.items c.pop.new.self.items
    c.push_children.new.places.items c.in-Some.place c.in_ok-children.children
    c.in-Some.ensures.items c.in_ok-children.ensures.fewer (λ h. c.in_ok-push_children.ensures (m c.in-Some.place.value) h c.in_ok-children.ensures.inside)

pub tally::tally-returns-then-tallied-most-clause-tells : goal.tally::tally-returns-then-tallied-most-clause-tells
tally::tally-returns-then-tallied-most-clause-tells g t c =
    let m = g.V.Lent.meaning in
    let all = c.args.segments.now in
    let d = m c.args.evaluation.now.root in
    let ns = reaches (segments_left all 0) d (root_of (m c.args.start)) in
    tells-more m all d ns c.args.most c.loop-place.tallied c.add.new.self c.loop-place.places.items
    c.pop.new.self.items c.in-Some.place c.ended.result c.loop-place.invariant.0 c.in-Some.ensures.items
    (record { ended = c.ended.ensures; count = c.add.ensures.count; first = c.add.ensures.first })
    c.if-tallied-most.true

pub tally::tally-returns-clause-tells : goal.tally::tally-returns-clause-tells
tally::tally-returns-clause-tells g t c =
    let m = g.V.Lent.meaning in
    let all = c.args.segments.now in
    let d = m c.args.evaluation.now.root in
    let ns = reaches (segments_left all 0) d (root_of (m c.args.start)) in
    tells-all m all d ns c.args.most c.loop-place.tallied c.loop-place.places.items
    c.loop-place.invariant.0
    (omega (arith, c.loop-place.places.ok.0, c.in_default.ensures.cases.0)) c.loop-place.invariant.1

pub tally::tally-returns-clause-first : goal.tally::tally-returns-clause-first
tally::tally-returns-clause-first g t c = λ few single f.
    let m = g.V.Lent.meaning in
    let all = c.args.segments.now in
    let d = m c.args.evaluation.now.root in
    let ns = reaches (segments_left all 0) d (root_of (m c.args.start)) in
    tells-first m all d ns c.loop-place.tallied c.loop-place.places.items
    c.loop-place.invariant.0
    (omega (arith, c.loop-place.places.ok.0, c.in_default.ensures.cases.0)) single f

pub filter::Asking::only_value-returns-then-tallied-eq1-clause-gives :
    goal.filter::Asking::only_value-returns-then-tallied-eq1-clause-gives
filter::Asking::only_value-returns-then-tallied-eq1-clause-gives g t c =
    let m = g.V.Lent.meaning in
    let q = c.args.nodes.query.now in
    let d = m c.args.self.now.evaluation.now.root in
    let n = root_of (m c.args.self.now.current) in
    let all = c.deref-then-may_meet.result.now in
    let there = all_reached m q all d n c.start-start.result (sym c.deref-then-may_meet.ensures.value)
    c.start-start.ensures in
    let one = one-told m c.in_ok-tallied.tallied
    (reaches (segments_left all 0) d (root_of (m c.start-start.result)))
    c.in_ok-tallied.ensures.tells
    (λ f. c.in_ok-tallied.ensures.first (omega arith) (omega arith) f)
    c.if-tallied-eq1.true in
    let plain : c.args.nodes.distinct ≡ false = search rules in
    one ∙ ap only_value there
    ∙ ap (λ b. only_value (counted b (nodelist_at (query_of q) d n))) (sym plain)
