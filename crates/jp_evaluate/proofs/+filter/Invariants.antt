use Rattle.std.proofs.Common.{◌≡◌, ◌≤◌, ◌+◌, ℕ, suc, Bool, List, drop, length, map}
use Rattle.std.specs.Option.{option_map_or}
use Rattle.jp_document.specs.Node.{Node, root_of}
use Rattle.jp_document.specs.Value.{Value}
use Rattle.jp_tree.specs.declared.tree.Expr.{Expr}
use Rattle.jp_tree.specs.declared.tree.Query.{out-Query}
use Rattle.jp_tree.specs.Tree.{ExprTrees, exprs}
use Rattle.jp_tree.specs.Views.{argument_of, call_of, expr_of}
use Rattle.jp_tree.specs.Tree.{segments}
use Rattle.jp_tree.specs.Views.{operand_of, query_of, segment_of}
use Rattle.jp_select.specs.Steps.{Takes}
use Rattle.jp_evaluate.specs.Nodelist.{all_hold, any_holds, nodelist_at}
use Rattle.jp_evaluate.specs.Private.Due.{Pays, walk_cost}
use Rattle.jp_evaluate.specs.Private.Asked.{asked}
use Rattle.jp_evaluate.specs.Private.Sizes.{argument_size, call_size, expr_size, exprs_size}
use Rattle.jp_evaluate.specs.Private.Sizes.{operand_size, query_size, segments_size}
use Rattle.jp_evaluate.specs.Private.Calls.{counted}
use Rattle.jp_evaluate.specs.Private.Selecting.{to_come}
use Rattle.jp_evaluate.specs.Private.Tally.{places_sum, way_cost, way_weight}
use Rattle.jp_evaluate.specs.Private.Walk.{Keeps, frame_choices, reaches, segments_left, walk_reaches}
use Rattle.jp_evaluate.specs.Private.Walk.{walk_weight}
use Rattle.jp_evaluate.specs.declared.filter.Asking.{Asking}
use Rattle.jp_evaluate.proofs.Walks.Spreading.{Spreads}
use Rattle.jp_evaluate.proofs.Walks.Tallying.{Rounds, Tallies}
use Rattle.jp_evaluate.proofs.+filter.Given as goal

-- ---- what is asked gets smaller

abbrev pub decreases-walk::Walk::advance : goal.decreases-walk::Walk::advance
decreases-walk::Walk::advance g l = suc (segments_size (segments (map segment_of l.segments.now)))

abbrev pub decreases-walk::Offer::passes : goal.decreases-walk::Offer::passes
decreases-walk::Offer::passes g l =
    option_map_or (λ e. suc (expr_size (expr_of e.now))) l.self.now.test 0

abbrev pub decreases-selecting::Selecting::next : goal.decreases-selecting::Selecting::next
decreases-selecting::Selecting::next g l =
    suc (suc (segments_size (segments (map segment_of l.self.now.segments.now))))

abbrev pub decreases-filter::Asking::holds : goal.decreases-filter::Asking::holds
decreases-filter::Asking::holds g l = expr_size (expr_of l.expr.now)

abbrev pub decreases-filter::Asking::any_holds : goal.decreases-filter::Asking::any_holds
decreases-filter::Asking::any_holds g l = exprs_size (exprs (map expr_of l.parts.now))

abbrev pub decreases-filter::Asking::all_hold : goal.decreases-filter::Asking::all_hold
decreases-filter::Asking::all_hold g l = exprs_size (exprs (map expr_of l.parts.now))

abbrev pub decreases-filter::Asking::selects_some : goal.decreases-filter::Asking::selects_some
decreases-filter::Asking::selects_some g l = query_size (query_of l.query.now)

abbrev pub decreases-filter::Asking::operand_value : goal.decreases-filter::Asking::operand_value
decreases-filter::Asking::operand_value g l = operand_size (operand_of l.operand.now)

abbrev pub decreases-filter::Asking::call_value : goal.decreases-filter::Asking::call_value
decreases-filter::Asking::call_value g l = call_size (call_of l.call.now)

abbrev pub decreases-filter::Asking::value_of_nodes : goal.decreases-filter::Asking::value_of_nodes
decreases-filter::Asking::value_of_nodes g l = suc (query_size (query_of l.nodes.query.now))

abbrev pub decreases-filter::Asking::call_holds : goal.decreases-filter::Asking::call_holds
decreases-filter::Asking::call_holds g l = call_size (call_of l.call.now)

abbrev pub decreases-filter::Asking::argument_text : goal.decreases-filter::Asking::argument_text
decreases-filter::Asking::argument_text g l = argument_size (argument_of l.argument.now)

abbrev pub decreases-filter::Asking::argument_value : goal.decreases-filter::Asking::argument_value
decreases-filter::Asking::argument_value g l = argument_size (argument_of l.argument.now)

abbrev pub decreases-filter::Asking::node_count : goal.decreases-filter::Asking::node_count
decreases-filter::Asking::node_count g l = query_size (query_of l.nodes.query.now)

abbrev pub decreases-filter::Asking::only_value : goal.decreases-filter::Asking::only_value
decreases-filter::Asking::only_value g l = query_size (query_of l.nodes.query.now)

-- ---- loops

-- what was offered so far reached nothing
abbrev pub invariant-walk::Walk::advance-loop-self : goal.invariant-walk::Walk::advance-loop-self
invariant-walk::Walk::advance-loop-self g l = record {
  same : walk_reaches g.V.Lent.meaning l.segments (g.V.Lent.meaning l.evaluation.root) l.self
      ≡ walk_reaches g.V.Lent.meaning l.segments (g.V.Lent.meaning l.evaluation.root) l.fn.self;
  keeps : Keeps l.fn.self l.self;
  costs : Pays (walk_cost g.V.Lent.meaning l.segments (g.V.Lent.meaning l.evaluation.root) l.fn.self)
      (walk_cost g.V.Lent.meaning l.segments (g.V.Lent.meaning l.evaluation.root) l.self)
      l.fn.work.steps l.work.steps;
  taken : Takes l.fn.work.steps l.work.steps;
}

abbrev pub decreases-walk::Walk::advance-loop-self : goal.decreases-walk::Walk::advance-loop-self
decreases-walk::Walk::advance-loop-self g l = walk_weight g.V.Lent.meaning l.segments l.self

-- the parts from i on decide
abbrev rest_decides : {V M : Type 0} → (V → Value) → Asking V M → (ExprTrees → Value → Node → Bool)
    → List Expr → ℕ → Type 0
rest_decides m a truth es i =
    asked m a (truth (exprs (map expr_of (drop i es)))) ≡ asked m a (truth (exprs (map expr_of es)))

abbrev pub invariant-filter::Asking::any_holds-loop-part :
    goal.invariant-filter::Asking::any_holds-loop-part
invariant-filter::Asking::any_holds-loop-part g l =
    rest_decides g.V.Lent.meaning l.self any_holds l.parts l.part-index
    × Takes l.fn.work.steps l.work.steps

abbrev pub invariant-filter::Asking::all_hold-loop-part :
    goal.invariant-filter::Asking::all_hold-loop-part
invariant-filter::Asking::all_hold-loop-part g l =
    rest_decides g.V.Lent.meaning l.self all_hold l.parts l.part-index
    × Takes l.fn.work.steps l.work.steps

-- the nodes so far and those to come are all
abbrev pub invariant-filter::Asking::node_count-loop-selecting :
    goal.invariant-filter::Asking::node_count-loop-selecting
invariant-filter::Asking::node_count-loop-selecting g l =
    (l.selecting.segments.now ≡ (out-Query l.nodes.query.now).segments.items)
    × (l.count + length (to_come g.V.Lent.meaning (g.V.Lent.meaning l.self.evaluation.now.root) l.selecting)
    ≡ length (counted l.nodes.distinct (asked g.V.Lent.meaning l.self (nodelist_at (query_of l.nodes.query.now)))))
    × Takes l.fn.work.steps l.work.steps

abbrev pub decreases-filter::Asking::node_count-loop-selecting :
    goal.decreases-filter::Asking::node_count-loop-selecting
decreases-filter::Asking::node_count-loop-selecting g l =
    length (to_come g.V.Lent.meaning (g.V.Lent.meaning l.self.evaluation.now.root) l.selecting)

-- what was passed over did not count
abbrev pub invariant-selecting::Selecting::next-loop-reached :
    goal.invariant-selecting::Selecting::next-loop-reached
invariant-selecting::Selecting::next-loop-reached g l =
    (l.self.segments ≡ l.fn.self.segments)
    × (to_come g.V.Lent.meaning (g.V.Lent.meaning l.evaluation.root) l.self
    ≡ to_come g.V.Lent.meaning (g.V.Lent.meaning l.evaluation.root) l.fn.self)
    × Takes l.fn.work.steps l.work.steps

abbrev pub decreases-selecting::Selecting::next-loop-reached :
    goal.decreases-selecting::Selecting::next-loop-reached
decreases-selecting::Selecting::next-loop-reached g l =
    length (walk_reaches g.V.Lent.meaning l.self.segments.now (g.V.Lent.meaning l.evaluation.root) l.self.walk)

-- ---- tallies

abbrev pub decreases-tally::tally : goal.decreases-tally::tally
decreases-tally::tally g l =
    suc (suc (suc (segments_size (segments (map segment_of l.segments.now)))))

abbrev pub decreases-tally::ways_inside : goal.decreases-tally::ways_inside
decreases-tally::ways_inside g l =
    suc (suc (segments_size (segments (map segment_of l.segments.now))))

abbrev pub decreases-tally::spread : goal.decreases-tally::spread
decreases-tally::spread g l = suc (segments_size (segments (map segment_of l.segments.now)))

-- the nodes that were counted and those to which the places lead are all
abbrev pub invariant-tally::tally-loop-place : goal.invariant-tally::tally-loop-place
invariant-tally::tally-loop-place g l =
    let m = g.V.Lent.meaning in
    let d = m l.evaluation.root in
    Tallies m l.segments d (reaches (segments_left l.segments 0) d (root_of (m l.fn.start))) l.tallied l.places.items
    × (l.tallied.count ≤ l.most)
    × Takes l.fn.work.steps l.work.steps

abbrev pub decreases-tally::tally-loop-place : goal.decreases-tally::tally-loop-place
decreases-tally::tally-loop-place g l =
    places_sum g.V.Lent.meaning (way_weight l.segments) l.places.items

-- the ways up to this one went over
abbrev pub invariant-tally::ways_inside-loop-way : goal.invariant-tally::ways_inside-loop-way
invariant-tally::ways_inside-loop-way g l =
    let m = g.V.Lent.meaning in
    Rounds m l.segments (m l.evaluation.root) (m l.place.value) l.place.ways l.way-index l.children
    × Takes l.fn.work.steps l.work.steps

-- the choices up to this one went over
abbrev pub invariant-tally::spread-loop-offer : goal.invariant-tally::spread-loop-offer
invariant-tally::spread-loop-offer g l =
    let m = g.V.Lent.meaning in
    Spreads m l.segments (m l.evaluation.root) l.fn.value l.way l.fn.children l.frame l.children
    × Takes l.fn.work.steps l.work.steps
    × Pays (way_cost l.segments (m l.fn.value) l.way.done) (length (frame_choices m l.segments l.frame))
    l.fn.work.steps l.work.steps

abbrev pub decreases-tally::spread-loop-offer : goal.decreases-tally::spread-loop-offer
decreases-tally::spread-loop-offer g l = length (frame_choices g.V.Lent.meaning l.segments l.frame)
