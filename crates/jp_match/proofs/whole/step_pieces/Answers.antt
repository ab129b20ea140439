use Rattle.std.proofs.Common.{◌≡◌, length, drop, ap, ◌∙◌, arith}
use Rattle.jp_match.proofs.Patterns.Items.{drop_item, drop_all}
use Rattle.jp_match.proofs.Steps.Sweeping.{before_piece, swept_next_piece, swept_pieces}
use Rattle.jp_match.proofs.Steps.Sweeping.{tests_then, tests_up_to}
use Rattle.jp_match.proofs.Steps.Whole.{all_moved, all_ended}
use Rattle.jp_match.proofs.whole.step_pieces.Goals as goal

pub returns-then-is_nowhere : goal.returns-then-is_nowhere
returns-then-is_nowhere c =
    let so_far = c.loop-piece.invariant in
    rw c.none.ensures (all_ended c.args.end c.requires so_far.swept so_far.ahead so_far.tests
    (omega (arith, c.if-sweep-end.true)) (c.is_nowhere.ensures.0 c.if-is_nowhere.true))

pub step_next-through-requires : goal.step_next-through-requires
step_next-through-requires c =
    let item = drop_item c.args.parts.now c.loop-piece.piece-index c.piece-item.result
    c.loop-piece-test.true c.piece-item.is in
    before_piece _ _ (rw item at c.loop-piece.invariant.swept.before)

pub loop-piece-preserved : goal.loop-piece-preserved
loop-piece-preserved c =
    let item = drop_item c.args.parts.now c.loop-piece.piece-index c.piece-item.result
    c.loop-piece-test.true c.piece-item.is in
    let so_far = rw item at c.loop-piece.invariant.swept in
    let moves = c.step_next-through.ensures in
    record {
      swept = swept_next_piece _ _ so_far moves;
      ahead = λ k over. moves.marks.above k over ∙ c.loop-piece.invariant.ahead k (omega (
        arith,
        moves.at,
        over,
      ));
      tests = tests_up_to (omega (arith, moves.at)) (tests_then c.loop-piece.invariant.tests
          moves.tests);
    }

pub returns : goal.returns
returns c =
    let end : c.loop-piece.piece-index ≡ length c.args.parts.now = omega arith in
    let none = ap (λ n. drop n c.args.parts.now) end ∙ drop_all c.args.parts.now in
    all_moved c.args.end c.requires (swept_pieces (rw none at c.loop-piece.invariant.swept))
