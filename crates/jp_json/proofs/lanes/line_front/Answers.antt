use Rattle.std.proofs.Common.{sym, ap, ◌∙◌, arith}
use lib.Count.{count_trailing_zeros}
use Rattle.jp_json.specs.Private.Fronts.{is_plain, is_line_stop as is_stop}
use Rattle.jp_json.proofs.Blocks.{plain-stop, run-stops, run-through}
use Rattle.jp_json.proofs.lanes.line_front.Goals as goal

pub returns-then-found-ne0 : goal.returns-then-found-ne0
returns-then-found-ne0 c =
    let found = c.line_stops-found in
    let run =
    run-stops is_stop is_plain plain-stop c.args.bytes.now c.lanes.end 16 (omega arith) (omega arith)
    (omega (arith, found.ensures)) ∙ ap (count_trailing_zeros 64) (sym found.ensures) in
    omega (arith, run, c.lanes.invariant.0)

pub lanes-preserved : goal.lanes-preserved
lanes-preserved c =
    let run =
    run-through is_stop is_plain plain-stop c.args.bytes.now c.lanes.end 16 (omega arith)
    (omega (arith, c.line_stops-found.ensures)) in
    (omega (arith, run, c.lanes.invariant.0), omega arith)
