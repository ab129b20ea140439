use Rattle.std.proofs.Common.{sym, ap, refl, ◌∙◌, arith}
use lib.Count.{count_trailing_zeros}
use Rattle.json.specs.Run.{is_plain, is_stop}
use Rattle.jp_flat.proofs.Blocks.{run_bound, run_stops, run_through}
use Rattle.jp_flat.proofs.runs.plain_end.Goals as goal

pub returns-then-found-ne0-clause-value : goal.returns-then-found-ne0-clause-value
returns-then-found-ne0-clause-value c =
    let found = c.stops-found in
    let run =
    run_stops is_stop is_plain (λ x. refl) c.args.bytes.now c.lanes.at 16 (omega arith) (omega arith)
    (omega (arith, found.ensures)) ∙ ap (count_trailing_zeros 64) (sym found.ensures) in
    omega (arith, run, c.lanes.invariant.0)

pub returns-then-found-ne0-clause-within : goal.returns-then-found-ne0-clause-within
returns-then-found-ne0-clause-within c =
    let found = c.stops-found in
    let run =
    run_stops is_stop is_plain (λ x. refl) c.args.bytes.now c.lanes.at 16 (omega arith) (omega arith)
    (omega (arith, found.ensures)) ∙ ap (count_trailing_zeros 64) (sym found.ensures) in
    omega (arith, run, run_bound is_plain c.args.bytes.now c.lanes.at c.lanes.invariant.1)

pub lanes-preserved : goal.lanes-preserved
lanes-preserved c =
    let run =
    run_through is_stop is_plain (λ x. refl) c.args.bytes.now c.lanes.at 16 (omega arith)
    (omega (arith, c.stops-found.ensures)) in
    (omega (arith, run, c.lanes.invariant.0), omega arith)

pub returns-clause-within : goal.returns-clause-within
returns-clause-within c =
    omega (arith, run_bound is_plain c.args.bytes.now c.lanes.at c.lanes.invariant.1)
