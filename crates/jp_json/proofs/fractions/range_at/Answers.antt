use Rattle.std.proofs.Common.{◌<◌, get_or, length}
use Rattle.jp_json.proofs.Cuts.{place-ascii}
use Rattle.jp_json.proofs.fractions.range_at.Goals as goal

pub returns-then-branch-clause-place : goal.returns-then-branch-clause-place
returns-then-branch-clause-place c = λ utf8.
    let ascii : (c.in-Some.number.start < length c.args.text.now)
    × (get_or c.args.text.now c.in-Some.number.start 0 < 128)
    = rw c.in-Some.is at c.in_ok-number.ensures.ascii in
    place-ascii c.args.text.now c.in-Some.number.start utf8 ascii.0 ascii.1
