use Rattle.std.proofs.Common.{◌≡◌, ◌+◌, ◌≤◌, ◌<◌, get_or, length, Some, arith}
use Rattle.std.proofs.lemmas.Grind.{common_steps}
use Rattle.json.specs.Text.{short_escape}
use Rattle.jp_flat.proofs.Undone.{itself}
use Rattle.jp_flat.proofs.escapes.is_escaped_itself.Goals as goal

pub returns-in-34 : goal.returns-in-34
unfolding short_escape
returns-in-34 c =
    let d = c.args.bytes.now in
    let at = c.args.at in
    let within : at + 2 ≤ length d = grind arith in
    let slash : get_or d at 0 ≡ 92 = grind arith in
    let short : short_escape (get_or d (at + 1) 0) ≡ Some (get_or d (at + 1) 0) =
    grind (arith, common_steps) in
    let low : get_or d (at + 1) 0 < 128 = grind arith in
    itself d at within slash short low
