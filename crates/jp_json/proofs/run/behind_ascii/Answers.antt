use Rattle.jp_json.proofs.Leading.{led-behind, led-boundary}
use Rattle.jp_json.proofs.run.behind_ascii.Goals as goal

pub range_from-requires : goal.range_from-requires
range_from-requires c _ =
    led-boundary c.args.state c.led-then.result.0 c.args.text.now c.led-then.result.1 c.utf8.text
    (rw c.as_bytes.ensures.value at c.led-then.ensures)

pub returns-clause-run : goal.returns-clause-run
returns-clause-run c =
    rw c.range_from.ensures.value
    (led-behind c.args.state c.led-then.result.0 c.args.text.now c.led-then.result.1 c.utf8.text
    (rw c.as_bytes.ensures.value at c.led-then.ensures))
