use Rattle.jp_json.specs.declared.state.Role.TheVariants.{Plain}
use Rattle.jp_json.specs.declared.state.State.TheVariants as state
use Rattle.jp_json.proofs.Leading.{led-behind, led-boundary}
use Rattle.jp_json.proofs.run.behind_escape.Goals as goal

pub range_from-requires : goal.range_from-requires
range_from-requires c _ =
    led-boundary (state.Text Plain) (state.Text Plain) c.args.text.now c.escape_size.result c.utf8.text
    (rw c.as_bytes.ensures.value at c.escape_size.ensures Plain)

pub returns-in_default-clause-run : goal.returns-in_default-clause-run
returns-in_default-clause-run c r =
    rw c.range_from.ensures.value
    (led-behind (state.Text r) (state.Text r) c.args.text.now c.escape_size.result c.utf8.text
    (rw c.as_bytes.ensures.value at c.escape_size.ensures r))
