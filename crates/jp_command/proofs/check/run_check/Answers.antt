use Rattle.std.proofs.Common.{refl}
use Rattle.jp_tree.specs.Views.{query_of}
use Rattle.jp_command.specs.Check.{accepted_line}
use Rattle.jp_command.proofs.check.run_check.Goals as goal

pub returns : goal.returns
returns g c =
    let q = query_of c.in_ok-read_within_limit.field-0.query in
    let asked = c.in_ok-read_within_limit.ensures.asked in
    record {
      says = record {
        output = accepted_line q;
        is = record { q = q; asked = asked; is = refl };
        writes = c.in-Ok.ensures.ok;
      };
      calls = (accepted_line q, record { q = q; asked = asked; is = refl }, c.in-Ok.ensures.calls);
    }
