use Rattle.std.proofs.Common.{◌≡◌, rules}
use Rattle.jp_tree.specs.Views.{query_of}
use Rattle.jp_command.specs.Canon.{canon_line}
use Rattle.jp_command.proofs.canon.run_canon.Goals as goal

pub returns : goal.returns
returns g c =
    let q = query_of c.in_ok-query.query.query in
    let asked = c.in_ok-query.ensures.asked in
    let line : c.as_bytes.result.now ≡ canon_line q = search rules in
    record {
      says = record {
        output = c.as_bytes.result.now;
        is = record { q = q; asked = asked; is = line };
        writes = c.in-Ok.ensures.ok;
      };
      calls = (
        c.as_bytes.result.now,
        record { q = q; asked = asked; is = line },
        c.in-Ok.ensures.calls,
      );
    }
