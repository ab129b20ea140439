use Rattle.jp_json.proofs.Leading.{colon-leads}
use Rattle.jp_json.proofs.run.behind_quote.Goals as goal

pub returns-in-Key : goal.returns-in-Key
returns-in-Key c =
    rw c.in-Key.is
    (colon-leads c.args.bytes.now c.if-bytes-gt1.true c.if-bytes-ne34.false c.if-bytes-eq58.true)
