use Rattle.jp_json.proofs.Staying.{behind-front, front-boundary}
use Rattle.jp_json.proofs.run.behind_plain.Goals as goal

pub range_from-requires : goal.range_from-requires
range_from-requires c _ =
    rw (c.unescaped_front.ensures, c.as_bytes.ensures.value) (front-boundary c.args.text.now c.utf8.text)

pub returns-clause-run : goal.returns-clause-run
returns-clause-run c =
    rw (c.range_from.ensures.value, c.unescaped_front.ensures, c.as_bytes.ensures.value)
    (behind-front c.args.text.now c.utf8.text).0
