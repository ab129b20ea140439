use Rattle.jp_json.proofs.Fronts.{behind-front, front-boundary}
use Rattle.jp_json.proofs.place.behind_plain_front.Goals as goal

pub range_from-requires : goal.range_from-requires
range_from-requires c some =
    front-boundary c.args.text.now c.args.most c.plain_front.result c.utf8.text c.plain_front.ensures some

pub returns-clause-front : goal.returns-clause-front
returns-clause-front c =
    rw c.range_from.ensures.value
    (behind-front c.args.text.now c.args.most c.plain_front.result c.utf8.text c.plain_front.ensures).0
