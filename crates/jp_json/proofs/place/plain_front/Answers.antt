use Rattle.std.proofs.Common.{arith}
use Rattle.jp_json.proofs.Fronts.{front-within}
use Rattle.jp_json.proofs.place.plain_front.Goals as goal

pub returns : goal.returns
returns c =
    let e = c.line_front.ensures in
    let m = c.min.ensures in
    let a = c.as_bytes.ensures.value in
    front-within c.args.text.now c.args.most c.min.result c.line_front.result (omega (arith, m)) (omega (arith, m))
    (rw a at e)
