use Rattle.std.proofs.Common.{◌≢◌, length, arith}
use Rattle.jp_evaluate.proofs.Parts.Arguments.{not_one_argument}
use Rattle.jp_evaluate.proofs.calls.only_argument.Goals as goal

pub returns-else-len-eq1 : goal.returns-else-len-eq1
returns-else-len-eq1 c =
    let f = c.args.call.now in
    let many : length f.arguments.items ≢ 1 =
    let long = f.arguments.ok.0 in omega (arith, c.len.ensures) in
    not_one_argument f many
