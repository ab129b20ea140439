use Rattle.std.proofs.Common.{rules}
use Rattle.jp_command.proofs.Calls.{go-none}
use Rattle.jp_command.proofs.eval.write_named.Goals as goal

pub returns-in_default-clause-calls : goal.returns-in_default-clause-calls
returns-in_default-clause-calls g c = go-none _ _ _ (search rules)
