use Rattle.std.proofs.Common.{refl}
use Rattle.jp_command.proofs.Calls.{part-none}
use Rattle.jp_command.proofs.eval.write_first.Goals as goal

pub returns-in_default-clause-calls : goal.returns-in_default-clause-calls
returns-in_default-clause-calls g c = part-none _ _ _ _ refl
