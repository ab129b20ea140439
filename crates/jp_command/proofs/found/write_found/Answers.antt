use Rattle.std.proofs.Common.{rules}
use Rattle.jp_command.proofs.Calls.{go-none, goes-nowhere}
use Rattle.jp_command.proofs.found.write_found.Goals as goal

pub returns-in_default-clause-calls : goal.returns-in_default-clause-calls
returns-in_default-clause-calls g c = go-none _ _ _ (search rules)

pub returns-in_err-push_str-clause-calls : goal.returns-in_err-push_str-clause-calls
returns-in_err-push_str-clause-calls g c = goes-nowhere _ _ _ _ c.from_residual.ensures.1

pub returns-in_err-push_line_at-clause-calls : goal.returns-in_err-push_line_at-clause-calls
returns-in_err-push_line_at-clause-calls g c =
    goes-nowhere _ _ _ _ c.from_residual-in_err-push_line_at.ensures.1
