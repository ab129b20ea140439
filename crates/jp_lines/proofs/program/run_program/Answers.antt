use Rattle.std.proofs.Common.{map, rules, string_bytes}
use Rattle.jp_lines.proofs.program.run_program.Goals as goal

pub returns-in-Ok : goal.returns-in-Ok
returns-in-Ok g c = c.do_job.ensures (map string_bytes c.args.words.items) (search rules)
