use Rattle.jp_lines.proofs.LineLemmas.{stops-made, within-made}
use Rattle.jp_lines.proofs.wanted.write_whole.Goals as goal

pub returns-in-Err-clause-stopped : goal.returns-in-Err-clause-stopped
returns-in-Err-clause-stopped g c =
    rw c.stop_of.ensures
    (stops-made g.W.Writer.contents g.W.Writer.has_failed c.in-Err.fault _ _ c.args.output.now)

pub returns-in-Err-clause-within : goal.returns-in-Err-clause-within
returns-in-Err-clause-within g c =
    rw c.stop_of.ensures
    (within-made g.W.Writer.contents g.W.Writer.has_failed c.args.asked.options _ _ c.args.output.now
    c.in-Err.fault _)
