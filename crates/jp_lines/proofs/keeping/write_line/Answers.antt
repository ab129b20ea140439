use Rattle.std.proofs.Common.{◌++◌, codes}
use Rattle.jp_lines.proofs.LineLemmas.{err-is}
use Rattle.jp_lines.proofs.ToldLemmas.{stops-first, stops-result, stops-second}
use Rattle.jp_lines.proofs.keeping.write_line.Goals as goal

pub returns-in_err-write_bytes-clause-stopped : goal.returns-in_err-write_bytes-clause-stopped
returns-in_err-write_bytes-clause-stopped g c =
    err-is c.from_residual-in_err-write_bytes.result c.in_err-write_bytes.field-0.0 _
    c.from_residual-in_err-write_bytes.ensures.1
    (stops-second g.W.Writer.contents g.W.Writer.has_failed _ _ _ c.args.lead.now
    (c.args.line.now ++ codes "\n") _ c.in_ok-write_text.ensures.ok
    (stops-first g.W.Writer.contents g.W.Writer.has_failed _ _ c.args.line.now (codes "\n") _
    c.in_err-write_bytes.ensures.stopped))

pub returns-clause-stopped : goal.returns-clause-stopped
returns-clause-stopped g c =
    stops-result g.W.Writer.contents g.W.Writer.has_failed c.args.output.now
    c.write_text.new.output c.write_bytes-2.new.output c.args.lead.now
    (c.args.line.now ++ codes "\n") c.write_bytes-2.result c.in_ok-write_text.ensures.ok
    (stops-result g.W.Writer.contents g.W.Writer.has_failed c.write_text.new.output
    c.write_bytes.new.output c.write_bytes-2.new.output c.args.line.now (codes "\n")
    c.write_bytes-2.result c.in_ok-write_bytes.ensures.ok c.write_bytes-2.ensures.stopped)
