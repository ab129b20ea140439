use Rattle.jp_lines.proofs.OneLine.{one_line}
use Rattle.jp_lines.proofs.laws.one_line_is_a_document.Goals as goal

pub returns : goal.returns
returns g c =
    one_line g.R.Source.remaining g.R.Source.has_failed g.R.Source.read_gives
    g.W.Writer.contents g.W.Writer.has_failed g.E.Writer.contents g.E.Writer.has_failed
