use Rattle.jp_lines.proofs.HandingOn.{zero-hands_on}
use Rattle.jp_lines.proofs.laws.hands_on_all.Goals as goal

pub returns : goal.returns
returns g c =
    zero-hands_on g.I.Inputs.opens g.I.Input.Source.remaining g.I.Input.Source.has_failed
    g.I.Input.Source.read_gives g.W.Writer.contents g.W.Writer.has_failed g.W.Writer.write_takes
    g.W.Output.holds_back g.E.Writer.contents g.E.Writer.has_failed g.W.Writer.hung_up
