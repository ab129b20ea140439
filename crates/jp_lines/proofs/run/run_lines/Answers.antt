use Rattle.std.proofs.Common.{refl, rules}
use Rattle.jp_tree.specs.Views.{query_of}
use Rattle.jp_lines.specs.Request.{SelectBy}
use Rattle.jp_lines.specs.declared.options.Extent.TheVariants.{All}
use Rattle.jp_lines.proofs.Asking.{asked-runs}
use Rattle.jp_lines.proofs.run.run_lines.Goals as goal

pub returns : goal.returns
returns g c =
    let request = SelectBy c.args.wanted All c.args.query.now in
    asked-runs c.args.options g.R.Source.remaining g.R.Source.has_failed
    g.R.Source.read_gives g.W.Writer.contents g.W.Writer.has_failed g.E.Writer.contents
    g.E.Writer.has_failed request _ _ _ _ _ _ c.run_selected.result
    (c.run_selected.ensures request (query_of c.in_ok-query.query.query, refl, search rules))
