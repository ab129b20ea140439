use Rattle.std.proofs.Common.{◌≡◌, ◌∙◌, IfErr, IfOk, ap, length, subst, sym}
use Rattle.jp_reading.specs.Characters.{tab}
use Rattle.jp_flat.specs.FlatValue.{lent_flat}
use Rattle.jp_tree.specs.Views.{query_of}
use Rattle.jp_evaluate.specs.Nodelist.{nodelist}
use Rattle.jp_evaluate.specs.Plan.{nodes_read}
use Rattle.jp_command.specs.Found.{found_nodes}
use Rattle.jp_command.specs.Written.{StopsWriting}
use Rattle.jp_lines.specs.Outcome.{lead_of}
use Rattle.jp_lines.specs.Private.Limits.{WritesOrGivesUp, WritesWithin}
use Rattle.jp_lines.specs.Task.{nodes_output, nodes_within}
use Rattle.jp_lines.proofs.FoundValues.{found-read}
use Rattle.jp_lines.proofs.answer.write_read.Goals as goal

pub returns-in-Value : goal.returns-in-Value
returns-in-Value g c =
    let options = c.args.asked.options in
    let wanted = c.args.selection.wanted in
    let extent = c.args.selection.extent in
    let q = query_of c.args.selection.query.now.query in
    let lead = lead_of tab options.numbered c.args.number in
    let o = c.args.output.now in
    let p = c.write_wanted_at.new.output in
    let r = c.write_wanted_at.result in
    let same : found_nodes lent_flat c.in-Value.location.now c.value-value.result
    ≡ nodes_within extent (nodes_read q c.args.read.now) =
    found-read lent_flat extent q c.in-Value.location c.in-Value.found c.value-value.result
    c.value-value.ensures
    ∙ ap (λ e. nodes_within extent (nodes_read q e)) (sym c.in-Value.is) in
    record {
      ok = subst
          (λ ns. IfOk r
          (WritesOrGivesUp g.W.Writer.contents g.W.Writer.has_failed options (length ns)
          (nodes_output wanted lead ns) o p))
          same c.write_wanted_at.ensures.ok;
      stopped = subst
          (λ ns. IfErr r
          (StopsWriting g.W.Writer.contents g.W.Writer.has_failed o p (nodes_output wanted lead ns)))
          same c.write_wanted_at.ensures.stopped;
      within = subst
          (λ ns. IfErr r
          (WritesWithin g.W.Writer.contents g.W.Writer.has_failed options (length ns)
          (nodes_output wanted lead ns) o p))
          same c.write_wanted_at.ensures.within;
    }

pub returns-in-Document : goal.returns-in-Document
returns-in-Document g c =
    let options = c.args.asked.options in
    let wanted = c.args.selection.wanted in
    let extent = c.args.selection.extent in
    let q = query_of c.args.selection.query.now.query in
    let lead = lead_of tab options.numbered c.args.number in
    let o = c.args.output.now in
    let p = c.write_selection.new.output in
    let r = c.write_selection.result in
    let same : nodelist q (lent_flat c.value-root.result) ≡ nodes_read q c.args.read.now =
    ap (nodelist q) c.value-root.ensures ∙ ap (nodes_read q) (sym c.in-Document.is) in
    record {
      ok = subst
          (λ ns. IfOk r
          (WritesOrGivesUp g.W.Writer.contents g.W.Writer.has_failed options
          (length (nodes_within extent ns)) (nodes_output wanted lead (nodes_within extent ns)) o p))
          same c.write_selection.ensures.ok;
      stopped = subst
          (λ ns. IfErr r
          (StopsWriting g.W.Writer.contents g.W.Writer.has_failed o p
          (nodes_output wanted lead (nodes_within extent ns))))
          same c.write_selection.ensures.stopped;
      within = subst
          (λ ns. IfErr r
          (WritesWithin g.W.Writer.contents g.W.Writer.has_failed options
          (length (nodes_within extent ns)) (nodes_output wanted lead (nodes_within extent ns)) o p))
          same c.write_selection.ensures.within;
    }
