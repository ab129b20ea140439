use Rattle.jp_query.specs.Levels.{filter_level_limit}
use Rattle.jp_tree.specs.Views.{expr_of}
use Rattle.jp_query.proofs.ComponentSpans.{filter-spans}
use Rattle.jp_query.proofs.parsed_filter.ParsedFilter.spans.Goals as goal

pub returns-clause-each : goal.returns-clause-each
returns-clause-each c =
    let text = c.self.invariant.0 in
    let spelled = c.self.invariant.1 in
    rw (c.deref.ensures.value, ← c.self.view_is) (
      text,
      spelled,
      filter-spans filter_level_limit
          (expr_of c.self.inside.expr.value) c.self.inside.spans.items text spelled,
    )
