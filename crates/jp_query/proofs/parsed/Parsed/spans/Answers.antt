use Rattle.jp_query.specs.Levels.{level_limit}
use Rattle.jp_tree.specs.Views.{query_of}
use Rattle.jp_query.proofs.ComponentSpans.{spans-of_components}
use Rattle.jp_query.proofs.parsed.Parsed.spans.Goals as goal

pub returns-clause-each : goal.returns-clause-each
returns-clause-each c =
    let text = c.self.invariant.0 in
    let spelled = c.self.invariant.1 in
    rw (c.deref.ensures.value, ← c.self.view_is) (
      text,
      spelled,
      spans-of_components level_limit
          (query_of c.self.inside.query) c.self.inside.spans.items text spelled,
    )
