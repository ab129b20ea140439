use Rattle.jp_tree.specs.Views.{query_of}
use Rattle.jp_c.specs.Explained.{accepted}
use Rattle.jp_c.proofs.explained.explained_text.Goals.{in-Ok, in-Err}
use Rattle.jp_c.proofs.explained.explained_text.Goals as goal

pub returns : goal.returns
returns c =
    elim c.match-read_query.branch [
      | in-Ok w ↦ rw w.result-is
          (accepted (query_of w.in-Ok.field-0.query)
          (record { utf8 = c.requires; accepted = w.in-Ok.ensures.accepted }) w.new.ensures.bytes)
      | in-Err w ↦ rw w.result-is w.refused_text.ensures
    ]
