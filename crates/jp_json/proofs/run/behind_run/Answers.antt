use Rattle.jp_json.proofs.Staying.{run-then}
use Rattle.jp_json.proofs.run.behind_run.Goals as goal
use Rattle.jp_json.proofs.run.behind_run.Goals.{in-Text, in_default}

pub returns-clause-run : goal.returns-clause-run
returns-clause-run c =
    elim c.match-state.branch [
      | in-Text w ↦
          let run = rw w.rest-is at c.behind_ascii.ensures.run in
          run-then c.args.state c.args.state c.behind_ascii.result.0 c.args.text.now w.behind_text-rest.result.now
          c.behind_ascii.result.1.now (rw w.in-Text.is (w.behind_text-rest.ensures.run w.in-Text.field-0)) run
      | in_default w ↦ rw w.rest-is at c.behind_ascii.ensures.run
    ]
