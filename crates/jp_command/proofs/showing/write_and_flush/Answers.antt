use Rattle.std.proofs.Common.{◌∙◌}
use Rattle.std.proofs.lemmas.Result.{on_err_weaker, on_ok_weaker}
use Rattle.jp_command.proofs.Calls.{failure-behind, go-flushed}
use Rattle.jp_command.proofs.Streams.{Appends-keeps, prefix-whole}
use Rattle.jp_command.proofs.showing.write_and_flush.Goals as goal

pub returns : goal.returns
returns g c =
    let all = c.in_ok-write_all.ensures in
    let written = Appends-keeps _ _ _ _ all.ok.written c.flush.ensures.bytes in
    record {
      ok = on_ok_weaker c.flush.result (λ works. record { written = written; works = works ∙ all.ok.works })
          c.flush.ensures.works;
      prefix = on_err_weaker c.flush.result (λ fails. prefix-whole _ _ _ written) c.flush.ensures.fails;
      failed = c.flush.ensures.fails;
      calls = on_ok_weaker c.flush.result (λ done. go-flushed _ _ _ _ _ all.calls done) c.flush.ensures.done;
      stopped = on_err_weaker c.flush.result (λ stopped. failure-behind _ _ _ _ _ all.calls stopped)
          c.flush.ensures.stopped;
      handed_on = c.flush.ensures.handed_on;
    }
