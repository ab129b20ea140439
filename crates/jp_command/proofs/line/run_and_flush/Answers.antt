use Rattle.jp_command.proofs.Calls.{go-flushed}
use Rattle.jp_command.proofs.Flushes.{calls-fail, calls-work, flush-fails, flush-works}
use Rattle.jp_command.proofs.line.run_and_flush.Goals as goal

pub returns-in-Ok : goal.returns-in-Ok
returns-in-Ok g c = record {
  says = flush-works c.args.asked.now.profile _ _ _ _ _ c.args.asked.now.task c.args.asked.now.query.now _ _ _ _ _
      c.in_ok-status.ensures.says c.in-Ok.ensures.bytes c.in-Ok.ensures.works;
  calls = calls-work _ _ _ _ _ c.in_ok-status.ensures.calls c.in-Ok.ensures.done;
  done = record {
    output = c.in_ok-status.ensures.done.output;
    is = c.in_ok-status.ensures.done.is;
    goes = go-flushed g.W.Writer.write_takes _ _ _ c.in_ok-status.ensures.done.output
        c.in_ok-status.ensures.done.goes c.in-Ok.ensures.done;
    ends = c.in_ok-status.ensures.done.ends;
  };
  kept = tt;
  handed_on = c.in-Ok.ensures.handed_on;
}

pub returns-in-Err : goal.returns-in-Err
returns-in-Err g c = record {
  says = flush-fails c.args.asked.now.profile _ _ _ _ _ c.args.asked.now.task c.args.asked.now.query.now _ _ _ _ _
      c.in_ok-status.ensures.says c.in-Err.ensures.bytes c.in-Err.ensures.fails;
  calls = calls-fail _ _ _ _ _ c.in_ok-status.ensures.calls c.in-Err.ensures.stopped;
  done = tt;
  kept = tt;
  handed_on = tt;
}
