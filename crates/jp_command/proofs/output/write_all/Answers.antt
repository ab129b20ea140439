use Rattle.std.proofs.Common.{rules}
use Rattle.jp_command.proofs.Streams.{left-all, left-less}
use Rattle.jp_command.proofs.output.write_all.Goals as goal

pub loop-rest-init : goal.loop-rest-init
loop-rest-init g c = record {
  left = left-all g.W.Writer.contents g.W.Writer.write_takes _ _;
  works = search rules;
}

pub loop-rest-preserved : goal.loop-rest-preserved
loop-rest-preserved g c = record {
  left = left-less _ _ _ _ _ _ c.loop-rest.rest.now c.in_ok-count.count
      c.loop-rest.invariant.left c.in_ok-count.ensures.bytes c.in_ok-count.ensures.call;
  works = search rules;
}
