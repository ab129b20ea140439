use Rattle.std.proofs.Common.{◌≡◌, true, rules}
use Rattle.jp_flat.specs.Flat.{shown}
use Rattle.jp_flat.proofs.ByKeys.{same_trans}
use Rattle.jp_flat.proofs.sinking.all_sink.Goals as goal

pub returns-then-not-sinks-clause-same : goal.returns-then-not-sinks-clause-same
returns-then-not-sinks-clause-same c =
    same_trans (shown c.args.tables.now) c.args.members.now c.loop-index.members
    c.sinks.new.members c.loop-index.invariant.same c.sinks.ensures.same

pub loop-index-preserved : goal.loop-index-preserved
loop-index-preserved c =
    let sank : c.sinks.result ≡ true = search rules in
    record {
      same =
          same_trans (shown c.args.tables.now) c.args.members.now c.loop-index.members
          c.sinks.new.members c.loop-index.invariant.same c.sinks.ensures.same;
      rise = c.sinks.ensures.rise c.loop-index.invariant.rise sank;
    }
