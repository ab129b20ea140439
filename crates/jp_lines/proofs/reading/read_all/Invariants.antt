use Rattle.std.proofs.Common.{map, take}
use Rattle.jp_tree.specs.Views.{query_of}
use Rattle.jp_lines.specs.Request.{AreAsked}
use Rattle.jp_lines.proofs.reading.read_all.Given as goal

-- the texts that were gone over are accepted
abbrev pub invariant-loop-text : goal.invariant-loop-text
invariant-loop-text l = record {
  asked : AreAsked l.profile (take l.text-index (map (λ t. t.now) l.texts))
      (map (λ c. query_of c.query) l.queries.items);
}
