use Rattle.std.proofs.Common.{◌≡◌, ◌∷◌, [], arith}
use Rattle.jp_document.specs.Spelling.{spelling}
use Rattle.jp_document.proofs.Spellings.Blocks.{holds-further}
use Rattle.jp_document.proofs.spelling.plain_blocks.Goals as goal

pub lanes-preserved : goal.lanes-preserved
lanes-preserved c = record {
  within =
      (let more = c.lanes-test.true in let next = c.plain_lanes-next.ensures.within in omega arith);
  plain =
      holds-further (λ b. spelling c.args.quote b ≡ b ∷ []) c.lanes.plain c.plain_lanes-next.result 16
      c.args.text.now c.plain_lanes-next.ensures.within c.lanes.invariant.plain
      c.plain_lanes-next.ensures.plain;
}

pub returns-then-next-lt-LANES-clause-plain : goal.returns-then-next-lt-LANES-clause-plain
returns-then-next-lt-LANES-clause-plain c =
    holds-further (λ b. spelling c.args.quote b ≡ b ∷ []) c.lanes.plain c.plain_lanes-next.result 16
    c.args.text.now c.plain_lanes-next.ensures.within c.lanes.invariant.plain
    c.plain_lanes-next.ensures.plain
