use Rattle.std.proofs.Common.{◌∷◌, refl, rules}
use Rattle.jp_flat.specs.Flat.{shown}
use Rattle.jp_flat.specs.Private.Tokens.{token_of}
use Rattle.jp_flat.proofs.Leaves.{leaf-read}
use Rattle.jp_flat.proofs.reading.value_behind.Goals as goal

pub returns-in_ok-item-in_default : goal.returns-in_ok-item-in_default
returns-in_ok-item-in_default _ c =
    let k = token_of c.args.token in
    let r = c.args.reader.now.tokens in
    let done = c.in_ok-item-in_default.ensures in
    record {
      reads = leaf-read c.args.depth (k ∷ r) r k (shown c.leaf.new.tables)
          c.in_ok-item-in_default.item refl done.leaf;
      good = done.good;
      grows = done.grows;
      items = search rules;
      members = search rules;
      shorter = search rules;
      text = search rules;
    }
