use Rattle.jp_flat.specs.Flat.{shown}
use Rattle.jp_flat.proofs.Owned.{owned_same}
use Rattle.jp_flat.proofs.flat.Flat.owned.Goals as goal

pub invariant_of-result : goal.invariant_of-result
invariant_of-result c = record {
  sound = (owned_same (shown c.args.self.tables) (shown c.in_ok-tables.tables) c.args.self.root
      c.in_ok-tables.ensures c.args.self.sound).sound;
}

pub returns : goal.returns
returns c =
    (owned_same (shown c.args.self.tables) (shown c.in_ok-tables.tables) c.args.self.root
    c.in_ok-tables.ensures c.args.self.sound).means
