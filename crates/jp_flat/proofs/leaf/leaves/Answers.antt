use Rattle.std.proofs.Common.{◌≡◌, ◌∷◌, ◌++◌, [], arith, length, rules, ap}
use Rattle.jp_flat.specs.Flat.{shown}
use Rattle.jp_flat.specs.Private.Reading.{with_items}
use Rattle.jp_flat.specs.Private.Tokens.{token_of}
use Rattle.jp_flat.proofs.Loops.{leaves_begin, leaves_more}
use Rattle.jp_flat.proofs.leaf.leaves.Goals as goal

pub leaves-init : goal.leaves-init
leaves-init _ c = record {
  so = leaves_begin c.args.reader.now.tokens (shown c.args.tables.now);
  text = search rules;
  shorter = search rules;
}

pub leaves-preserved : goal.leaves-preserved
leaves-preserved _ c =
    let l = c.leaves in
    let k = token_of c.in_ok-token.token in
    let i = c.in_ok-item-in_default.item in
    let done = c.in_ok-item-in_default.ensures in
    let u = shown c.leaf.new.tables in
    let w = shown (record c.leaf.new.tables { items = c.put.new.table }) in
    let first : l.reader.tokens ≡ k ∷ c.next.new.self.tokens = c.in_ok-token.ensures.reads done.good in
    let pushed : w ≡ with_items u (u.items ++ i ∷ []) = search rules in
    record {
      so =
          leaves_more c.args.reader.now.tokens l.reader.tokens c.next.new.self.tokens k (shown c.args.tables.now)
          (shown l.tables) u w i first done.leaf done.grows done.items pushed l.invariant.so;
      text = search rules;
      shorter = omega (arith, ap length first, l.invariant.shorter);
    }
