use Rattle.std.proofs.Common.{◌≡◌, ◌++◌, ◌∷◌, [], ◌<◌, Some, length, arith, refl, rules, ◌∙◌}
use Rattle.json.specs.Json.{after_end_array}
use Rattle.jp_flat.specs.Asked.{is_listed, with_members}
use Rattle.jp_flat.specs.Flat.{shown}
use Rattle.jp_flat.specs.Private.Kept.{KeepsFlat}
use Rattle.jp_flat.proofs.PickedParts.{items-begin, items-end, items-more}
use Rattle.jp_flat.proofs.picking.picked_items.Goals as goal

pub items-init : goal.items-init
items-init _ c = record {
  so =
      let at : c.len-base.result ≡ length c.args.pending.now.items.items = search rules in
      items-begin (is_listed c.args.names.now) c.args.depth c.args.reader.now.tokens
      (shown c.args.tables.now) c.len-base.result c.args.pending.now.items.items at;
  exact = refl;
  text = search rules;
}

pub items-preserved : goal.items-preserved
items-preserved _ c =
    let l = c.items in
    let p = is_listed c.args.names.now in
    let same : c.take_end_array.new.self.tokens ≡ l.reader.tokens = grind arith in
    let done = c.in_ok-item.ensures in
    let i = c.in_ok-item.item in
    let r = c.picked_object.new.reader.tokens in
    let u = shown c.picked_object.new.tables in
    let less : length r < length l.reader.tokens = rw (← same) done.shorter in
    let pushed : c.put.new.table.items ≡ l.pending.items.items ++ i ∷ [] = search rules in
    let read : KeepsFlat (λ v w. w ≡ with_members p v) c.args.depth l.reader.tokens r u i =
    rw (← same) done.keeps in
    record {
      so = rw pushed
          (items-more p c.args.depth c.args.reader.now.tokens l.reader.tokens r (shown l.tables) u
          c.len-base.result c.args.pending.now.items.items l.pending.items.items i less done.grows
          read l.invariant.so);
      exact = done.grows.exact ∙ l.invariant.exact;
      text = search rules;
    }

pub returns-clause-keeps : goal.returns-clause-keeps
returns-clause-keeps _ c =
    let l = c.items in
    let over : after_end_array l.reader.tokens ≡ Some c.take_end_array.new.self.tokens = grind arith in
    items-end (is_listed c.args.names.now) c.args.depth c.args.reader.now.tokens l.reader.tokens
    c.take_end_array.new.self.tokens (shown l.tables) (shown c.close_list.new.tables)
    c.len-base.result c.args.pending.now.items.items l.pending.items.items c.in_ok-list.list over
    c.in_ok-list.ensures.few c.in_ok-list.ensures.list c.in_ok-list.ensures.grows l.invariant.so

pub returns-clause-exact : goal.returns-clause-exact
returns-clause-exact _ c = c.in_ok-list.ensures.grows.exact ∙ c.items.invariant.exact
