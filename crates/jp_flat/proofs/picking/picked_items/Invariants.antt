use Rattle.std.proofs.Common.{◌≡◌, length}
use Rattle.jp_flat.specs.Asked.{is_listed}
use Rattle.jp_flat.specs.Flat.{shown}
use Rattle.jp_flat.proofs.PickedParts.{ItemsPicked}
use Rattle.jp_flat.proofs.picking.picked_items.Given as goal

abbrev pub invariant-items : goal.invariant-items
invariant-items _ l = record {
  so : ItemsPicked (is_listed l.names) l.depth l.initial.reader.tokens l.reader.tokens (shown l.tables)
      l.base l.initial.pending.items.items l.pending.items.items;
  exact : l.tables.exact ≡ l.initial.tables.exact;
  text : (l.reader.text ≡ l.tables.text.now) × (l.reader.text ≡ l.initial.reader.text);
}

abbrev pub decreases-items : goal.decreases-items
decreases-items _ l = length l.reader.tokens
