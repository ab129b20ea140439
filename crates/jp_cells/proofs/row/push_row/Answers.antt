use Rattle.std.proofs.Common.{[]}
use Rattle.jp_cells.specs.Fields.{field_text}
use Rattle.jp_cells.specs.Rows.{separator}
use Rattle.jp_cells.proofs.Joining.{goes-on}
use Rattle.jp_cells.proofs.row.push_row.Goals as goal

pub loop-column-preserved : goal.loop-column-preserved
loop-column-preserved c = record {
  cells =
      goes-on (separator c.args.style.format) (field_text c.args.style) (λ s. s.now)
      c.args.cells.now c.loop-column.column (record { ref_ptr = (0, 0); now = [] }) _ _ _ _
      c.loop-column-test.true c.loop-column.invariant.cells c.in_ok-push_separator.ensures
      c.in_ok-push_field.ensures;
}
