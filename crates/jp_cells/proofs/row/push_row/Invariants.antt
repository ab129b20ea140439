use Rattle.std.proofs.Common.{◌≡◌, ◌++◌, map, string_bytes, take}
use Rattle.std.specs.List.{join_with_byte}
use Rattle.jp_cells.specs.Fields.{field_text}
use Rattle.jp_cells.specs.Rows.{separator}
use Rattle.jp_cells.proofs.row.push_row.Given as goal

-- the cells that were gone over are in the row
abbrev pub invariant-loop-column : goal.invariant-loop-column
invariant-loop-column l = record {
  cells : string_bytes l.row ≡ string_bytes l.initial.row
      ++ join_with_byte (separator l.style.format)
      (map (field_text l.style) (take l.column (map (λ s. s.now) l.cells)));
}
