use Rattle.std.proofs.Common.{◌≡◌, ◌++◌, map, string_bytes, take}
use Rattle.std.specs.List.{join_with_byte}
use Rattle.jp_tree.specs.Views.{query_of}
use Rattle.jp_select.specs.Steps.{Takes}
use Rattle.jp_cells.specs.Columns.{cell_of, nodes_in}
use Rattle.jp_cells.specs.Fields.{field_text}
use Rattle.jp_cells.specs.Rows.{separator}
use Rattle.jp_cells.proofs.columns.push_columns.Given as goal

-- the cells of the queries that were gone over are in the row
abbrev pub invariant-loop-column : goal.invariant-loop-column
invariant-loop-column g l = record {
  cells : string_bytes l.row ≡ string_bytes l.initial.row
      ++ join_with_byte (separator l.style.format)
      (map (λ q. field_text l.style (cell_of l.style.raw (g.V.Lent.meaning l.root) q))
      (take l.column (map (λ c. query_of c.query) l.queries)));
  count : l.count
      ≡ nodes_in (g.V.Lent.meaning l.root) (take l.column (map (λ c. query_of c.query) l.queries));
  taken : Takes l.fn.steps l.steps;
}
