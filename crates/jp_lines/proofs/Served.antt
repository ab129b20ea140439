-- What is written of so much of a document as serves a task is what is written of the document: for
-- `answer_document`.
use Rattle.std.proofs.Common.{◌≡◌, ◌++◌, ◌∷◌, ℕ, Bool, List, [], All, ap, ap₂, codes, length, map, refl}
use Rattle.std.proofs.Common.{if◌then◌else◌}
use Rattle.std.specs.List.{flat_map}
use Rattle.std.proofs.lemmas.List.Elements.{All-head, All-tail}
use Rattle.jp_document.specs.Node.{Node}
use Rattle.jp_document.specs.Value.{Value}
use Rattle.jp_flat.specs.FlatValue.{document_in}
use Rattle.jp_flat.specs.declared.flat.Flat.{Flat}
use Rattle.jp_held.specs.declared.portion.Portion.{Portion}
use Rattle.jp_tree.specs.Tree.{QueryTree}
use Rattle.jp_evaluate.specs.Nodelist.{nodelist}
use Rattle.jp_decimal.specs.declared.numbers.Numbers.{Numbers}
use Rattle.jp_evaluate.specs.Plan.{HoldsPortion, Serves}
use Rattle.jp_cells.specs.Cells.{cell_text, values_in}
use Rattle.jp_cells.specs.Columns.{cell_of}
use Rattle.jp_cells.specs.Rows.{row_text}
use Rattle.jp_lines.specs.Private.Answers.{ServesTask}
use Rattle.jp_lines.specs.Task.{Keep, Select, Tabulate, Task, nodes_output, nodes_within, selected_in}
use Rattle.jp_lines.specs.Task.{written_for}

-- queries that P has select the same in u and in d
module _ (P : QueryTree → Type 0) (u d : Value)
    (each : (q : QueryTree) → P q → nodelist q u ≡ nodelist q d) where
  same-cells : (raw : Bool) (qs : List QueryTree) → All P qs
      → map (cell_of raw u) qs ≡ map (cell_of raw d) qs
  same-cells raw [] all = refl
  same-cells raw (q ∷ qs) all =
      ap₂ (λ c cs. c ∷ cs)
      (ap (λ (ns : List Node). cell_text raw (values_in ns)) (each q (All-head P q qs all)))
      (same-cells raw qs (All-tail P q qs all))

  same-nodes : (qs : List QueryTree) → All P qs
      → flat_map (λ q. nodelist q u) qs ≡ flat_map (λ q. nodelist q d) qs
  same-nodes [] all = refl
  same-nodes (q ∷ qs) all =
      ap₂ (λ ns ms. ns ++ ms) (each q (All-head P q qs all)) (same-nodes qs (All-tail P q qs all))

module _ (numbers : Numbers) (p : Portion) (bytes : List ℕ) (f : Flat) (x : HoldsPortion numbers p bytes f) where
  pub served-selected : (task : Task) → ServesTask task p
      → selected_in task (document_in f) ≡ selected_in task x.document
  served-selected (Select wanted extent q) serves =
      ap (λ ns. length (nodes_within extent ns)) (x.nodes q serves)
  served-selected (Keep e) serves = ap (λ b. if b then 1 else 0) (x.truth e serves)
  served-selected (Tabulate style qs) serves =
      ap length (same-nodes (λ q. Serves q p) (document_in f) x.document x.nodes qs serves)

  pub served-written : (task : Task) (lead line : List ℕ) → ServesTask task p
      → written_for task lead line (document_in f) ≡ written_for task lead line x.document
  served-written (Select wanted extent q) lead line serves =
      ap (λ ns. nodes_output wanted lead (nodes_within extent ns)) (x.nodes q serves)
  served-written (Keep e) lead line serves =
      ap (λ b. if b then lead ++ (line ++ codes "\n") else []) (x.truth e serves)
  served-written (Tabulate style qs) lead line serves =
      ap (λ cs. lead ++ row_text style cs)
      (same-cells (λ q. Serves q p) (document_in f) x.document x.nodes style.raw qs serves)
