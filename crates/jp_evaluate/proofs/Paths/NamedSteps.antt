-- The steps for the location that a query names, name by name.
use Rattle.std.proofs.Common.{◌≡◌, ◌+◌, ◌/◌, ℕ, List, length}
use Rattle.jp_document.specs.Location.{Location}
use Rattle.jp_select.specs.Steps.{Counts, Takes}
use Rattle.jp_select.specs.declared.steps.Steps.{Steps}
use Rattle.jp_tree.specs.Tree.{QueryTree}
use Rattle.jp_tree.specs.declared.tree.Segment.{Segment}
use Rattle.std.specs.List.{sum_by}
use Rattle.std.proofs.Common.{drop}
use Rattle.jp_evaluate.specs.Private.Compared.{name_steps}
use Rattle.jp_evaluate.proofs.Paths.Steps.{Continues}

-- the first i segments name steps, and those for their names were made
pub record TakesNamed (q : QueryTree) (all : List Segment) (i : ℕ) (before after : Steps) : Type 0 where
  pub front : Location
  pub long : length front ≡ i
  pub continues : Continues q front (drop i all)
  pub takes : Takes before after
  pub counts : Counts (length all / 4 + sum_by name_steps front) before after
