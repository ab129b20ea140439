-- What is written of the value that was read at the location that a query names.
use Rattle.std.proofs.Common.{◌≡◌, List, Option, Some, None, ap, is_some, map, option_map, option_to_list}
use Rattle.std.proofs.Common.{◌∙◌, if◌then◌else◌, length, refl}
use Rattle.std.specs.Borrow.{Bor}
use Rattle.jp_document.specs.Location.{owned_step}
use Rattle.jp_document.specs.Node.{node_at}
use Rattle.jp_document.specs.Value.{Value}
use Rattle.jp_document.specs.declared.location.OwnedStep.{OwnedStep}
use Rattle.jp_flat.specs.FlatValue.{document_in, flat_found}
use Rattle.jp_flat.specs.declared.flat.Found.{Found}
use Rattle.jp_held.specs.declared.portion.Excerpt.TheVariants as read
use Rattle.jp_tree.specs.Tree.{QueryTree}
use Rattle.jp_evaluate.specs.Plan.{nodes_read}
use Rattle.jp_command.specs.Found.{found_nodes}
use Rattle.jp_lines.specs.Task.{nodes_within}
use Rattle.jp_lines.specs.declared.options.Extent.{Extent}
use Rattle.jp_lines.specs.declared.options.Extent.TheVariants.{All, First}

module _ {V : Type 0} (m : V → Value) where
  -- it is all nodes and the first alone
  found-within : (extent : Extent) (ks : List OwnedStep) (found : Option V)
      → found_nodes m ks found ≡ nodes_within extent (found_nodes m ks found)
  found-within All ks found = refl
  found-within First ks None = refl
  found-within First ks (Some v) = refl

  -- it is the one node that was read for the query
  pub found-read : (extent : Extent) (q : QueryTree) (l : Bor (List OwnedStep)) (found : Found)
      (value : Option V) → option_map m value ≡ option_map document_in (flat_found found)
      → found_nodes m l.now value ≡ nodes_within extent (nodes_read q (read.Value l found))
  found-read extent q l found value same =
      found-within extent l.now value
      ∙ ap (λ o. nodes_within extent (map (node_at (map owned_step l.now)) (option_to_list o))) same

  pub found_count : (ks : List OwnedStep) (found : Option V)
      → (if is_some found then 1 else 0) ≡ length (found_nodes m ks found)
  found_count ks None = refl
  found_count ks (Some v) = refl
