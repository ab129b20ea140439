-- The node that was found at a location. `found.rt` says what is written of it.
use Rattle.std.specs.Prelude.{List, Option, map, option_map, option_to_list}
use Rattle.jp_document.specs.Location.{owned_step}
use Rattle.jp_document.specs.Node.{Node, node_at}
use Rattle.jp_document.specs.Value.{Value}
use Rattle.jp_document.specs.declared.location.OwnedStep.{OwnedStep}

-- the node of these steps and of the value that was found there, where m says what it stands for;
-- no node where none was found
abbrev pub found_nodes : {V : Type 0} → (V → Value) → List OwnedStep → Option V → List Node
found_nodes m ks found = map (node_at (map owned_step ks)) (option_to_list (option_map m found))
