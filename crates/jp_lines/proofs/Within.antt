-- Of which nodes it is written.
use Rattle.std.proofs.Common.{◌≡◌, List, refl}
use Rattle.jp_command.specs.Selecting.{first_nodes}
use Rattle.jp_document.specs.Node.{Node}
use Rattle.jp_lines.specs.Private.Limits.{most_within}
use Rattle.jp_lines.specs.Task.{nodes_within}
use Rattle.jp_lines.specs.declared.options.Extent.{Extent}
use Rattle.jp_lines.specs.declared.options.Extent.TheVariants.{All, First}

pub first_within : (extent : Extent) (ns : List Node)
    → first_nodes (most_within extent) ns ≡ nodes_within extent ns
first_within All ns = refl
first_within First ns = refl
