use Rattle.jp_document.proofs.Paths.Differ.{paths-differ, nodes-differ}
use Rattle.jp_document.proofs.laws.paths_differ.Goals as goal

pub returns : goal.returns
returns c = record { locations = paths-differ; nodes = nodes-differ }
