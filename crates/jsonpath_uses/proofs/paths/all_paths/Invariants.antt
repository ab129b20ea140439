use Rattle.std.proofs.Common.{◌≡◌, ◌++◌, drop, map, string_bytes}
use Rattle.jsonpath.specs.Held.{document_of}
use Rattle.jsonpath.specs.Node.{node_of}
use Rattle.jsonpath.specs.Nodelist.{nodelist}
use Rattle.jsonpath.specs.Views.{query_of}
use Rattle.jsonpath_uses.specs.Paths.{path_of_node}
use Rattle.jsonpath_uses.proofs.paths.all_paths.Given as goal

-- the paths so far and those of the nodes to come are the paths of the nodelist
abbrev pub invariant-loop-node : goal.invariant-loop-node
invariant-loop-node l =
    map string_bytes l.paths.items
    ++ map path_of_node (map node_of (drop l.node-index l.node-items))
    ≡ map path_of_node (nodelist (query_of l.query.query) (document_of l.document))
