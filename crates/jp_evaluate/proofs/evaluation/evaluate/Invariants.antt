use Rattle.std.proofs.Common.{◌≡◌, ◌++◌, false, map}
use Rattle.jp_held.specs.Held.{document_of}
use Rattle.jp_document.specs.Node.{node_of}
use Rattle.jp_tree.specs.Views.{query_of}
use Rattle.jp_evaluate.specs.Nodelist.{nodelist}
use Rattle.jp_evaluate.specs.Rest.{has_failed, rest_of}
use Rattle.jp_evaluate.proofs.evaluation.evaluate.Given as goal

-- the nodes so far and those to come are the nodelist
abbrev pub invariant-loop-next : goal.invariant-loop-next
invariant-loop-next g l = record {
  working : has_failed l.next-iterator ≡ false;
  all : map node_of l.selected.items ++ rest_of l.next-iterator
      ≡ nodelist (query_of l.query.query) (document_of l.document);
}
