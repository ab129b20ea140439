use Rattle.std.proofs.Common.{◌≡◌, ◌≤◌, ◌++◌, false, length, map}
use Rattle.jp_evaluate.specs.Lent.{has_failed, rest_of, steps_of}
use Rattle.jp_flat.specs.FlatValue.{lent_flat}
use Rattle.jp_select.specs.Steps.{Counts, Takes}
use Rattle.jsonpath.specs.Find.{bytes_of, match_texts, texts_of}
use Rattle.jsonpath.proofs.finding.matches.Given as goal

-- the texts so far and those of the nodes to come are the texts of all; so far they keep to the limit
abbrev pub invariant-loop-next : goal.invariant-loop-next
invariant-loop-next l = record {
  working : has_failed l.nodes ≡ false;
  all : map match_texts l.found.items ++ map texts_of (rest_of lent_flat l.nodes)
      ≡ map texts_of (rest_of lent_flat l.fn.nodes);
  takes : Takes (steps_of l.fn.nodes) (steps_of l.nodes);
  few : Counts (length l.found.items) (steps_of l.fn.nodes) (steps_of l.nodes);
  nodes : length l.found.items ≤ l.most_nodes;
  size : l.size ≡ bytes_of (map match_texts l.found.items);
  bytes : l.size ≤ l.most_bytes;
}

abbrev pub decreases-loop-next : goal.decreases-loop-next
decreases-loop-next l = length (rest_of lent_flat l.nodes)
