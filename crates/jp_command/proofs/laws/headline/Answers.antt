use Rattle.jp_check.specs.Numbers.{numbers}
use Rattle.jp_command.proofs.Headline.{accepted-is_taken, answered-is_accepted, law-of}
use Rattle.jp_command.proofs.Headline.{line-is_written, writes-nodelist}
use Rattle.jp_command.specs.Canon.{canon_line}
use Rattle.jp_command.specs.Check.{accepted_line}
use Rattle.jp_command.proofs.laws.headline.Goals as goal

pub returns : goal.returns
returns g c profile = let law = law-of (numbers profile) c.document_or_defect.ensures c.exact_or_defect.ensures in record {
  documents = law;
  whole_documents = c.exact_documents.ensures.exact;
  queries = c.one_answer.ensures profile;
  accepted = accepted-is_taken profile _ _ _ _ _ law;
  no_other = answered-is_accepted profile _ _ _ _ _;
  asked = λ nodes text i j o p run. (run.is.q, run.is.asked);
  refused = λ nodes text i j o p r run. run;
  refused_document = λ nodes text i j o p f run. run;
  refused_large = λ nodes text i j o p run. run;
  nodelist = writes-nodelist profile _ _ _ _ _ law (c.one_answer.ensures profile);
  matches = c.tested_matches.ensures.whole;
  part_matches = c.tested_matches.ensures.part;
  own_nodes = c.selects_nodes_alone.ensures;
  children = c.children_are_exact.ensures;
  paths = c.paths_differ.ensures.nodes;
  path_selects = c.path_selects_its_node.ensures;
  extended = c.standard_is_extended.ensures;
  extended_decimal = c.decimal_is_extended.ensures;
  whole_queries = c.whole_is_decimal.ensures;
  canonical_texts = c.canon_tells_apart.ensures;
  canonical_lines = line-is_written profile _ _ _ _ _ canon_line;
  checked_lines = line-is_written profile _ _ _ _ _ accepted_line;
  syntax_places = c.one_refusal.ensures;
  fault_places = c.fault_at_its_component.ensures profile;
}
