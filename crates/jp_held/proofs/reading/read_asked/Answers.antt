use Rattle.jp_flat.specs.FlatValue.{document_in}
use Rattle.jp_flat.proofs.KeptDocuments.{kept-whole}
use Rattle.jp_held.proofs.reading.read_asked.Goals as goal

pub returns-in-Ok-read_by_tree-clause-ok : goal.returns-in-Ok-read_by_tree-clause-ok
returns-in-Ok-read_by_tree-clause-ok c =
    let d = document_in c.in-Ok-read_by_tree.flat in
    record {
      document = d;
      is = c.in-Ok-read_by_tree.ensures.ok;
      kept = kept-whole c.args.asked.now d;
    }
