use Rattle.jp_document.proofs.Descent.Entries.{document-names_rise}
use Rattle.jp_document.proofs.laws.document_names_rise.Goals as goal

pub returns : goal.returns
returns c = document-names_rise
