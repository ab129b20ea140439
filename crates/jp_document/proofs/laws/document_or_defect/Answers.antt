use Rattle.jp_document.proofs.Readings.Defects.{document_or_defect}
use Rattle.jp_document.proofs.laws.document_or_defect.Goals as goal

pub returns : goal.returns
returns c = document_or_defect
