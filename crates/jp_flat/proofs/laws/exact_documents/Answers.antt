use Rattle.jp_flat.proofs.ExactLaws.{document-is-exact, whole-is-document}
use Rattle.jp_flat.proofs.laws.exact_documents.Goals as goal

pub returns-clause-exact : goal.returns-clause-exact
returns-clause-exact c = document-is-exact

pub returns-clause-whole : goal.returns-clause-whole
returns-clause-whole c = whole-is-document
