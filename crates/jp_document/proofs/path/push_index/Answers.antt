use Rattle.std.proofs.Common.{rules}
use Rattle.jp_document.proofs.Spellings.Indexes.{decimal-index_text}
use Rattle.jp_document.proofs.path.push_index.Goals as goal

pub returns : goal.returns
returns c = search (rules, decimal-index_text)
