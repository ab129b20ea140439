use Rattle.jp_document.proofs.spelling.is_plain_at.Goals as goal

pub returns : goal.returns
returns c = c.is_plain_block.ensures
