use Rattle.std.proofs.lemmas.Bool.{OnTrue_from, eqb-true}
use Rattle.jp_document.proofs.Spellings.Blocks.{all-stand}
use Rattle.jp_document.proofs.spelling.is_plain_block.Goals as goal

pub returns : goal.returns
returns g c =
    OnTrue_from _ _ (λ zero. all-stand c.args.quote c.marks.result c.args.block c.marks.ensures
    (eqb-true _ _ zero))
