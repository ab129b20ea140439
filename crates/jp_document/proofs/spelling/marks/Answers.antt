use Rattle.std.proofs.Common.{◌==◌, nat_lt, refl}
use Rattle.jp_document.proofs.Spellings.Blocks.{any-of-three}
use Rattle.jp_document.proofs.spelling.marks.Goals as goal

pub returns : goal.returns
returns g c =
    any-of-three nat_lt (λ a b. a == b) c.args.block _ _ _ g.row.N 32 c.args.quote 92 c.fits-block.0
    c.requires refl refl refl
