use Rattle.std.proofs.Common.{◌-◌, length, arith}
use Rattle.jp_document.proofs.Spellings.Blocks.{end-stands}
use Rattle.jp_document.proofs.spelling.is_plain_long.Goals as goal

pub returns-then-text-front-lt-LANES : goal.returns-then-text-front-lt-LANES
returns-then-text-front-lt-LANES c =
    end-stands c.args.quote c.plain_blocks-front.result (length c.args.text.now - 16) 16
    c.args.text.now _ (omega arith) (omega arith) c.plain_blocks-front.ensures.plain
    c.is_plain_at.ensures
