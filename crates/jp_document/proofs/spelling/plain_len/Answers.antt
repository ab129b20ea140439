use Rattle.jp_document.specs.Spelling.{spelling}
use Rattle.jp_document.proofs.Spellings.Blocks.{whole-stands}
use Rattle.jp_document.proofs.spelling.plain_len.Goals as goal

pub bytes-init : goal.bytes-init
bytes-init c = record {
  within = c.plain_blocks-plain.ensures.within;
  plain = whole-stands (spelling c.args.quote) _ c.plain_blocks-plain.ensures.plain;
}
