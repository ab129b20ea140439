use Rattle.jp_document.proofs.Spellings.Characters.{low-hex}
use Rattle.jp_document.proofs.name_reader.hexchar.Goals as goal

pub hex_value-requires : goal.hex_value-requires
hex_value-requires c = low-hex c.in_ok-low.low c.in_ok-low.ensures.member
