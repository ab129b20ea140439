-- What a mended text is put together of.
use Rattle.std.specs.Str.{chars}
use Rattle.jp_reading.specs.Texts.{Text}
use Rattle.jp_explain.specs.declared.mends.Piece.{Piece}
use Rattle.jp_explain.specs.declared.mends.Piece.TheVariants.{Kept, New}

-- the characters of a piece
abbrev pub piece_text : Piece → Text
piece_text (Kept kept) = kept.now
piece_text (New word) = chars word.now
