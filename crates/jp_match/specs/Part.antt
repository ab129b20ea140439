-- Whether some part of a text is in a language, as jp_iregexp defines it.
pub use Rattle.jp_iregexp.specs.Part.{HasPart}
