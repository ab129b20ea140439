-- A text that was read, with its pattern.
use Rattle.std.specs.Prelude.{◌≡◌, option_map, string_bytes}
use Rattle.std.specs.Str.{chars}
use Rattle.jp_iregexp.specs.PatternOf.{pattern_of}
use Rattle.jp_iregexp.specs.Tree.{tree}
use Rattle.jp_evaluate.specs.declared.pattern.ReadText.TheInside.{Inside}

-- the pattern is the one that the text spells
abbrev pub IsReadInside : Inside → Type 0
IsReadInside r = pattern_of (chars (string_bytes r.text)) ≡ option_map (λ p. tree p.pattern) r.pattern
