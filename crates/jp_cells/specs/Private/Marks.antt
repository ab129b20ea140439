-- The characters that a format has a spelling for.
use Rattle.std.specs.Prelude.{ℕ, Bool, ◌==◌, ◌||◌}
use Rattle.jp_reading.specs.Characters.{backslash, carriage_return, double_quote, line_feed, tab}
use Rattle.jp_cells.specs.declared.style.Format.{Format}
use Rattle.jp_cells.specs.declared.style.Format.TheVariants.{Tabs, Csv}

abbrev pub is_marked : Format → ℕ → Bool
is_marked Tabs c = c == tab || c == line_feed || c == carriage_return || c == backslash
is_marked Csv c = c == double_quote
