-- The steps for names of a document that are compared, where values or locations are looked up by
-- them.
use Rattle.std.specs.Prelude.{◌+◌, ◌/◌, ℕ, length, sum_by}
use Rattle.jp_document.specs.Location.{Location, Step, named, nth}

-- for the name of a step: one for each 16 bytes; none for an index
abbrev pub name_steps : Step → ℕ
name_steps (named s) = length s / 16
name_steps (nth i) = 0

-- for a location: those for its names, and one for each 4 of its steps
abbrev pub location_steps : Location → ℕ
location_steps l = length l / 4 + sum_by name_steps l
