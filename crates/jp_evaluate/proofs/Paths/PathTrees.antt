-- The steps of locations that the standard's queries can name.
use Rattle.std.proofs.Common.{◌≤◌, IsUtf8, [], ◌∷◌}
use Rattle.jp_reading.specs.Numbers.{largest_exact}
use Rattle.jp_document.specs.Location.{Step, Location, named, nth}

-- the name of a step is a text, its index in range
abbrev pub StepFits : Step → Type 0
StepFits (named s) = IsUtf8 s
StepFits (nth i) = i ≤ largest_exact

abbrev pub StepsFit : Location → Type 0
StepsFit [] = Unit {0}
StepsFit (k ∷ l) = StepFits k × StepsFit l
