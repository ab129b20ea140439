-- A value in a JSON list, behind another.
use Rattle.std.specs.Prelude.{ℕ, List, ◌∷◌}
use Rattle.jp_reading.specs.Characters.{comma}
use Rattle.jp_document.specs.Text.{text_of}
use Rattle.jp_document.specs.Value.{Value}

abbrev pub behind_comma : Value → List ℕ
behind_comma v = comma ∷ text_of v
