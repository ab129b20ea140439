-- Values with their names: for `json_of`.
use Rattle.std.specs.Prelude.{ℕ, List, []}
use Rattle.jp_document.specs.Location.{Step, named, nth}
use Rattle.jp_document.specs.Value.{Value}

-- the name at a step to a member
abbrev pub name_in : Step → List ℕ
name_in (named n) = n
name_in (nth i) = []

abbrev pub as_member : Step × Value → List ℕ × Value
as_member e = (name_in e.0, e.1)
