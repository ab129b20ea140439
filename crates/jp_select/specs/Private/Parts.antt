-- Values compared by their parts.
use Rattle.std.specs.Prelude.{Bool, true, false, ◌&&◌, ◌==◌, List, [], ◌∷◌, Option, Some}
use Rattle.std.specs.Prelude.{bytes_eq}
use Rattle.jp_document.specs.Location.{Step, named, nth}
use Rattle.jp_document.specs.Value.{Value, list, object}
use Rattle.jp_select.specs.Comparison.{same_value}

-- a side is a list or an object
abbrev pub has_parts : Option Value → Bool
has_parts (Some (list vs)) = true
has_parts (Some (object ms)) = true
has_parts _ = false

-- the steps are one
abbrev pub same_key : Step → Step → Bool
same_key (named m) (named n) = bytes_eq m n
same_key (nth i) (nth j) = i == j
same_key _ _ = false

-- the steps are one, and the values the same
abbrev pub same_part : Step × Value → Step × Value → Bool
same_part e f = same_key e.0 f.0 && same_value e.1 f.1

-- there are as many, each the same as the other's
abbrev pub same_parts : List (Step × Value) → List (Step × Value) → Bool
same_parts [] [] = true
same_parts (e ∷ es) (f ∷ fs) = same_part e f && same_parts es fs
same_parts _ _ = false
