-- The first of some nodes.
use Rattle.std.specs.Prelude.{List, [], ◌∷◌}
use Rattle.jsonpath.specs.Node.{Node}
use Rattle.jsonpath.specs.Value.{Value}

-- the value of the first node, or the other value where there is none
abbrev pub first_value : List Node → Value → Value
first_value [] other = other
first_value (n ∷ ns) other = n.value
