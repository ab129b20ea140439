-- The functions and their names (RFC 9535 section 2.4).
use Rattle.std.specs.Prelude.{ℕ, List, [], ◌∷◌, ◌++◌, Option, codes}
use Rattle.std.specs.Map.{lookup}
use Rattle.std.specs.Str.{bytes_eq}
use Rattle.jp_tree.specs.declared.function.Function.{Function}
use Rattle.jp_tree.specs.declared.function.Function.TheVariants.{Length, Count, Match, Search}
use Rattle.jp_tree.specs.declared.function.Function.TheVariants.{ValueOf, Distinct}

-- the functions of the standard and their names (sections 2.4.4 to 2.4.8)
abbrev pub standard_functions : List (List ℕ × Function)
standard_functions =
    (codes "length", Length)
    ∷ (codes "count", Count)
    ∷ (codes "match", Match)
    ∷ (codes "search", Search)
    ∷ (codes "value", ValueOf)
    ∷ []

-- those that are added to them, as section 2.4 provides for
abbrev pub added_functions : List (List ℕ × Function)
added_functions = (codes "distinct", Distinct) ∷ []

-- all of them and their names
abbrev pub all_functions : List (List ℕ × Function)
all_functions = standard_functions ++ added_functions

-- the function of that name, given as scalar values, if there is one
abbrev pub function_of_name : List ℕ → Option Function
function_of_name name = lookup (bytes_eq name) all_functions
