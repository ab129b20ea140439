-- Which types are wanted where, and what fits them (RFC 9535 sections 2.4.2 and 2.4.3).
use Rattle.std.specs.Prelude.{◌≡◌, ◌==◌, ℕ, Bool, true, false, List, []}
use Rattle.std.specs.Prelude.{Option, Some, None, length, if◌then◌else◌}
use Rattle.std.specs.List.{slice_get}
use Rattle.jp_query.specs.Components.{Use, as_side, as_test, as_argument}
use Rattle.jp_check.specs.declared.functions.DataType.{DataType}
use Rattle.jp_check.specs.declared.functions.DataType.TheVariants.{Value, Logical, Nodes}
use Rattle.jp_check.specs.declared.profile.Profile.{Profile}
use Rattle.jp_check.specs.Functions.{Signature, signature_named}

-- whether what has the first type fits where the second is wanted: nodes also stand for whether
-- there is one (section 2.4.2)
abbrev pub fits : DataType → DataType → Bool
fits Value Value = true
fits Logical Logical = true
fits Nodes Nodes = true
fits Nodes Logical = true
fits _ _ = false

-- the types that are wanted of so many arguments: those of the function's parameters, where there
-- is such a function and it has as many
abbrev pub wanted_of_arguments : Option Signature → ℕ → List DataType
wanted_of_arguments None in_all = []
wanted_of_arguments (Some function) in_all =
    if length function.parameters == in_all then function.parameters else []

-- the type that is wanted where a component is, if one is: a value as a side of a comparison, a logical
-- value as a test (section 2.3.5.1), and as an argument the type of the parameter
abbrev pub wanted : Profile → Use → Option DataType
wanted profile as_side = Some Value
wanted profile as_test = Some Logical
wanted profile (as_argument name before in_all) =
    slice_get (wanted_of_arguments (signature_named profile name) in_all) before
wanted profile _ = None

-- a type is wanted, and what has the first type doesn't fit
abbrev pub IsMisfit : DataType → Option DataType → Type 0
IsMisfit own None = ⊥
IsMisfit own (Some other) = fits own other ≡ false
