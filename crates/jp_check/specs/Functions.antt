-- The functions of each profile, with the types of their parameters and results (RFC 9535 section
-- 2.4).
use Rattle.std.specs.Prelude.{ℕ, List, [], ◌∷◌, Option, option_map}
use Rattle.std.specs.Map.{lookup}
use Rattle.std.specs.Str.{bytes_eq}
use Rattle.jp_tree.specs.declared.function.Function.{Function}
use Rattle.jp_tree.specs.declared.function.Function.TheVariants.{Length, Count, Match, Search}
use Rattle.jp_tree.specs.declared.function.Function.TheVariants.{ValueOf, Distinct}
use Rattle.jp_tree.specs.Functions.{all_functions, standard_functions}
use Rattle.jp_check.specs.declared.functions.DataType.{DataType}
use Rattle.jp_check.specs.declared.functions.DataType.TheVariants.{Value, Logical, Nodes}
use Rattle.jp_check.specs.declared.profile.Profile.{Profile}
use Rattle.jp_check.specs.declared.profile.Profile.TheVariants.{Standard, Extended, Decimal}
use Rattle.jp_check.specs.declared.profile.Profile.TheVariants.{ExtendedDecimal}

-- the types of a function's parameters, in order, and of its result (section 2.4.1)
pub record Signature : Type 0 where
  pub parameters : List DataType
  pub result : DataType

-- the functions of a profile and their names: those of the standard (sections 2.4.4 to 2.4.8), and in
-- `Extended` and `ExtendedDecimal` also `distinct`, as section 2.4 provides for
abbrev pub functions : Profile → List (List ℕ × Function)
functions Standard = standard_functions
functions Extended = all_functions
functions Decimal = standard_functions
functions ExtendedDecimal = all_functions

-- the types of each (sections 2.4.4 to 2.4.8), and of `distinct`
abbrev pub signature : Function → Signature
signature Length = record { parameters = Value ∷ []; result = Value }
signature Count = record { parameters = Nodes ∷ []; result = Value }
signature Match = record { parameters = Value ∷ Value ∷ []; result = Logical }
signature Search = record { parameters = Value ∷ Value ∷ []; result = Logical }
signature ValueOf = record { parameters = Nodes ∷ []; result = Value }
signature Distinct = record { parameters = Nodes ∷ []; result = Nodes }

-- the function of that name, given as scalar values, if the profile has one
abbrev pub function_named : Profile → List ℕ → Option Function
function_named profile name = lookup (bytes_eq name) (functions profile)

-- its types
abbrev pub signature_named : Profile → List ℕ → Option Signature
signature_named profile name = option_map signature (function_named profile name)
