-- Calls as the code goes through them.
use Rattle.std.specs.Prelude.{ℕ, Bool, true, false, if◌then◌else◌, List, Option, Some, None}
use Rattle.jp_query.specs.Components.{QueryComponent, arguments_components, count}
use Rattle.jp_tree.specs.declared.function.Function.{Function}
use Rattle.jp_tree.specs.declared.function.Function.TheVariants.{Distinct}
use Rattle.jp_tree.specs.Tree.{ArgumentTree, CallTree, arguments, call}
use Rattle.jp_check.specs.declared.functions.DataType.{DataType}
use Rattle.jp_check.specs.declared.functions.Signature as declared
use Rattle.jp_check.specs.declared.profile.Profile.{Profile}
use Rattle.jp_check.specs.declared.profile.Profile.TheVariants.{Standard, Decimal}
use Rattle.jp_check.specs.Functions.{Signature, signature_named}
use Rattle.jp_check.specs.Types.{wanted_of_arguments}

-- it is added to those of the standard
abbrev pub is_added : Function → Bool
is_added Distinct = true
is_added _ = false

-- the function that some name has, if the profile has it
abbrev pub function_within : Profile → Option Function → Option Function
function_within Standard (Some function) = if is_added function then None else Some function
function_within Decimal (Some function) = if is_added function then None else Some function
function_within profile function = function

-- the types of a function
abbrev pub signature_of : declared.Signature → Signature
signature_of s = record { parameters = s.parameters.now; result = s.answer }

-- the types that are wanted of a call's arguments
abbrev pub wanted_of_call : Profile → CallTree → List DataType
wanted_of_call profile (call name all) =
    wanted_of_arguments (signature_named profile name) (count all)

-- the components of the arguments of a call from the one after so many others, which are these
abbrev pub arguments_from : CallTree → ℕ → List ArgumentTree → List QueryComponent
arguments_from (call name all) before xs = arguments_components name before (count all) (arguments xs)
