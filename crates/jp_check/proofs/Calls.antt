-- The trees of calls, and the types that are wanted of their arguments.
use Rattle.std.proofs.Common.{◌≡◌, ℕ, suc, List, [], ◌∷◌, length, map, Option, Some}
use Rattle.std.proofs.Common.{None, option_copied, slice_get, refl, sym, ap, ◌∙◌}
use Rattle.std.specs.Borrow.{Bor}
use Rattle.std.specs.Slice.{IsItemAt}
use Rattle.std.specs.Str.{chars}
use Rattle.std.specs.String.{string_bytes}
use Rattle.std.proofs.lemmas.Option.{slice_get_past, slice_get_read}
use Rattle.jp_tree.specs.declared.tree.Argument.{Argument}
use Rattle.jp_tree.specs.declared.tree.Call.{Call, out-Call}
use Rattle.jp_query.specs.Components.{count}
use Rattle.jp_tree.specs.Tree.{arguments}
use Rattle.jp_tree.specs.Views.{argument_of, call_of}
use Rattle.jp_check.specs.declared.functions.DataType.{DataType}
use Rattle.jp_check.specs.declared.profile.Profile.{Profile}
use Rattle.jp_check.specs.Functions.{signature_named}
use Rattle.jp_check.specs.Types.{wanted_of_arguments}
use Rattle.jp_check.specs.Private.Calls.{wanted_of_call}
use Rattle.jp_check.specs.Private.Inspection.{fault_of_call, fault_of_called}
use Rattle.jp_tree.proofs.Views.{call_of-is}

count-arguments : (xs : List Argument) → count (arguments (map argument_of xs)) ≡ length xs
count-arguments [] = refl
count-arguments (x ∷ xs) = ap suc (count-arguments xs)

pub fault_of_call_is : (profile : Profile) (c : Call) (want : Option DataType)
    → fault_of_call profile (call_of c) want
    ≡ fault_of_called (signature_named profile (chars (string_bytes (out-Call c).name)))
    (length (out-Call c).arguments.items) want
fault_of_call_is profile c want =
    ap (λ t. fault_of_call profile t want) (call_of-is c)
    ∙ ap (λ n.
    fault_of_called (signature_named profile (chars (string_bytes (out-Call c).name))) n want)
    (count-arguments (out-Call c).arguments.items)

pub wanted_of_call_is : (profile : Profile) (c : Call)
    → wanted_of_call profile (call_of c)
    ≡ wanted_of_arguments (signature_named profile (chars (string_bytes (out-Call c).name)))
    (length (out-Call c).arguments.items)
wanted_of_call_is profile c =
    ap (wanted_of_call profile) (call_of-is c)
    ∙ ap (wanted_of_arguments (signature_named profile (chars (string_bytes (out-Call c).name))))
    (count-arguments (out-Call c).arguments.items)

-- what is copied of a component that a list has, or has not, at that place
pub copied_component : (types : List DataType) (i : ℕ) (r : Option (Bor DataType)) → IsItemAt types i r
    → option_copied r ≡ slice_get types i
copied_component types i None h = sym (slice_get_past types i h.3)
copied_component types i (Some x) h = sym (slice_get_read types (length types) i x.now refl h.3.0 h.1)
