-- A profile has the functions of its names.
use Rattle.std.proofs.Common.{◌≡◌, cond, Bool, true, false, not, ◌&&◌, if◌then◌else◌, ℕ, List, []}
use Rattle.std.proofs.Common.{◌∷◌, ◌++◌, Option, Some, None, refl, ap, ◌∙◌}
use Rattle.std.specs.Map.{lookup}
use Rattle.std.specs.Str.{bytes_eq}
use Rattle.std.proofs.lemmas.Bool.{and_parts}
use Rattle.jp_tree.specs.declared.function.Function.{Function}
use Rattle.jp_tree.specs.Functions.{added_functions, function_of_name, standard_functions}
use Rattle.jp_check.specs.declared.profile.Profile.{Profile}
use Rattle.jp_check.specs.declared.profile.Profile.TheVariants.{Standard, Extended, Decimal}
use Rattle.jp_check.specs.declared.profile.Profile.TheVariants.{ExtendedDecimal}
use Rattle.jp_check.specs.Functions.{function_named}
use Rattle.jp_check.specs.Private.Calls.{function_within, is_added}

-- all functions of a list are added to those of the standard, or none is
abbrev are_added : List (List ℕ × Function) → Bool
are_added [] = true
are_added (e ∷ es) = is_added e.1 && are_added es

abbrev none_added : List (List ℕ × Function) → Bool
none_added [] = true
none_added (e ∷ es) = not (is_added e.1) && none_added es

left_out : (b : Bool) (f : Function) → b ≡ true → (if b then None else Some f) ≡ None
left_out b f is = ap (λ x. if x then None else Some f) is

left_in : (b : Bool) (f : Function) → not b ≡ true → (if b then None else Some f) ≡ Some f
left_in true f is = absurd (cc)
left_in false f is = refl

without-added : (is : List ℕ → Bool) (es : List (List ℕ × Function)) → are_added es ≡ true
    → function_within Standard (lookup is es) ≡ None
without-added is [] are = refl
without-added is (e ∷ es) are =
    let both = and_parts (is_added e.1) (are_added es) are in
    decided (is e.0) (left_out (is_added e.1) e.1 both.0) (without-added is es both.1)
  where
    decided : (b : Bool) → function_within Standard (Some e.1) ≡ None
        → function_within Standard (lookup is es) ≡ None
        → function_within Standard (cond b (Some e.1) (lookup is es)) ≡ None
    decided true own rest = own
    decided false own rest = rest

within : (is : List ℕ → Bool) (es more : List (List ℕ × Function)) → none_added es ≡ true
    → are_added more ≡ true
    → function_within Standard (lookup is (es ++ more)) ≡ lookup is es
within is [] more none are = without-added is more are
within is (e ∷ es) more none are =
    let both = and_parts (not (is_added e.1)) (none_added es) none in
    decided (is e.0) (left_in (is_added e.1) e.1 both.0) (within is es more both.1 are)
  where
    decided : (b : Bool) → function_within Standard (Some e.1) ≡ Some e.1
        → function_within Standard (lookup is (es ++ more)) ≡ lookup is es
        → function_within Standard (cond b (Some e.1) (lookup is (es ++ more)))
        ≡ cond b (Some e.1) (lookup is es)
    decided true own rest = own
    decided false own rest = rest

-- a profile over decimals has the functions of the one over whole numbers
decimal-within : (function : Option Function)
    → function_within Decimal function ≡ function_within Standard function
decimal-within None = refl
decimal-within (Some function) = refl

standard-within : (cs : List ℕ)
    → function_within Standard (function_of_name cs) ≡ function_named Standard cs
standard-within cs = within (bytes_eq cs) standard_functions added_functions refl refl

pub function_within_is : (profile : Profile) (cs : List ℕ)
    → function_within profile (function_of_name cs) ≡ function_named profile cs
function_within_is Standard cs = standard-within cs
function_within_is Extended cs = refl
function_within_is Decimal cs = decimal-within (function_of_name cs) ∙ standard-within cs
function_within_is ExtendedDecimal cs = refl
