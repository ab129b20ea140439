-- The arguments of calls.
use Rattle.std.proofs.Common.{◌≡◌, ◌≢◌, ℕ, List, [], ◌∷◌, Some, None, length}
use Rattle.std.proofs.Common.{map, string_bytes, refl, ap, ap₂, sym, ◌∙◌, arith}
use Rattle.std.specs.List.{slice_get}
use Rattle.std.specs.Str.{chars}
use Rattle.std.proofs.lemmas.Option.{same_Some}
use Rattle.jp_tree.specs.Tree.{arguments, call}
use Rattle.jp_tree.specs.Views.{argument_of, call_of}
use Rattle.jp_tree.specs.declared.tree.Argument.{Argument}
use Rattle.jp_tree.specs.declared.tree.Call.{Call, out-Call}
use Rattle.jp_check.specs.Functions.{function_named}
use Rattle.jp_check.specs.declared.profile.Profile.TheVariants.{Extended}
use Rattle.jp_evaluate.specs.Private.Calls.{both_arguments, call_function, only_argument}
use Rattle.jp_tree.proofs.Views.{call_of-is}

only_argument-others : (cs : List ℕ) (xs : List Argument) → length xs ≢ 1
    → None ≡ only_argument (call cs (arguments (map argument_of xs)))
only_argument-others cs [] many = refl
only_argument-others cs (y ∷ []) many = absurd (many refl)
only_argument-others cs (y ∷ z ∷ xs) many = refl

both_arguments-two : (cs : List ℕ) (xs : List Argument) (x y : Argument) → length xs ≡ 2
    → Some x ≡ slice_get xs 0 → Some y ≡ slice_get xs 1
    → Some (argument_of x, argument_of y) ≡ both_arguments (call cs (arguments (map argument_of xs)))
both_arguments-two cs [] x y many first second = absurd (omega arith)
both_arguments-two cs (a ∷ []) x y many first second = absurd (omega arith)
both_arguments-two cs (a ∷ b ∷ []) x y many first second =
    ap₂ (λ v w. Some (argument_of v, argument_of w)) (same_Some x a first) (same_Some y b second)
both_arguments-two cs (a ∷ b ∷ c ∷ xs) x y many first second = absurd (omega arith)

both_arguments-others : (cs : List ℕ) (xs : List Argument) → length xs ≢ 2
    → None ≡ both_arguments (call cs (arguments (map argument_of xs)))
both_arguments-others cs [] many = refl
both_arguments-others cs (a ∷ []) many = refl
both_arguments-others cs (a ∷ b ∷ []) many = absurd (many refl)
both_arguments-others cs (a ∷ b ∷ c ∷ xs) many = refl

abbrev pub spelled : Call → List ℕ
spelled f = chars (string_bytes (out-Call f).name)

pub not_one_argument : (f : Call) → length (out-Call f).arguments.items ≢ 1
    → None ≡ only_argument (call_of f)
not_one_argument f many =
    only_argument-others (spelled f) (out-Call f).arguments.items many
    ∙ sym (ap only_argument (call_of-is f))

pub two_arguments : (f : Call) (x y : Argument) → length (out-Call f).arguments.items ≡ 2
    → Some x ≡ slice_get (out-Call f).arguments.items 0
    → Some y ≡ slice_get (out-Call f).arguments.items 1
    → Some (argument_of x, argument_of y) ≡ both_arguments (call_of f)
two_arguments f x y many first second =
    both_arguments-two (spelled f) (out-Call f).arguments.items x y many first second
    ∙ sym (ap both_arguments (call_of-is f))

pub not_two_arguments : (f : Call) → length (out-Call f).arguments.items ≢ 2
    → None ≡ both_arguments (call_of f)
not_two_arguments f many =
    both_arguments-others (spelled f) (out-Call f).arguments.items many
    ∙ sym (ap both_arguments (call_of-is f))

pub named_function : (f : Call) → function_named Extended (spelled f) ≡ call_function (call_of f)
named_function f = sym (ap call_function (call_of-is f))
