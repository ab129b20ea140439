-- What match and search ask of their arguments: the texts that they are.
use Rattle.std.proofs.Common.{◌≡◌, Option, Some, option_map, refl, ap, ◌∙◌}
use Rattle.std.proofs.lemmas.Option.{same_Some}
use Rattle.jp_document.specs.Node.{Node}
use Rattle.jp_document.specs.Value.{Value, text}
use Rattle.jp_tree.specs.Tree.{ArgumentTree, CallTree, argument_then, call, no_arguments}
use Rattle.jp_tree.specs.declared.function.Function.{Function}
use Rattle.jp_tree.specs.declared.function.Function.TheVariants.{Match, Search}
use Rattle.jp_evaluate.specs.Functions.{is_found, is_matched, logical_answer, meaning}
use Rattle.jp_evaluate.specs.Nodelist.{argument_value, call_holds}
use Rattle.jp_evaluate.specs.Private.Calls.{both_arguments, call_function}
use Rattle.jp_evaluate.specs.Private.Meanings.{only_text}

matched-texts : (v w : Option Value) → is_matched (only_text v) (only_text w) ≡ is_matched v w
matched-texts (Some (text s)) (Some (text p)) = refl
matched-texts (Some (text s)) w = refl
matched-texts v w = refl

found-texts : (v w : Option Value) → is_found (only_text v) (only_text w) ≡ is_found v w
found-texts (Some (text s)) (Some (text p)) = refl
found-texts (Some (text s)) w = refl
found-texts v w = refl

answer-texts : (f : Option Function) (v w : Option Value)
    → logical_answer (option_map meaning f) (only_text v) (only_text w)
    ≡ logical_answer (option_map meaning f) v w
answer-texts (Some Match) v w = matched-texts v w
answer-texts (Some Search) v w = found-texts v w
answer-texts f v w = refl

-- a call of two arguments is true of the texts that they are
pub called-texts : (f : CallTree) (x y : ArgumentTree) (d : Value) (c : Node)
    → Some (x, y) ≡ both_arguments f
    → logical_answer (option_map meaning (call_function f)) (only_text (argument_value x d c))
    (only_text (argument_value y d c)) ≡ call_holds f d c
called-texts (call cs no_arguments) x y d c is = absurd (cc)
called-texts (call cs (argument_then v no_arguments)) x y d c is = absurd (cc)
called-texts (call cs (argument_then v (argument_then w no_arguments))) x y d c is =
    let f = call_function (call cs (argument_then v (argument_then w no_arguments))) in
    answer-texts f (argument_value x d c) (argument_value y d c)
    ∙ ap (λ p. logical_answer (option_map meaning f) (argument_value p.0 d c) (argument_value p.1 d c))
    (same_Some _ _ is)
called-texts (call cs (argument_then v (argument_then w (argument_then u rest)))) x y d c is = absurd (cc)
