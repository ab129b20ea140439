use Rattle.std.proofs.Common.{◌≡◌, ◌≢◌, ◌∙◌, ap, arith, length, map, sym}
use Rattle.jp_tree.specs.Tree.{selectors}
use Rattle.jp_tree.specs.Views.{selector_of}
use Rattle.jp_evaluate.specs.Private.Asks.{only_name}
use Rattle.jp_evaluate.proofs.Kept.Queries.{only_name-several}
use Rattle.jp_evaluate.proofs.Nodelists.Only.{only_element}
use Rattle.jp_evaluate.proofs.asked.only_name.Goals as goal

pub returns-then-selectors-ne1 : goal.returns-then-selectors-ne1
returns-then-selectors-ne1 c =
    let xs = c.args.selectors.now in
    let not : length xs ≢ 1 = omega arith in
    sym (only_name-several xs not)

pub returns : goal.returns
returns c =
    let xs = c.args.selectors.now in
    let one : length xs ≡ 1 = omega arith in
    c.name_of.ensures
    ∙ sym (ap (λ ys. only_name (selectors (map selector_of ys)))
    (only_element xs c.in_ok-first.field-0.now one c.in_ok-first.ensures.value))
