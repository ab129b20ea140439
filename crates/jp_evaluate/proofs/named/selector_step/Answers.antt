use Rattle.std.proofs.Common.{◌≡◌, Some, ap, sym, ◌∙◌, rules}
use Rattle.std.specs.Str.{chars}
use Rattle.std.proofs.lemmas.Str.{encodes-chars}
use Rattle.jp_document.specs.Location.{named}
use Rattle.jp_tree.specs.Tree.{name}
use Rattle.jp_tree.specs.Views.{selector_of}
use Rattle.jp_tree.specs.declared.tree.Expr.{the_lemmas}
use Rattle.jp_evaluate.specs.Named.{step_of_selector}
use Rattle.jp_evaluate.proofs.named.selector_step.Goals as goal

pub returns-in-Name : goal.returns-in-Name
returns-in-Name c =
    let s = c.as_str.result.now in
    let tree : selector_of c.args.selector.now ≡ name (chars s) = search (rules, the_lemmas) in
    sym (ap step_of_selector tree ∙ ap (λ b. Some (named b)) (encodes-chars s c.as_str.utf8))
