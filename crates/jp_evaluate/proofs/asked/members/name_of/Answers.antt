use Rattle.std.proofs.Common.{◌≡◌, Some, ap, sym, ◌∙◌, rules}
use Rattle.std.specs.Str.{chars}
use Rattle.std.proofs.lemmas.Str.{encodes-chars}
use Rattle.jp_tree.specs.Tree.{name}
use Rattle.jp_tree.specs.Views.{selector_of}
use Rattle.jp_tree.specs.declared.tree.Expr.{the_lemmas}
use Rattle.jp_evaluate.specs.Private.Asks.{name_selected}
use Rattle.jp_evaluate.proofs.asked.members.name_of.Goals as goal

pub returns-in-Name : goal.returns-in-Name
returns-in-Name c =
    let s = c.as_str.result.now in
    let tree : selector_of c.args.selector.now ≡ name (chars s) = search (rules, the_lemmas) in
    sym (ap name_selected tree ∙ ap Some (encodes-chars s c.as_str.utf8))
