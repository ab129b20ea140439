use Rattle.std.proofs.Common.{sym, ap, ◌∙◌}
use Rattle.jp_tree.specs.Views.{selector_of}
use Rattle.jp_select.specs.Selectors.{single}
use Rattle.jp_select.proofs.Choosing.Entries.{single-name}
use Rattle.jp_select.proofs.candidates.single.Goals as goal

pub returns-in-Name : goal.returns-in-Name
returns-in-Name g c =
    let v = g.V.Lent.meaning c.args.value in
    c.member.ensures
    ∙ sym
    (ap (λ s. single (selector_of s) v) c.in-Name.is
    ∙ single-name v c.in-Name.name c.as_str.result.now c.as_str.utf8 c.as_str.ensures.value)
