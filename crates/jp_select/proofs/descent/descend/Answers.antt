use Rattle.std.proofs.Common.{◌++◌, map, sym, ap, ◌∙◌}
use Rattle.std.proofs.lemmas.List.{append-nil}
use Rattle.jp_document.specs.Node.{node_of}
use Rattle.jp_select.proofs.descent.descend.Goals as goal

pub returns : goal.returns
returns c =
    let steps = rw c.in-None.is at c.next.ensures.steps in
    let end = steps.1 c.loop-next.invariant.working in
    let done = map node_of c.loop-next.nodes.items in
    sym (append-nil done) ∙ ap (λ t. done ++ t) (sym end.0) ∙ c.loop-next.invariant.all
