use Rattle.std.proofs.Common.{◌≡◌, [], ◌∷◌, ◌++◌, length, map, take}
use Rattle.std.proofs.Common.{Some, None, sym, ap, ap₂, ◌∙◌, subst, rules}
use Rattle.std.specs.List.{slice_get}
use Rattle.jp_document.specs.Location.{entries}
use Rattle.jp_document.specs.Node.{children, node_of}
use Rattle.jp_document.proofs.Descent.Entries.{child_at_position}
use Rattle.jp_document.proofs.Descent.Nodes.{grown, finished}
use Rattle.jp_document.proofs.child_nodes.children.Goals as goal

pub loop-step-preserved : goal.loop-step-preserved
loop-step-preserved c =
    let n = node_of c.args.node.now in
    let ns = c.loop-step.nodes.items in
    let x = c.in_ok-below.field-0 in
    let pushed : c.push.new.self.items ≡ ns ++ x ∷ [] = search rules in
    let last : c.len.result ≡ length ns = search rules in
    subst (λ ms. map node_of ms ≡ take (length ms) (children n)) (sym pushed)
    (grown node_of ns x (children n) c.loop-step.invariant
    (ap Some c.in_ok-below.ensures
    ∙ child_at_position n.location (entries n.value) (length ns) _
    (c.in-Some.ensures.entry
    ∙ ap₂ (λ v i. slice_get (entries v) i) c.document_value.ensures last)))

pub returns : goal.returns
returns c =
    let n = node_of c.args.node.now in
    let ns = c.loop-step.nodes.items in
    let last : c.len.result ≡ length ns = search rules in
    finished node_of ns (children n) c.loop-step.invariant
    (child_at_position n.location (entries n.value) (length ns) None
    (c.in_default.ensures.entry
    ∙ ap₂ (λ v i. slice_get (entries v) i) c.document_value.ensures last))
