use Rattle.std.proofs.Common.{◌≡◌, ◌+◌, ◌<◌, arith, length, Some, None, ap, sym, ◌∙◌}
use Rattle.std.specs.List.{slice_get}
use Rattle.std.proofs.lemmas.List.{length_push}
use Rattle.std.proofs.lemmas.Option.{slice_get_within}
use Rattle.jp_document.specs.DocumentValue.{lent_entry}
use Rattle.jp_document.specs.Node.{node_of}
use Rattle.jp_document.specs.Value.{value_of}
use Rattle.jp_tree.specs.Views.{selector_of}
use Rattle.jp_select.specs.Selectors.{candidates}
use Rattle.jp_select.proofs.Choosing.Nodes.{all_chosen, next_chosen, plain_chosen}
use Rattle.jp_select.proofs.selector.select_plain.Goals as goal

pub loop-step-preserved : goal.loop-step-preserved
loop-step-preserved c =
    let s = selector_of c.args.selector.now in
    let n = c.args.node.now in
    let i = c.len.result in
    let nodes = c.loop-step.nodes.items in
    let e = lent_entry (c.in-Some.step, c.in-Some.value) in
    let entry : slice_get (candidates s (value_of n.value)) i ≡ Some e =
    ap (λ v. slice_get (candidates s v) i) (sym c.document_value.ensures)
    ∙ sym c.in-Some.ensures.entry in
    next_chosen n.location (candidates s (value_of n.value)) _ nodes c.push.new.self.items
    c.in_ok-below.field-0 e i
    (c.len.ensures ∙ c.loop-step.nodes.ok.0) entry c.in_ok-below.ensures c.in_ok-push.ensures.items
    c.loop-step.invariant

pub loop-step-smaller : goal.loop-step-smaller
loop-step-smaller c =
    let n = c.args.node.now in
    let i = c.len.result in
    let nodes = c.loop-step.nodes.items in
    let cs = candidates (selector_of c.args.selector.now) (value_of n.value) in
    let e = lent_entry (c.in-Some.step, c.in-Some.value) in
    let entry : slice_get cs i ≡ Some e =
    ap (λ v. slice_get (candidates (selector_of c.args.selector.now) v) i)
    (sym c.document_value.ensures)
    ∙ sym c.in-Some.ensures.entry in
    let within : i < length cs = slice_get_within cs i e entry in
    let at : i ≡ length nodes = c.len.ensures ∙ c.loop-step.nodes.ok.0 in
    let longer : length c.push.new.self.items ≡ length nodes + 1 =
    ap length c.in_ok-push.ensures.items ∙ length_push nodes c.in_ok-below.field-0 in
    omega arith

pub returns : goal.returns
returns c =
    let s = selector_of c.args.selector.now in
    let n = c.args.node.now in
    let i = c.len.result in
    let past : slice_get (candidates s (value_of n.value)) i ≡ None =
    ap (λ v. slice_get (candidates s v) i) (sym c.document_value.ensures)
    ∙ sym c.in_default-candidate.ensures.entry in
    all_chosen n.location (candidates s (value_of n.value)) c.loop-step.nodes.items i
    (c.len.ensures ∙ c.loop-step.nodes.ok.0) past c.loop-step.invariant
    ∙ plain_chosen c.args.selector.now (node_of n) c.in_default.not-Filter
