use Rattle.std.proofs.Common.{◌≡◌, ◌≢◌, ◌+◌, ◌≤◌, true, Some, length, map, sym, ap, ◌∙◌, arith}
use Rattle.std.specs.List.{slice_get}
use Rattle.std.proofs.lemmas.List.{length-map}
use Rattle.jp_document.proofs.Descent.Items.{get_seen}
use Rattle.jp_tree.specs.Tree.{wildcard}
use Rattle.jp_tree.specs.Views.{selector_of}
use Rattle.jp_tree.specs.declared.tree.Segment.{out-Segment}
use Rattle.jp_evaluate.specs.Private.Walk.{segments_left, turns}
use Rattle.jp_evaluate.proofs.Walks.Turns.{children_turn, left_there, no_turn}
use Rattle.jp_evaluate.proofs.Walks.Turns.{selector_smaller, selector_turn}
use Rattle.jp_evaluate.proofs.walk.turn_at.Goals as goal
use Rattle.jp_evaluate.proofs.walk.turn_at.Goals.{else-segment-via-then-segment+else-number-len}
use Rattle.jp_evaluate.proofs.walk.turn_at.Goals.{else-segment-via-else-segment}

pub returns-in-Some-clause-gives : goal.returns-in-Some-clause-gives
returns-in-Some-clause-gives c =
    let s = c.in_ok-segment.segment.now in
    let xs = c.deref.result.now in
    let all = c.args.segments.now in
    let there =
    left_there all c.args.done s xs c.in_ok-segment.ensures.lookup.3.0
    c.in_ok-segment.ensures.lookup.1 (sym c.deref.ensures.value) in
    sym (ap (λ left. slice_get (turns left) c.args.number) there
    ∙ selector_turn (out-Segment s).descendant (map selector_of xs)
    (segments_left all (c.args.done + 1)) c.args.number (selector_of c.in-Some.selector.now)
    (sym
    (get_seen selector_of (Some c.in-Some.selector) xs c.args.number c.in-Some.ensures.lookup.3)))

pub returns-in-Some-clause-smaller : goal.returns-in-Some-clause-smaller
returns-in-Some-clause-smaller c =
    selector_smaller c.args.segments.now c.args.done c.args.number c.in_ok-segment.segment.now
    c.deref.result.now c.in-Some.selector.now
    c.in_ok-segment.ensures.lookup.3.0 c.in_ok-segment.ensures.lookup.1 (sym c.deref.ensures.value)
    c.in-Some.ensures.lookup.3.0 c.in-Some.ensures.lookup.1

pub returns-then-number-len-clause-gives : goal.returns-then-number-len-clause-gives
returns-then-number-len-clause-gives c =
    let s = c.in_ok-segment.segment.now in
    let xs = c.deref.result.now in
    let all = c.args.segments.now in
    let there =
    left_there all c.args.done s xs c.in_ok-segment.ensures.lookup.3.0
    c.in_ok-segment.ensures.lookup.1 (sym c.deref.ensures.value) in
    let many : c.args.number ≡ length (map selector_of xs) =
    c.if-number-len.true ∙ c.len.ensures ∙ s.selectors.ok.0
    ∙ ap length (sym c.deref.ensures.value) ∙ sym (length-map xs selector_of) in
    sym (ap (λ left. slice_get (turns left) c.args.number) there
    ∙ children_turn (out-Segment s).descendant (map selector_of xs)
    (segments_left all (c.args.done + 1)) c.args.number c.if-segment.true many
    ∙ ap (λ left. Some (wildcard, left)) (sym there))

pub returns-else-segment-clause-gives : goal.returns-else-segment-clause-gives
returns-else-segment-clause-gives c =
    let s = c.in_ok-segment.segment.now in
    let xs = c.deref.result.now in
    let all = c.args.segments.now in
    let n = c.args.number in
    let there =
    left_there all c.args.done s xs c.in_ok-segment.ensures.lookup.3.0
    c.in_ok-segment.ensures.lookup.1 (sym c.deref.ensures.value) in
    let long : length (map selector_of xs) ≡ length xs = length-map xs selector_of in
    let past : length xs ≤ n = (rw c.in-None.is at c.get-2.ensures.lookup).3 in
    let apart : (out-Segment s).descendant ≡ true → n ≢ length (map selector_of xs) = λ descends.
    elim c.else-segment.branch [
      | else-segment-via-then-segment+else-number-len w ↦
          let count : w.len.result ≡ length (map selector_of xs) =
          w.len.ensures ∙ s.selectors.ok.0 ∙ ap length (sym c.deref.ensures.value) ∙ sym long in
          λ same. w.if-number-len.false (same ∙ sym count)
      | else-segment-via-else-segment w ↦ absurd (cc)
    ] in
    sym (ap (λ left. slice_get (turns left) n) there
    ∙ no_turn (out-Segment s).descendant (map selector_of xs) (segments_left all (c.args.done + 1))
    n (omega arith) apart)
