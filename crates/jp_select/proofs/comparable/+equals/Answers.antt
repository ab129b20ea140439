use Rattle.std.proofs.Common.{◌≡◌, ◌≢◌, ◌<◌, true, false, length, sym, ap₂, ◌∙◌, arith, subst, IfOk}
use Rattle.std.proofs.lemmas.Result.{IfOk-weaker}
use Rattle.jp_select.proofs.Stepping.{takes_then}
use Rattle.std.proofs.lemmas.Option.{slice_get_within}
use Rattle.jp_document.specs.Location.{entries}
use Rattle.jp_lent.specs.Lending.{step_with}
use Rattle.jp_select.specs.Comparable.{comparable_of}
use Rattle.jp_select.specs.Comparison.{equals}
use Rattle.jp_select.proofs.Comparisons.Parts.{Looks, by_parts, part_missing, part_next, parts_done}
use Rattle.jp_select.proofs.Comparisons.Parts.{unlike-lengths, unlike-looks}
use Rattle.jp_select.proofs.Comparisons.Sameness.{equals-exact}
use Rattle.jp_lent.proofs.Weights.{part_within, side_less}
use Rattle.jp_select.proofs.comparable.+equals.Goals as goal

-- ---- sides

pub Comparable::equals-same_parts-requires : goal.Comparable::equals-same_parts-requires
Comparable::equals-same_parts-requires g t c κs within = (
  side_less (comparable_of g.V.Lent.meaning c.args.self.now) (g.V.Lent.meaning c.in-Some.left) t
      c.in-Some.ensures c.decreases,
  within,
)

pub Comparable::equals-returns-then-not-looks_same-clause-value :
    goal.Comparable::equals-returns-then-not-looks_same-clause-value
Comparable::equals-returns-then-not-looks_same-clause-value g t c =
    let m = g.V.Lent.meaning in
    let a = comparable_of m c.args.self.now in
    let b = comparable_of m c.args.other.now in
    let looks : Looks false a b =
    ap₂ equals (sym c.seen-left.ensures) (sym c.seen-right.ensures) ∙ sym c.looks_same.ensures
    ∙ c.if-not-looks_same.true in
    unlike-looks a b looks

pub Comparable::equals-returns-clause-value : goal.Comparable::equals-returns-clause-value
Comparable::equals-returns-clause-value g t c =
    let m = g.V.Lent.meaning in
    let a = comparable_of m c.args.self.now in
    let b = comparable_of m c.args.other.now in
    let looks : Looks true a b = ap₂ equals (sym c.seen-left.ensures) (sym c.seen-right.ensures) ∙ sym c.looks_same.ensures ∙ c.if-not-looks_same.false in
    subst (λ x. IfOk c.same_parts.result (λ answer. answer ≡ x))
    (by_parts a b (m c.in-Some.left) (m c.in-Some-parts.right) c.in-Some.ensures
    c.in-Some-parts.ensures looks) c.same_parts.ensures.value

pub Comparable::equals-returns-clause-same : goal.Comparable::equals-returns-clause-same
Comparable::equals-returns-clause-same g t c =
    let m = g.V.Lent.meaning in
    let a = comparable_of m c.args.self.now in
    let b = comparable_of m c.args.other.now in
    let looks : Looks true a b = ap₂ equals (sym c.seen-left.ensures) (sym c.seen-right.ensures) ∙ sym c.looks_same.ensures ∙ c.if-not-looks_same.false in
    IfOk-weaker c.same_parts.result _ _
    (λ answer is. equals-exact a b answer (is
    ∙ by_parts a b (m c.in-Some.left) (m c.in-Some-parts.right) c.in-Some.ensures
    c.in-Some-parts.ensures looks)) c.same_parts.ensures.value

-- ---- part by part

pub same_parts-returns-then-count-clause-value : goal.same_parts-returns-then-count-clause-value
same_parts-returns-then-count-clause-value g t c =
    let es = entries (g.V.Lent.meaning c.args.left) in
    let fs = entries (g.V.Lent.meaning c.args.right) in
    let unlike : length es ≢ length fs = λ same. c.if-count.true (c.count.ensures ∙ same ∙ sym c.count-2.ensures) in
    unlike-lengths es fs unlike

pub same_parts-returns-in_default-child-clause-value : goal.same_parts-returns-in_default-child-clause-value
same_parts-returns-in_default-child-clause-value g t c =
    let es = entries (g.V.Lent.meaning c.args.left) in
    let fs = entries (g.V.Lent.meaning c.args.right) in
    sym
    (sym c.loop-part.invariant.0
    ∙ part_missing es fs c.loop-part.position (step_with g.V.Lent.meaning c.in-Some.part)
    (sym c.in-Some.ensures.entry) (sym c.in_default-child.ensures.entry))

pub same_parts-same_part-requires : goal.same_parts-same_part-requires
same_parts-same_part-requires g t c κs within = (
  part_within (g.V.Lent.meaning c.args.left) c.loop-part.position t
      (step_with g.V.Lent.meaning c.in-Some.part) c.in-Some.ensures.entry c.decreases,
  within,
)

pub same_parts-returns-then-not-branch-clause-value : goal.same_parts-returns-then-not-branch-clause-value
same_parts-returns-then-not-branch-clause-value g t c =
    let es = entries (g.V.Lent.meaning c.args.left) in
    let fs = entries (g.V.Lent.meaning c.args.right) in
    sym
    (sym c.loop-part.invariant.0
    ∙ part_next es fs c.loop-part.position (step_with g.V.Lent.meaning c.in-Some.part)
    (step_with g.V.Lent.meaning c.in-Some-child.other) false (sym c.in-Some.ensures.entry)
    (sym c.in-Some-child.ensures.entry) (sym c.in_ok-same_part.ensures.value ∙ c.if-not-branch.true))

pub same_parts-loop-part-smaller : goal.same_parts-loop-part-smaller
same_parts-loop-part-smaller g t c =
    let es = entries (g.V.Lent.meaning c.args.left) in
    let within : c.loop-part.position < length es =
    slice_get_within es c.loop-part.position (step_with g.V.Lent.meaning c.in-Some.part)
    (sym c.in-Some.ensures.entry) in
    omega arith

pub same_parts-loop-part-preserved : goal.same_parts-loop-part-preserved
same_parts-loop-part-preserved g t c =
    let es = entries (g.V.Lent.meaning c.args.left) in
    let fs = entries (g.V.Lent.meaning c.args.right) in
    let same =
    sym
    (part_next es fs c.loop-part.position (step_with g.V.Lent.meaning c.in-Some.part)
    (step_with g.V.Lent.meaning c.in-Some-child.other) true (sym c.in-Some.ensures.entry)
    (sym c.in-Some-child.ensures.entry) (sym c.in_ok-same_part.ensures.value ∙ c.if-not-branch.false))
    ∙ c.loop-part.invariant.0 in
    (same, takes_then c.loop-part.invariant.1 c.same_part.ensures.takes)

pub same_parts-returns-clause-value : goal.same_parts-returns-clause-value
same_parts-returns-clause-value g t c =
    let es = entries (g.V.Lent.meaning c.args.left) in
    let fs = entries (g.V.Lent.meaning c.args.right) in
    let long : length es ≡ length fs =
    sym c.count.ensures ∙ c.if-count.false ∙ c.count-2.ensures in
    sym (parts_done es fs c.loop-part.position long (sym c.in_default.ensures.entry))
    ∙ c.loop-part.invariant.0
