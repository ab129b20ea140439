use Rattle.std.proofs.Common.{◌≡◌, rules, sym, ◌∙◌, ◌++◌, ◌∷◌, []}
use Rattle.std.proofs.lemmas.Result.{err_from_is_err_and}
use Rattle.jp_reading.specs.Outcome.{passes, head}
use Rattle.jp_reading.proofs.States.Folds.{folds_fail, pushes_on, pushes_end}
use Rattle.jp_iregexp.specs.Private.Reading.{element_at, begins_element}
use Rattle.jp_reading.proofs.States.Progress.{moved}
use Rattle.jp_iregexp.proofs.Progress.{moves-element}
use Rattle.jp_iregexp.proofs.brackets.elements.Goals as goal

pub returns-in_err-next : goal.returns-in_err-next
returns-in_err-next c =
    let p = err_from_is_err_and c.from_residual.result c.from_residual.ensures.1 in
    rw (p.1, p.2, c.elements.invariant)
    (folds_fail (λ q. passes begins_element (head q)) element_at moves-element
    (λ ys. c.elements.items.items ++ ys) c.elements.reader c.in_err-next.field-0.0
    (sym c.is_at_one_of.ensures ∙ c.elements-test.true) c.in_err-next.ensures)

pub elements-smaller : goal.elements-smaller
elements-smaller c =
    moved element_at moves-element c.elements.reader c.element.new.reader c.in_ok-next.next
    c.in_ok-next.ensures

pub elements-preserved : goal.elements-preserved
elements-preserved c =
    let pushed : c.push.new.self.items ≡ c.elements.items.items ++ c.in_ok-next.next ∷ [] =
    search rules in
    rw pushed (c.elements.invariant
    ∙ pushes_on (λ q. passes begins_element (head q)) element_at moves-element
    c.elements.items.items c.elements.reader c.element.new.reader
    c.in_ok-next.next (sym c.is_at_one_of.ensures ∙ c.elements-test.true) c.in_ok-next.ensures)

pub returns : goal.returns
returns c =
    c.elements.invariant
    ∙ pushes_end (λ q. passes begins_element (head q)) element_at c.elements.items.items
    c.elements.reader (sym c.is_at_one_of.ensures ∙ c.elements-test.false)
