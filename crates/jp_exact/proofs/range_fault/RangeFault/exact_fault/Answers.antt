use Rattle.std.proofs.Common.{◌≡◌, map, reverse, sym, ap, ◌∙◌, subst, rules}
use Rattle.jp_document.specs.Location.{owned_step}
use Rattle.jp_document.specs.Path.{path_of}
use Rattle.jp_document.proofs.Readings.Faults.{map-reverse}
use Rattle.jp_exact.specs.Private.RangeFault.{IsRangeFaultAt}
use Rattle.jp_document.specs.declared.fault.DocumentFault.TheVariants.{NumberRange}
use Rattle.jp_exact.proofs.range_fault.RangeFault.exact_fault.Goals as goal

pub returns-in-Ok : goal.returns-in-Ok
returns-in-Ok c =
    let steps = c.in-OutOfRange.steps in
    let turned : c.deref.result.now ≡ reverse steps.items = search rules in
    subst (λ s. IsRangeFaultAt s (NumberRange c.in-Ok.path)) (sym c.in-OutOfRange.is)
    (c.in-Ok.ensures ∙ ap (λ xs. path_of (map owned_step xs)) turned
    ∙ ap path_of (map-reverse owned_step steps.items))
