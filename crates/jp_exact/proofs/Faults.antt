-- Faults of values, one step further out: for `json_of`.
use Rattle.std.proofs.Common.{◌≡◌, List, [], ◌∷◌, ◌++◌, map, reverse, sym, ap, subst, ◌∙◌}
use Rattle.std.proofs.lemmas.List.{map-append, reverse-append}
use Rattle.jp_document.specs.Location.{Location, owned_step}
use Rattle.jp_document.specs.Value.{Value}
use Rattle.jp_document.specs.declared.location.OwnedStep.{OwnedStep}
use Rattle.jp_exact.specs.Defects.{IsFirstUnheld}
use Rattle.jp_exact.specs.Private.RangeFault.{IsRangeFaultWithin, IsRangeFaultOf}
use Rattle.jp_exact.specs.declared.range_fault.RangeFault.{RangeFault}
use Rattle.jp_exact.specs.declared.range_fault.RangeFault.TheVariants.{NoMemory, OutOfRange}

reverse-last_step : (steps more : List OwnedStep) (step : OwnedStep) → more ≡ steps ++ step ∷ []
    → reverse (map owned_step more) ≡ owned_step step ∷ reverse (map owned_step steps)
reverse-last_step steps more step is = ap (λ xs. reverse (map owned_step xs)) is
    ∙ ap reverse (map-append owned_step steps (step ∷ []))
    ∙ reverse-append (map owned_step steps) (owned_step step ∷ [])

-- a fault of a part is a fault of the whole
pub range_fault-within : (part outer : Value) (fault more : RangeFault) (step : OwnedStep)
    → ((l : Location) → IsFirstUnheld part l → IsFirstUnheld outer (owned_step step ∷ l))
    → IsRangeFaultOf part fault → IsRangeFaultWithin fault step more → IsRangeFaultOf outer more
range_fault-within part outer (OutOfRange steps) (OutOfRange more) step out at within = subst
    (IsFirstUnheld outer) (sym (reverse-last_step steps.items more.items step within))
    (out (reverse (map owned_step steps.items)) at)
range_fault-within part outer (OutOfRange steps) NoMemory step out at within = tt
range_fault-within part outer NoMemory (OutOfRange more) step out at within = absurd within
range_fault-within part outer NoMemory NoMemory step out at within = tt
