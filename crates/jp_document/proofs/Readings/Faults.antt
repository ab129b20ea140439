-- Faults of values, one step further out: for `json_of` and `document_fault`.
use Rattle.std.proofs.Common.{◌≡◌, List, [], ◌∷◌, ◌++◌, map, reverse, refl, sym, ap, subst, ◌∙◌}
use Rattle.std.proofs.lemmas.List.{map-append, reverse-append}
use Rattle.serde_json.specs.Data.{Data}
use Rattle.jp_document.specs.Document.{IsFirstFraction}
use Rattle.jp_document.specs.Location.{Location, owned_step}
use Rattle.jp_document.specs.Private.ValueFault.{IsValueFaultOf, IsFaultWithin}
use Rattle.jp_document.specs.declared.location.OwnedStep.{OwnedStep}
use Rattle.jp_document.specs.declared.value_fault.ValueFault.{ValueFault}
use Rattle.jp_document.specs.declared.value_fault.ValueFault.TheVariants.{Fraction, NoMemory}

reverse-last_step : (steps more : List OwnedStep) (step : OwnedStep) → more ≡ steps ++ step ∷ []
    → reverse (map owned_step more) ≡ owned_step step ∷ reverse (map owned_step steps)
reverse-last_step steps more step is = ap (λ xs. reverse (map owned_step xs)) is
    ∙ ap reverse (map-append owned_step steps (step ∷ []))
    ∙ reverse-append (map owned_step steps) (owned_step step ∷ [])

-- a fault of a part is a fault of the whole
pub value_fault-within : (part whole : Data) (fault more : ValueFault) (step : OwnedStep)
    → ((l : Location) → IsFirstFraction part l → IsFirstFraction whole (owned_step step ∷ l))
    → IsValueFaultOf part fault → IsFaultWithin fault step more → IsValueFaultOf whole more
value_fault-within part whole (Fraction steps) (Fraction more) step out at within = subst
    (IsFirstFraction whole) (sym (reverse-last_step steps.items more.items step within))
    (out (reverse (map owned_step steps.items)) at)
value_fault-within part whole (Fraction steps) NoMemory step out at within = tt
value_fault-within part whole NoMemory (Fraction more) step out at within = absurd within
value_fault-within part whole NoMemory NoMemory step out at within = tt

pub map-reverse : {A B : Type 0} (f : A → B) (xs : List A) → map f (reverse xs) ≡ reverse (map f xs)
map-reverse f [] = refl
map-reverse f (x ∷ xs) =
    ap (map f) (reverse-append (x ∷ []) xs) ∙ map-append f (reverse xs) (x ∷ [])
    ∙ ap (λ ys. ys ++ f x ∷ []) (map-reverse f xs) ∙ sym (reverse-append (f x ∷ []) (map f xs))
