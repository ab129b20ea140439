-- Patterns of one position, part by part.
use Rattle.std.proofs.Common.{◌≡◌, Bool, true, false, ◌||◌, ◌&&◌, List, [], ◌∷◌, Some}
use Rattle.std.proofs.Common.{refl, sym, subst, arith}
use Rattle.jp_iregexp.specs.declared.class.ClassElement.{ClassElement}
use Rattle.jp_iregexp.specs.Tree.{Tree, branches, pieces, repeat}
use Rattle.jp_match.specs.Private.Plain.{class, nothing, either, empty, sequence, between, counted}
use Rattle.jp_match.specs.Private.Plain.{unrolled}
use Rattle.jp_match.specs.Private.Marks.{Steps}
use Rattle.jp_match.specs.Private.OneClass.{IsOneClass}
use Rattle.jp_match.proofs.Bools.{or_false}
use Rattle.jp_match.proofs.Steps.StepParts.{step_class, step_empty, step_nothing, step_either}
use Rattle.jp_match.proofs.Steps.StepParts.{step_sequence}

pub one_class : (negated : Bool) (items : List ClassElement)
    → IsOneClass (class negated items) negated items false
one_class negated items = record {
  sized = refl;
  no_rounds = refl;
  steps = λ c entered marked next is.
      subst (Steps (class negated items) c entered (marked ∷ []) (next ∷ [])) (sym (or_false
      marked)) (step_class is);
}

pub one_branch : (t : Tree) (negated : Bool) (items : List ClassElement) (optional : Bool)
    → IsOneClass (unrolled t) negated items optional
    → IsOneClass (unrolled (branches (t ∷ []))) negated items optional
unfolding unrolled
one_branch t negated items optional one = record {
  sized = omega (arith, one.sized);
  no_rounds = omega (arith, one.no_rounds);
  steps = λ c entered marked next is.
      subst (Steps (either (unrolled t) nothing) c entered (marked ∷ []) (next ∷ [])) (or_false
      (marked || (optional && entered))) (step_either (one.steps c entered marked next is)
      step_nothing);
}

pub one_piece : (t : Tree) (negated : Bool) (items : List ClassElement) (optional : Bool)
    → IsOneClass (unrolled t) negated items optional
    → IsOneClass (unrolled (pieces (t ∷ []))) negated items optional
unfolding unrolled
one_piece t negated items optional one = record {
  sized = omega (arith, one.sized);
  no_rounds = omega (arith, one.no_rounds);
  steps = λ c entered marked next is. step_sequence (one.steps c entered marked next is) step_empty;
}

-- the end is reached at once where the pattern is entered, and else by the mark
optional_ends : (entered marked optional : Bool)
    → (entered || (marked || (optional && entered))) ≡ (marked || entered)
optional_ends true true optional = refl
optional_ends true false optional = refl
optional_ends false marked true = refl
optional_ends false marked false = refl

pub one_optional : (t : Tree) (negated : Bool) (items : List ClassElement) (optional : Bool)
    → IsOneClass (unrolled t) negated items optional
    → IsOneClass (unrolled (repeat t 0 (Some 1))) negated items true
unfolding unrolled counted between
one_optional t negated items optional one = record {
  sized = omega (arith, one.sized);
  no_rounds = omega (arith, one.no_rounds);
  steps = λ c entered marked next is.
      subst (Steps (either empty (sequence (unrolled t) empty)) c entered (marked ∷ []) (next ∷ []))
      (optional_ends entered marked optional) (step_either step_empty (step_sequence (one.steps c
      entered marked next is) step_empty));
}
