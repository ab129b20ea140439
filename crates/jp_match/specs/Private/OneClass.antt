-- Patterns of one position.
use Rattle.std.specs.Prelude.{◌≡◌, ℕ, Bool, ◌&&◌, ◌||◌, List, [], ◌∷◌}
use Rattle.jp_iregexp.specs.declared.class.ClassElement.{ClassElement}
use Rattle.jp_iregexp.specs.Class.{class_holds}
use Rattle.jp_match.specs.Private.Plain.{Plain}
use Rattle.jp_match.specs.Private.Marks.{size, Steps}
use Rattle.jp_match.specs.Private.Sweeps.{rounds_of}

-- the one position takes the characters of a class, and where it is optional the pattern also has
-- the empty word
pub record IsOneClass (a : Plain) (negated : Bool) (items : List ClassElement) (optional : Bool) :
    Type 0 where
  pub sized : size a ≡ 1
  pub no_rounds : rounds_of a ≡ 0
  pub steps : (c : ℕ) (entered marked next : Bool) → next ≡ (entered && class_holds negated items
      c) → Steps a c entered (marked ∷ []) (next ∷ []) (marked || (optional && entered))
