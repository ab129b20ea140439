-- Patterns with their counted repeats written out.
use Rattle.std.specs.Prelude.{◌≡◌, ◌⊎◌, ℕ, zero, suc, Bool, true, List, [], ◌∷◌, Option, Some, None}
use Rattle.jp_iregexp.specs.declared.class.ClassElement.{ClassElement}
use Rattle.jp_iregexp.specs.Class.{class_holds}
use Rattle.jp_iregexp.specs.Tree as tree
use Rattle.jp_iregexp.specs.Tree.{Tree}
use Rattle.jp_iregexp.specs.Language.{Concatenation, Power}

-- a pattern whose only repeat is one or more
pub data Plain : Type 0 where
  class : Bool → List ClassElement → Plain
  nothing : Plain
  either : Plain → Plain → Plain
  empty : Plain
  sequence : Plain → Plain → Plain
  plus : Plain → Plain

-- the words of a pattern that is written out
abbrev pub Words : Plain → List ℕ → Type 0
Words (class negated items) word = (c : ℕ) × (class_holds negated items c ≡ true) × (word ≡ c ∷ [])
Words nothing word = ⊥
Words (either a b) word = Words a word ⊎ Words b word
Words empty word = word ≡ []
Words (sequence a b) word = Concatenation (Words a) (Words b) word
Words (plus a) word = (k : ℕ) × Power (Words a) (suc k) word

-- at least so many copies
unfoldable pub at_least : Plain → ℕ → Plain
at_least a zero = either empty (plus a)
at_least a (suc zero) = plus a
at_least a (suc (suc n)) = sequence a (at_least a (suc n))

-- at least so many copies, and not more than the most
unfoldable pub between : Plain → ℕ → ℕ → Plain
between a zero zero = empty
between a zero (suc most) = either empty (sequence a (between a zero most))
between a (suc least) zero = nothing
between a (suc least) (suc most) = sequence a (between a least most)

unfoldable pub counted : Plain → ℕ → Option ℕ → Plain
counted a least None = at_least a least
counted a least (Some most) = between a least most

-- a pattern with its counted repeats written out
unfoldable pub unrolled : Tree → Plain
unrolled (tree.class negated items) = class negated items
unrolled tree.nothing = nothing
unrolled (tree.either a b) = either (unrolled a) (unrolled b)
unrolled tree.empty = empty
unrolled (tree.sequence a b) = sequence (unrolled a) (unrolled b)
unrolled (tree.repeat a least most) = counted (unrolled a) least most
