-- What is true of the definitions, in the standard's words.
use Rattle.std.specs.Prelude.{◌≡◌, ◌↔◌, ℕ, suc, ◌*◌, ℤ, pos, negsuc, ◌+ℤ◌, ◌<ℤ◌}
use Rattle.std.specs.Prelude.{List, [], map, reverse, Contains, Option, Some, true}
use Rattle.std.specs.List.{All}
use Rattle.std.specs.List.Sorted.{IsStrictlySortedBy}
use Rattle.std.specs.Ordering.{nat_cmp}
use Rattle.jp_document.specs.ChildNodes.{IsListOf}
use Rattle.jp_document.specs.Node.{Node, StandsIn, location_of}
use Rattle.jp_document.specs.Value.{Value, NamesRise}
use Rattle.jp_tree.specs.Tree.{SelectorTree}
use Rattle.jp_select.specs.Selectors.{chosen}
use Rattle.jp_select.specs.Subtree.{subtree_of, IsInSubtree}
use Rattle.jp_select.specs.Comparison.{equals}
use Rattle.jp_select.specs.Equality.{IsEqual}
use Rattle.jp_select.specs.Slice.{rising_lower, rising_upper}
use Rattle.jp_select.specs.Slice.{falling_lower, falling_upper, slice_of}

-- a node n of the document d and its descendants (RFC 9535 section 2.5.2.2)
pub record SubtreeRises : Type 0 where
  -- they are exactly the nodes whose locations begin with that of n, in document order
  pub listed : (d : Value) (n : Node) → StandsIn d n
      → IsListOf (IsInSubtree d n.location) (map location_of (subtree_of n))
  -- each is a node of d, with the value that d has at its location
  pub stand : (d : Value) (n : Node) → StandsIn d n → All (StandsIn d) (subtree_of n)

-- a plain selector selects, at a node of d, nodes of d alone, each with the value that stands at
-- its location (RFC 9535 section 2.3)
abbrev pub ChoosesNodesAlone : Type 0
ChoosesNodesAlone =
    (d : Value) (n : Node) (s : SelectorTree) → StandsIn d n → All (StandsIn d) (chosen s n)

-- the indexes rise, and are exactly lower, lower + step, lower + 2 * step .. below upper
pub record IsRisingSlice (lower upper : ℤ) (step : ℕ) (is : List ℕ) : Type 0 where
  pub rising : IsStrictlySortedBy nat_cmp is
  pub exactly : (i : ℕ)
      → Contains is i ↔ ((pos i <ℤ upper) × ((m : ℕ) × (pos i ≡ lower +ℤ pos (m * step))))

-- the indexes fall, and are exactly upper, upper - size, upper - 2 * size .. above lower
pub record IsFallingSlice (lower upper : ℤ) (size : ℕ) (is : List ℕ) : Type 0 where
  pub falling : IsStrictlySortedBy nat_cmp (reverse is)
  pub exactly : (i : ℕ)
      → Contains is i ↔ ((lower <ℤ pos i) × ((m : ℕ) × (pos i +ℤ pos (m * size) ≡ upper)))

-- a slice selects what the standard's loops over its bounds do (RFC 9535 section 2.3.4.2.2)
pub record SlicesAreExact : Type 0 where
  pub upwards : (n : ℕ) (start end : Option ℤ) (k : ℕ)
      → IsRisingSlice (rising_lower n start) (rising_upper n end) (suc k)
      (slice_of n start end (pos (suc k)))
  pub downwards : (n : ℕ) (start end : Option ℤ) (k : ℕ)
      → IsFallingSlice (falling_lower n end) (falling_upper n start) (suc k)
      (slice_of n start end (negsuc k))
  pub nowhere : (n : ℕ) (start end : Option ℤ) → slice_of n start end (pos 0) ≡ []

-- `==` is true of two values in which names rise exactly where they are equal (RFC 9535 section
-- 2.3.5.2.2)
abbrev pub EqualsIsExact : Type 0
EqualsIsExact =
    (v w : Value) → NamesRise v → NamesRise w
    → (equals (Some v) (Some w) ≡ true) ↔ IsEqual v w
