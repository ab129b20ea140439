-- Which values are equal (RFC 9535 section 2.3.5.2.2, `==`).
use Rattle.std.specs.Prelude.{◌≡◌, ◌↔◌, ℕ, ℤ, Bool, List, Some, IsSome}
use Rattle.jp_document.specs.Location.{named, nth, child}
use Rattle.jp_document.specs.Value.{Value, null, boolean, whole, decimal, text, list}
use Rattle.jp_document.specs.Value.{object, Items, item_count, Members}

-- the object has a member of this name
abbrev pub HasMember : Members → List ℕ → Type 0
HasMember ms n = IsSome (child (object ms) (named n))

-- both are null, the same truth value, the same number, held in the same form, or the same text; or lists of the same
-- length in which each item of the one is equal to that of the other; or objects with the same
-- names, whose values are equal at each name
pub data IsEqual : Value → Value → Type 0 where
  nulls : IsEqual null null
  truths : (b : Bool) → IsEqual (boolean b) (boolean b)
  numbers : (z : ℤ) → IsEqual (whole z) (whole z)
  decimals : (c e : ℤ) → IsEqual (decimal c e) (decimal c e)
  texts : (s : List ℕ) → IsEqual (text s) (text s)
  lists : (vs ws : Items) → item_count vs ≡ item_count ws
      → ((i : ℕ) (v w : Value) → child (list vs) (nth i) ≡ Some v → child (list ws) (nth i) ≡ Some w
      → IsEqual v w) → IsEqual (list vs) (list ws)
  objects : (ms ns : Members) → ((n : List ℕ) → HasMember ms n ↔ HasMember ns n)
      → ((n : List ℕ) (v w : Value) → child (object ms) (named n) ≡ Some v
      → child (object ns) (named n) ≡ Some w → IsEqual v w) → IsEqual (object ms) (object ns)
