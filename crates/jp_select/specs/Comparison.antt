-- Comparisons of values and of Nothing (RFC 9535 section 2.3.5.2.2). Nothing is None.
use Rattle.std.specs.Prelude.{ℕ, ℤ, Bool, true, false, not, ◌&&◌, ◌||◌, ◌==◌, nat_lt}
use Rattle.std.specs.Prelude.{int_lt, List, [], ◌∷◌, Option, Some, None, bytes_eq}
use Rattle.std.specs.Ordering.{int_eq, is_lt}
use Rattle.std.specs.Str.{chars}
use Rattle.jp_decimal.specs.Number.{unscaled}
use Rattle.jp_decimal.specs.Scaled.{Scaled, scaled_cmp}
use Rattle.jp_document.specs.Value.{Value, null, boolean, whole, decimal, text, list, object}
use Rattle.jp_document.specs.Value.{Items, no_items, item, Members, no_members, member}
use Rattle.jp_tree.specs.declared.tree.Op.{Op}
use Rattle.jp_tree.specs.declared.tree.Op.TheVariants.{Equal, Unequal, Less, LessEqual}
use Rattle.jp_tree.specs.declared.tree.Op.TheVariants.{Greater, GreaterEqual}

-- ---- equal

-- values of one kind that are the same: lists item by item, objects member by member
abbrev mutual
  pub same_value : Value → Value → Bool
  same_value null null = true
  same_value (boolean true) (boolean true) = true
  same_value (boolean false) (boolean false) = true
  same_value (whole x) (whole y) = int_eq x y
  same_value (decimal c e) (decimal d f) = int_eq c d && int_eq e f
  same_value (text s) (text t) = bytes_eq s t
  same_value (list vs) (list ws) = same_items vs ws
  same_value (object ms) (object ns) = same_members ms ns
  same_value _ _ = false

  pub same_items : Items → Items → Bool
  same_items no_items no_items = true
  same_items (item v vs) (item w ws) = same_value v w && same_items vs ws
  same_items _ _ = false

  pub same_members : Members → Members → Bool
  same_members no_members no_members = true
  same_members (member m v ms) (member n w ns) =
      bytes_eq m n && same_value v w && same_members ms ns
  same_members _ _ = false

-- `==`: Nothing equals only Nothing
abbrev pub equals : Option Value → Option Value → Bool
equals None None = true
equals (Some v) (Some w) = same_value v w
equals _ _ = false

-- ---- less

-- lexical order of scalar values: the empty text precedes any other; of two others the one whose
-- first scalar value is lower does, or, where those are the same, the one whose remainder precedes
-- the other's
abbrev pub precedes : List ℕ → List ℕ → Bool
precedes cs [] = false
precedes [] (d ∷ ds) = true
precedes (c ∷ cs) (d ∷ ds) = nat_lt c d || ((c == d) && precedes cs ds)

-- c times ten to the e
abbrev pub scaled : ℤ → ℤ → Scaled
scaled c e = record { coefficient = c; exponent = e }

-- the one number is less than the other
abbrev pub number_less : Scaled → Scaled → Bool
number_less x y = is_lt (scaled_cmp x y)

-- two numbers in order, or two texts
abbrev pub value_less : Value → Value → Bool
value_less (whole x) (whole y) = int_lt x y
value_less (whole x) (decimal d f) = number_less (unscaled x) (scaled d f)
value_less (decimal c e) (whole y) = number_less (scaled c e) (unscaled y)
value_less (decimal c e) (decimal d f) = number_less (scaled c e) (scaled d f)
value_less (text s) (text t) = precedes (chars s) (chars t)
value_less _ _ = false

-- `<`: false where a side is Nothing
abbrev pub is_less : Option Value → Option Value → Bool
is_less (Some v) (Some w) = value_less v w
is_less _ _ = false

-- ---- the operators

-- `<=`: less or equal
abbrev pub at_most : Option Value → Option Value → Bool
at_most a b = is_less a b || equals a b

-- `a != b` is true where `a == b` is not; `a > b` is `b < a`; `a >= b` is `b <= a`
abbrev pub compared : Op → Option Value → Option Value → Bool
compared Equal a b = equals a b
compared Unequal a b = not (equals a b)
compared Less a b = is_less a b
compared LessEqual a b = at_most a b
compared Greater a b = is_less b a
compared GreaterEqual a b = at_most b a
