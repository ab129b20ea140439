-- How many values there are in one: what falls from a value to those in it.
use Rattle.std.proofs.Common.{◌≡◌, ℕ, zero, suc, ◌+◌, ◌<◌, Option, Some, None, arith}
use Rattle.std.proofs.Common.{ap, subst, sym}
use Rattle.std.specs.List.{slice_get}
use Rattle.std.proofs.lemmas.Option.{same_Some}
use Rattle.jp_document.specs.Location.{Step, named, nth, entries, items_from, members_by_name}
use Rattle.jp_document.specs.Value.{Value, null, boolean, whole, decimal, text, list, object, Items}
use Rattle.jp_document.specs.Value.{no_items}
use Rattle.jp_document.specs.Value.{item, Members, no_members, member}

abbrev mutual
  pub weight : Value → ℕ
  weight (list vs) = suc (suc (weight_items vs))
  weight (object ms) = suc (suc (weight_members ms))
  weight _ = 2

  pub weight_items : Items → ℕ
  weight_items no_items = 0
  weight_items (item v vs) = suc (suc (suc (weight v + weight_items vs)))

  pub weight_members : Members → ℕ
  weight_members no_members = 0
  weight_members (member n v ms) = suc (suc (suc (weight v + weight_members ms)))

abbrev pub weight_of : Option Value → ℕ
weight_of None = 0
weight_of (Some v) = weight v

-- that of what is in it
abbrev pub weight_inside : Value → ℕ
weight_inside (list vs) = weight_items vs
weight_inside (object ms) = weight_members ms
weight_inside _ = 0

pub inside_less : (v : Value) → weight_inside v < weight v
inside_less null = omega arith
inside_less (boolean b) = omega arith
inside_less (whole z) = omega arith
inside_less (decimal c e) = omega arith
inside_less (text s) = omega arith
inside_less (list vs) = omega arith
inside_less (object ms) = omega arith

-- by more than one
pub inside-far-less : (v : Value) → suc (weight_inside v) < weight v
inside-far-less null = omega arith
inside-far-less (boolean b) = omega arith
inside-far-less (whole z) = omega arith
inside-far-less (decimal c e) = omega arith
inside-far-less (text s) = omega arith
inside-far-less (list vs) = omega arith
inside-far-less (object ms) = omega arith

-- what is in a side's value weighs less than the side
pub side_less : (a : Option Value) (v : Value) (t : ℕ) → a ≡ Some v → weight_of a ≡ t
    → weight_inside v < t
side_less a v t is at =
    let same : weight_of a ≡ weight v = ap weight_of is in
    let less = inside_less v in
    omega arith

item_less : (k : ℕ) (vs : Items) (i : ℕ) (e : Step × Value)
    → slice_get (items_from k vs) i ≡ Some e → suc (suc (weight e.1)) < weight_items vs
item_less k no_items i e at = absurd (cc)
item_less k (item v vs) zero e at =
    let same : (nth k, v) ≡ e = same_Some _ _ at in
    subst (λ (f : Step × Value). suc (suc (weight f.1)) < suc (suc (suc (weight v + weight_items vs)))) same
    (omega arith)
item_less k (item v vs) (suc i) e at = let less = item_less (suc k) vs i e at in omega arith

member_less : (ms : Members) (i : ℕ) (e : Step × Value)
    → slice_get (members_by_name ms) i ≡ Some e → suc (suc (weight e.1)) < weight_members ms
member_less no_members i e at = absurd (cc)
member_less (member n v ms) zero e at =
    let same : (named n, v) ≡ e = same_Some _ _ at in
    subst (λ (f : Step × Value). suc (suc (weight f.1)) < suc (suc (suc (weight v + weight_members ms)))) same
    (omega arith)
member_less (member n v ms) (suc i) e at = let less = member_less ms i e at in omega arith

part_less : (v : Value) (i : ℕ) (e : Step × Value) → slice_get (entries v) i ≡ Some e
    → suc (suc (weight e.1)) < weight_inside v
part_less null i e at = absurd (cc)
part_less (boolean b) i e at = absurd (cc)
part_less (whole z) i e at = absurd (cc)
part_less (decimal x y) i e at = absurd (cc)
part_less (text s) i e at = absurd (cc)
part_less (list vs) i e at = item_less 0 vs i e at
part_less (object ms) i e at = member_less ms i e at

-- a part weighs less than all parts, by more than two
pub part-far-within : (v : Value) (i t : ℕ) (e : Step × Value) → Some e ≡ slice_get (entries v) i
    → weight_inside v ≡ t → suc (suc (weight e.1)) < t
part-far-within v i t e at is = let less = part_less v i e (sym at) in omega arith

pub part_within : (v : Value) (i t : ℕ) (e : Step × Value) → Some e ≡ slice_get (entries v) i
    → weight_inside v ≡ t → suc (weight e.1) < t
part_within v i t e at is = let less = part_less v i e (sym at) in omega arith

-- and so does its value
pub item_within : (v : Value) (i t : ℕ) (e : Step × Value) → Some e ≡ slice_get (entries v) i
    → weight_inside v ≡ t → weight e.1 < t
item_within v i t e at is = let less = part_less v i e (sym at) in omega arith
