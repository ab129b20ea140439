-- Members with keys, and the order of them.
use Rattle.std.specs.Prelude.{◌≡◌, ℕ, List, drop, map}
use Rattle.std.specs.Cmp.Lexicographic.{slice_cmp}
use Rattle.std.specs.List.{All}
use Rattle.std.specs.declared.cmp.Ordering.{Ordering}
use Rattle.std.specs.Ordering.{nat_cmp, ordering_then}
use Rattle.jp_flat.specs.Flat.{Shown}
use Rattle.jp_flat.specs.Private.Fronts.{front_of}
use Rattle.jp_flat.specs.Private.Parts.{name_in}
use Rattle.jp_flat.specs.declared.item.Named.{Named}
use Rattle.jp_flat.specs.declared.key.Keyed.{Keyed}

abbrev pub members_in : List Keyed → List Named
members_in = map (λ k. k.member)

-- these are the members with keys: each is the front of what stands behind so many bytes of the name
pub record AreKeyed (t : Shown) (shared : ℕ) (members : List Named) (keyed : List Keyed) : Type 0
  where
    pub same : members_in keyed ≡ members
    pub keys : All (λ k. k.key ≡ front_of 8 (drop shared (name_in t k.member))) keyed

-- by the keys, and where these are the same by the names
abbrev pub keyed_cmp : Shown → Keyed → Keyed → Ordering
keyed_cmp t a b =
    ordering_then (nat_cmp a.key b.key) (slice_cmp nat_cmp (name_in t a.member) (name_in t b.member))
