-- A search by halves among names that rise: for `search`.
use Rattle.std.proofs.Common.{◌≡◌, ◌+◌, ◌≤◌, ◌<◌, ℕ, List, length, get_or, Ordering, Less, Equal}
use Rattle.std.proofs.Common.{Greater, arith, refl, ap, ◌∙◌}
use Rattle.std.specs.List.{AllWithin}
use Rattle.std.specs.List.Sorted.{IsNonDecreasingBy}
use Rattle.std.specs.Ordering.{ordering_index}
use Rattle.std.proofs.lemmas.List.{get_or_default}
use Rattle.jp_document.proofs.Members.ByName.{bytes_cmp}
use Rattle.jp_flat.specs.Flat.{Shown}
use Rattle.jp_flat.specs.Private.Parts.{name_in}
use Rattle.jp_flat.specs.declared.item.Named.{Named}

-- the order of a member's name beside another
abbrev pub order_of : Shown → List ℕ → Named → Ordering
order_of t name m = bytes_cmp (name_in t m) name

-- where the orders rise, those before the one index are `Less`, and those from the other on are
-- `Greater`
abbrev pub Halved : (Named → Ordering) → List Named → ℕ → ℕ → Type 0
Halved ord ms low high =
    IsNonDecreasingBy (λ m. ordering_index (ord m)) ms
    → AllWithin (λ m. ord m ≡ Less) ms 0 low × AllWithin (λ m. ord m ≡ Greater) ms high (length ms)

least : (o : Ordering) → ordering_index o ≤ 0 → o ≡ Less
least Less is = refl
least Equal is = absurd (omega (arith, is))
least Greater is = absurd (omega (arith, is))

most : (o : Ordering) → 2 ≤ ordering_index o → o ≡ Greater
most Less is = absurd (omega (arith, is))
most Equal is = absurd (omega (arith, is))
most Greater is = refl

pub at_any : (ord : Named → Ordering) (ms : List Named) (i : ℕ) (d e : Named) (o : Ordering)
    → i < length ms → ord (get_or ms i e) ≡ o → ord (get_or ms i d) ≡ o
at_any ord ms i d e o within is = ap ord (get_or_default ms i d e within) ∙ is

pub halved_none : (ord : Named → Ordering) (ms : List Named) → Halved ord ms 0 (length ms)
halved_none ord ms rise =
    (λ k d low high. absurd (omega (arith, high)), λ k d low high. absurd (omega (arith, low, high)))

pub halved_below : (ord : Named → Ordering) (ms : List Named) (low high next : ℕ) (e : Named)
    → next < length ms → ord (get_or ms next e) ≡ Less → Halved ord ms low high
    → Halved ord ms (next + 1) high
halved_below ord ms low high next e within is so rise = (
  λ k d from to. least (ord (get_or ms k d))
      (omega (
        arith,
        rise k next d (omega (arith, to)) within,
        ap ordering_index (at_any ord ms next d e Less within is),
      )),
  (so rise).1,
)

pub halved_above : (ord : Named → Ordering) (ms : List Named) (low high next : ℕ) (e : Named)
    → next < length ms → ord (get_or ms next e) ≡ Greater → Halved ord ms low high
    → Halved ord ms low next
halved_above ord ms low high next e within is so rise = (
  (so rise).0,
  λ k d from to. most (ord (get_or ms k d))
      (omega (
        arith,
        rise next k d from to,
        ap ordering_index (at_any ord ms next d e Greater (omega (arith, within)) is),
      )),
)
