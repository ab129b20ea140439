-- The test for the empty word, and patterns without positions.
use Rattle.std.proofs.Common.{◌≡◌, ◌↔◌, ◌⊎◌, inl, inr, ℕ, zero, suc, ◌≤◌, Bool, ◌||◌}
use Rattle.std.proofs.Common.{nat_le, List, [], Option, Some, None, refl}
use Rattle.std.proofs.Common.{subst, arith}
use Rattle.std.specs.Bool.{IsTrue}
use Rattle.std.proofs.lemmas.Bool.{leb-true, le-leb}
use Rattle.jp_iregexp.specs.Tree as tree
use Rattle.jp_iregexp.specs.Tree.{Tree}
use Rattle.jp_iregexp.specs.Language.{Power, Language, IsAtMost}
use Rattle.jp_match.specs.Private.EmptyWord.{has_empty, is_within}
use Rattle.jp_match.proofs.Bools.{and_is, or_is, and_iff, or_iff, then_iff}
use Rattle.jp_match.proofs.Steps.EndParts.{joined_nil, nil_before, nil_is}

within_is : (least : ℕ) (most : Option ℕ) → IsTrue (is_within least most) ↔ IsAtMost most least
within_is least None = (λ h. tt, λ h. refl)
within_is least (Some most) = (leb-true least most, le-leb least most)

at_most_within : (least k : ℕ) (most : Option ℕ) → least ≤ k → IsAtMost most k → IsAtMost most least
at_most_within least k None enough within = tt
at_most_within least k (Some most) enough within = omega arith

pub powers_nil : (L : List ℕ → Type 0) (k : ℕ) → L [] → Power L k []
powers_nil L zero h = refl
powers_nil L (suc k) h = nil_before h (powers_nil L k h)

none_or_first : (L : List ℕ → Type 0) (least k : ℕ) → least ≤ k → Power L k [] → (b : Bool)
    → (L [] → IsTrue b) → IsTrue (nat_le least 0) ⊎ IsTrue b
none_or_first L least zero enough words b is = inl (le-leb least 0 enough)
none_or_first L least (suc k) enough words b is = inr (is (joined_nil {L = L} {M = Power L k} words).0)

pub empty_is : (t : Tree) → IsTrue (has_empty t) ↔ Language t []
empty_is (tree.class negated items) = (λ h. absurd (cc), λ h. absurd (let e = h.2 in cc))
empty_is tree.nothing = (λ h. absurd (cc), λ h. absurd h)
empty_is (tree.either a b) = or_iff (empty_is a) (empty_is b)
empty_is tree.empty = (λ h. refl, λ h. refl)
empty_is (tree.sequence a b) = then_iff (and_iff (empty_is a) (empty_is b)) (nil_is {L = Language a}
    {M = Language b})
empty_is (tree.repeat a least most) = (
  λ h.
      let p = (and_is (is_within least most) (nat_le least 0 || has_empty a)).0 h in
      let within = (within_is least most).0 p.0 in
      elim ((or_is (nat_le least 0) (has_empty a)).0 p.1) [
        | inl z ↦ let none : 0 ≡ least = (let e = leb-true least 0 z in omega arith) in
            (least, omega arith, within, subst (λ k. Power (Language a) k []) none refl)
        | inr e ↦ (least, omega arith, within, powers_nil (Language a) least ((empty_is a).0 e))
      ],
  λ h.
      let (k, enough, within, words) = h in
      (and_is (is_within least most) (nat_le least 0 || has_empty a)).1 (
        (within_is least most).1 (at_most_within least k most enough within),
        (or_is (nat_le least 0) (has_empty a)).1 (none_or_first (Language a) least k enough words
            (has_empty a) (empty_is a).1),
      ),
)
