-- A pattern written out has exactly the words of the pattern.
use Rattle.std.proofs.Common.{◌↔◌, inl, inr, ℕ, zero, suc, ◌≤◌, List, Some, None, arith}
use Rattle.jp_iregexp.specs.Tree as tree
use Rattle.jp_iregexp.specs.Tree.{Tree}
use Rattle.jp_iregexp.specs.Language.{Power, Language}
use Rattle.jp_match.specs.Private.Plain.{Plain, Words, at_least, between, counted, unrolled}
use Rattle.jp_match.proofs.Steps.EndParts.{joined_by}

power_as : (L L' : List ℕ → Type 0) → ((w : List ℕ) → L w → L' w) → (k : ℕ) (w : List ℕ)
    → Power L k w → Power L' k w
power_as L L' each zero w p = p
power_as L L' each (suc k) w p = joined_by p (each p.prefix p.first) (power_as L L' each k p.suffix
    p.second)

pub at_least_to : (a : Plain) (least : ℕ) (w : List ℕ) → Words (at_least a least) w
    → (k : ℕ) × (least ≤ k) × Power (Words a) k w
unfolding at_least
at_least_to a zero w (inl none) = (0, omega arith, none)
at_least_to a zero w (inr some) = (suc some.0, omega arith, some.1)
at_least_to a (suc zero) w h = (suc h.0, omega arith, h.1)
at_least_to a (suc (suc n)) w h =
    let (k, enough, words) = at_least_to a (suc n) h.suffix h.second in (
      suc k,
      omega (arith, enough),
      joined_by h h.first words,
    )

pub at_least_of : (a : Plain) (least k : ℕ) (w : List ℕ) → least ≤ k → Power (Words a) k w
    → Words (at_least a least) w
unfolding at_least
at_least_of a zero zero w enough p = inl p
at_least_of a zero (suc k) w enough p = inr (k, p)
at_least_of a (suc zero) zero w enough p = absurd (omega arith)
at_least_of a (suc zero) (suc k) w enough p = (k, p)
at_least_of a (suc (suc n)) zero w enough p = absurd (omega arith)
at_least_of a (suc (suc n)) (suc k) w enough p =
    joined_by p p.first (at_least_of a (suc n) k p.suffix (omega arith) p.second)

pub between_to : (a : Plain) (least most : ℕ) (w : List ℕ) → Words (between a least most) w
    → (k : ℕ) × (least ≤ k) × (k ≤ most) × Power (Words a) k w
unfolding between
between_to a zero zero w h = (0, omega arith, omega arith, h)
between_to a zero (suc most) w (inl none) = (0, omega arith, omega arith, none)
between_to a zero (suc most) w (inr j) =
    let (k, enough, within, words) = between_to a zero most j.suffix j.second in (
      suc k,
      omega arith,
      omega (arith, within),
      joined_by j j.first words,
    )
between_to a (suc least) zero w h = absurd h
between_to a (suc least) (suc most) w j =
    let (k, enough, within, words) = between_to a least most j.suffix j.second in (
      suc k,
      omega (arith, enough),
      omega (arith, within),
      joined_by j j.first words,
    )

pub between_of : (a : Plain) (least most k : ℕ) (w : List ℕ) → least ≤ k → k ≤ most
    → Power (Words a) k w → Words (between a least most) w
unfolding between
between_of a zero zero zero w enough within p = p
between_of a zero zero (suc k) w enough within p = absurd (omega arith)
between_of a zero (suc most) zero w enough within p = inl p
between_of a zero (suc most) (suc k) w enough within p =
    inr (joined_by p p.first (between_of a zero most k p.suffix (omega arith) (omega arith)
    p.second))
between_of a (suc least) most zero w enough within p = absurd (omega arith)
between_of a (suc least) zero (suc k) w enough within p = absurd (omega arith)
between_of a (suc least) (suc most) (suc k) w enough within p =
    joined_by p p.first (between_of a least most k p.suffix (omega arith) (omega arith) p.second)

unrolled_to : (t : Tree) (w : List ℕ) → Words (unrolled t) w → Language t w
unfolding unrolled counted
unrolled_to (tree.class negated items) w h = h
unrolled_to tree.nothing w h = h
unrolled_to (tree.either a b) w (inl h) = inl (unrolled_to a w h)
unrolled_to (tree.either a b) w (inr h) = inr (unrolled_to b w h)
unrolled_to tree.empty w h = h
unrolled_to (tree.sequence a b) w j = joined_by j (unrolled_to a j.prefix j.first) (unrolled_to b
    j.suffix j.second)
unrolled_to (tree.repeat a least None) w h =
    let (k, enough, words) = at_least_to (unrolled a) least w h in
    (k, enough, tt, power_as (Words (unrolled a)) (Language a) (unrolled_to a) k w words)
unrolled_to (tree.repeat a least (Some most)) w h =
    let (k, enough, within, words) = between_to (unrolled a) least most w h in
    (k, enough, within, power_as (Words (unrolled a)) (Language a) (unrolled_to a) k w words)

unrolled_of : (t : Tree) (w : List ℕ) → Language t w → Words (unrolled t) w
unfolding unrolled counted
unrolled_of (tree.class negated items) w h = h
unrolled_of tree.nothing w h = h
unrolled_of (tree.either a b) w (inl h) = inl (unrolled_of a w h)
unrolled_of (tree.either a b) w (inr h) = inr (unrolled_of b w h)
unrolled_of tree.empty w h = h
unrolled_of (tree.sequence a b) w j = joined_by j (unrolled_of a j.prefix j.first) (unrolled_of b
    j.suffix j.second)
unrolled_of (tree.repeat a least None) w (k, enough, within, p) =
    at_least_of (unrolled a) least k w enough (power_as (Language a) (Words (unrolled a))
    (unrolled_of a) k w p)
unrolled_of (tree.repeat a least (Some most)) w (k, enough, within, p) =
    between_of (unrolled a) least most k w enough within (power_as (Language a) (Words (unrolled
    a)) (unrolled_of a) k w p)

-- the words of a pattern that is written out are exactly those of the pattern
pub unrolled-words : (t : Tree) (w : List ℕ) → Words (unrolled t) w ↔ Language t w
unrolled-words t w = (unrolled_to t w, unrolled_of t w)
