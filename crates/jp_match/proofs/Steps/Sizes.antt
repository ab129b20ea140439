-- How many positions and rounds a pattern has once it is written out.
use Rattle.std.proofs.Common.{◌≡◌, ℕ, zero, suc, ◌+◌, ◌*◌, ◌≤◌, max, min, Bool, List, [], ◌∷◌, Some, None}
use Rattle.std.proofs.Common.{Option, map, subst, drop, refl, sym, ap, ◌∙◌, arith}
use Rattle.jp_iregexp.specs.declared.class.CharClass.{CharClass}
use Rattle.jp_iregexp.specs.declared.pattern.Pattern.{Pattern, roll-Pattern, out-Pattern}
use Rattle.jp_iregexp.specs.declared.pattern.Pattern.TheOpen.{Pattern-F}
use Rattle.jp_iregexp.specs.declared.pattern.Pattern.TheVariants as pattern
use Rattle.jp_iregexp.specs.declared.pattern.Pattern.TheVariants.{rolls-Class, rolls-Either}
use Rattle.jp_iregexp.specs.declared.pattern.Pattern.TheVariants.{rolls-Sequence, rolls-Repeat}
use Rattle.jp_iregexp.specs.declared.pattern.Pattern.TheViews.{roll-out-Pattern}
use Rattle.jp_iregexp.specs.Tree as tree
use Rattle.jp_iregexp.specs.Tree.{Tree, branches, pieces}
use Rattle.jp_iregexp.specs.Tree.{tree as tree_of}
use Rattle.jp_iregexp.specs.Positions.{positions_of}
use Rattle.jp_iregexp.proofs.Trees.{tree_either, tree_sequence, tree_repeat}
use Rattle.jp_match.specs.Private.Plain.{Plain, class, nothing, either, empty, sequence, plus}
use Rattle.jp_match.specs.Private.Plain.{at_least, between, counted, unrolled}
use Rattle.jp_match.specs.Private.Marks.{size}
use Rattle.jp_match.specs.Private.Sweeps.{own_rounds, rounds_of, Rounds}

pub size_between : (a : Plain) (least most : ℕ) → size (between a least most) ≡ most * size a
unfolding between
size_between a zero zero = omega arith
size_between a zero (suc most) = omega (arith, size_between a zero most)
size_between a (suc least) zero = omega arith
size_between a (suc least) (suc most) = omega (arith, size_between a least most)

pub size_at_least : (a : Plain) (least : ℕ) → size (at_least a least) ≡ max least 1 * size a
unfolding at_least
size_at_least a zero = omega arith
size_at_least a (suc zero) = omega arith
size_at_least a (suc (suc n)) =
    let fewer : max (suc n) 1 ≡ suc n = omega arith in
    let all : max (suc (suc n)) 1 ≡ suc (suc n) = omega arith in
    let more : size a + suc n * size a ≡ suc (suc n) * size a = omega arith in
    ap (λ m. size a + m) (size_at_least a (suc n) ∙ ap (λ m. m * size a) fewer) ∙ more ∙
    ap (λ m. m * size a) (sym all)

-- a pattern that is written out has as many positions as the pattern
pub size_unrolled : (t : Tree) → size (unrolled t) ≡ positions_of t
unfolding unrolled counted
size_unrolled (tree.class negated items) = refl
size_unrolled tree.nothing = refl
size_unrolled (tree.either a b) = omega (arith, size_unrolled a, size_unrolled b)
size_unrolled tree.empty = refl
size_unrolled (tree.sequence a b) = omega (arith, size_unrolled a, size_unrolled b)
size_unrolled (tree.repeat a least None) = size_at_least (unrolled a) least ∙
    ap (λ n. max least 1 * n) (size_unrolled a)
size_unrolled (tree.repeat a least (Some most)) = size_between (unrolled a) least most ∙
    ap (λ n. most * n) (size_unrolled a)

pub rounds_between : (a : Plain) (least most : ℕ)
    → rounds_of (between a least most) ≡ most * rounds_of a
unfolding between
rounds_between a zero zero = omega arith
rounds_between a zero (suc most) = omega (arith, rounds_between a zero most)
rounds_between a (suc least) zero = omega arith
rounds_between a (suc least) (suc most) = omega (arith, rounds_between a least most)

pub rounds_at_least : (a : Plain) (least : ℕ)
    → rounds_of (at_least a least) ≡ max least 1 * rounds_of a + own_rounds a
unfolding at_least
rounds_at_least a zero = omega arith
rounds_at_least a (suc zero) = omega arith
rounds_at_least a (suc (suc n)) =
    let fewer : max (suc n) 1 ≡ suc n = omega arith in
    let all : max (suc (suc n)) 1 ≡ suc (suc n) = omega arith in
    let more : rounds_of a + (suc n * rounds_of a + own_rounds a)
    ≡ suc (suc n) * rounds_of a + own_rounds a = omega arith in
    ap (λ m. rounds_of a + m) (rounds_at_least a (suc n) ∙ ap (λ m. m * rounds_of a + own_rounds a)
    fewer) ∙ more ∙ ap (λ m. m * rounds_of a + own_rounds a) (sym all)

pub own_few : (a : Plain) → own_rounds a ≤ size a
own_few (class negated items) = omega arith
own_few nothing = omega arith
own_few (either a b) = omega arith
own_few empty = omega arith
own_few (sequence a b) = omega arith
own_few (plus a) = omega arith

pub own_one : (a : Plain) → own_rounds a ≤ 1
own_one (class negated items) = omega arith
own_one nothing = omega arith
own_one (either a b) = omega arith
own_one empty = omega arith
own_one (sequence a b) = omega arith
own_one (plus a) = omega arith

-- without positions there are no rounds
pub rounds_without : (a : Plain) → size a ≡ 0 → rounds_of a ≡ 0
rounds_without (class negated items) none = refl
rounds_without nothing none = refl
rounds_without (either a b) none =
    let left = rounds_without a (omega (arith, none)) in
    let right = rounds_without b (omega (arith, none)) in
    omega (arith, left, right)
rounds_without empty none = refl
rounds_without (sequence a b) none =
    let left = rounds_without a (omega (arith, none)) in
    let right = rounds_without b (omega (arith, none)) in
    omega (arith, left, right)
rounds_without (plus a) none =
    let inner = rounds_without a none in omega (arith, inner, own_few a, none)

-- nothing is kept of a pattern without rounds
pub rounds_free : (a : Plain) (marks rounds : List Bool) → rounds_of a ≡ 0 → Rounds a marks rounds
rounds_free (class negated items) marks rounds none = tt
rounds_free nothing marks rounds none = tt
rounds_free (either a b) marks rounds none = (
  rounds_free a marks rounds (omega (arith, none)),
  rounds_free b (drop (size a) marks) (drop (rounds_of a) rounds) (omega (arith, none)),
)
rounds_free empty marks rounds none = tt
rounds_free (sequence a b) marks rounds none = (
  rounds_free a marks rounds (omega (arith, none)),
  rounds_free b (drop (size a) marks) (drop (rounds_of a) rounds) (omega (arith, none)),
)
rounds_free (plus a) marks rounds none = (
  λ one. absurd (omega (arith, one, none)),
  rounds_free a marks (drop (own_rounds a) rounds) (omega (arith, none)),
)

own_branches : (ts : List Tree)
    → own_rounds (unrolled (branches ts)) ≡ min (size (unrolled (branches ts))) 1
unfolding unrolled
own_branches [] = refl
own_branches (t ∷ ts) = refl

own_pieces : (ts : List Tree)
    → own_rounds (unrolled (pieces ts)) ≡ min (size (unrolled (pieces ts))) 1
unfolding unrolled
own_pieces [] = refl
own_pieces (t ∷ ts) = refl

own_repeat : (a : Tree) (least : ℕ) (most : Option ℕ)
    → own_rounds (unrolled (tree.repeat a least most))
    ≡ min (size (unrolled (tree.repeat a least most))) 1
unfolding unrolled counted between at_least
own_repeat a zero None = refl
own_repeat a (suc zero) None = refl
own_repeat a (suc (suc n)) None = refl
own_repeat a zero (Some zero) = refl
own_repeat a zero (Some (suc most)) = refl
own_repeat a (suc least) (Some zero) = refl
own_repeat a (suc least) (Some (suc most)) = refl

abbrev IsOwn : Pattern → Type 0
IsOwn p = own_rounds (unrolled (tree_of p)) ≡ min (size (unrolled (tree_of p))) 1

own_layer : (x : Pattern-F Pattern) → ((k : CharClass) → roll-Pattern x ≡ pattern.Class k → ⊥)
    → IsOwn (roll-Pattern x)
own_layer (Pattern-F.Either bs) other =
    rw (rolls-Either bs, tree_either bs) (own_branches (map tree_of bs.items))
own_layer (Pattern-F.Sequence ps) other =
    rw (rolls-Sequence ps, tree_sequence ps) (own_pieces (map tree_of ps.items))
own_layer (Pattern-F.Repeat inner least most) other =
    rw (rolls-Repeat inner least most, tree_repeat inner least most) (own_repeat (tree_of
    inner.value) least most)
own_layer (Pattern-F.Class k) other = absurd (other k (rolls-Class k))

-- a repeat of a pattern that is no class keeps its round where there is a position
pub own_other : (p : Pattern) → ((k : CharClass) → p ≡ pattern.Class k → ⊥)
    → own_rounds (unrolled (tree_of p)) ≡ min (size (unrolled (tree_of p))) 1
own_other p other =
    subst IsOwn (roll-out-Pattern p) (own_layer (out-Pattern p) (λ k is. other k (sym
    (roll-out-Pattern p) ∙ is)))
