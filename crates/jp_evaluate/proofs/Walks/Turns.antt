-- The turns by which a segment chooses.
use Rattle.std.proofs.Common.{◌≡◌, ◌≢◌, ℕ, zero, suc, ◌+◌, ◌-◌, ◌<◌, ◌≤◌, Bool, true}
use Rattle.std.proofs.Common.{false, List, [], ◌∷◌, ◌++◌, Some, None, drop-cons}
use Rattle.std.proofs.Common.{length, map, slice_index_or, refl, ap, ap₂, sym, ◌∙◌, arith}
use Rattle.std.specs.List.{slice_get}
use Rattle.std.proofs.lemmas.Option.{same_Some}
use Rattle.jp_tree.specs.Tree.{SegmentTrees, SelectorTree, segment}
use Rattle.jp_tree.specs.Views.{segment_of}
use Rattle.jp_tree.specs.Tree.{segment_then, segments, selectors, wildcard}
use Rattle.jp_tree.specs.Views.{selector_of}
use Rattle.jp_tree.specs.declared.tree.Segment.{Segment, out-Segment}
use Rattle.jp_tree.specs.declared.tree.Selector.{Selector}
use Rattle.jp_evaluate.specs.Private.Sizes.{segment_size, segments_size, selector_size}
use Rattle.jp_evaluate.specs.Private.Walk.{segments_left, selector_turns, turns}
use Rattle.jp_evaluate.proofs.Parts.Sizes.{segment_part, selector_part}
use Rattle.jp_tree.proofs.Views.{segment_of-is}

-- ---- segments

pub segments_left-next : (all : List Segment) (i : ℕ) (s : Segment) → i < length all
    → s ≡ slice_index_or all i s
    → segments_left all i ≡ segment_then (segment_of s) (segments_left all (i + 1))
segments_left-next all i s within at =
    let next : suc i ≡ i + 1 = omega arith in
    ap (λ xs. segments (map segment_of xs)) (drop-cons all i s within)
    ∙ ap₂ (λ (x : Segment) k. segment_then (segment_of x) (segments_left all k)) (sym at) next

-- the segment after i others, and those after it
pub left_there : (all : List Segment) (i : ℕ) (s : Segment) (xs : List Selector) → i < length all
    → s ≡ slice_index_or all i s → (out-Segment s).selectors.items ≡ xs
    → segments_left all i ≡
    segment_then (segment (out-Segment s).descendant (selectors (map selector_of xs)))
    (segments_left all (i + 1))
left_there all i s xs within at are =
    segments_left-next all i s within at
    ∙ ap (λ t. segment_then t (segments_left all (i + 1)))
    (segment_of-is s
    ∙ ap (λ ys. segment (out-Segment s).descendant (selectors (map selector_of ys))) are)

-- ---- selectors

turn_first : (xs : List SelectorTree) (rest : SegmentTrees)
    (more : List (SelectorTree × SegmentTrees)) (n : ℕ) (x : SelectorTree)
    → slice_get xs n ≡ Some x
    → slice_get (selector_turns rest (selectors xs) ++ more) n ≡ Some (x, rest)
turn_first [] rest more n x at = absurd (cc)
turn_first (y ∷ xs) rest more zero x at = ap (λ z. Some (z, rest)) (same_Some y x at)
turn_first (y ∷ xs) rest more (suc n) x at = turn_first xs rest more n x at

turn_later : (xs : List SelectorTree) (rest : SegmentTrees)
    (more : List (SelectorTree × SegmentTrees)) (n : ℕ) → length xs ≤ n
    → slice_get (selector_turns rest (selectors xs) ++ more) n ≡ slice_get more (n - length xs)
turn_later [] rest more n past = ap (slice_get more) (omega arith)
turn_later (y ∷ xs) rest more zero past = absurd (omega arith)
turn_later (y ∷ xs) rest more (suc n) past =
    let same : n - length xs ≡ suc n - suc (length xs) = omega arith in
    turn_later xs rest more n (omega arith) ∙ ap (slice_get more) same

pub selector_turn : (b : Bool) (xs : List SelectorTree) (rest : SegmentTrees) (n : ℕ)
    (x : SelectorTree) → slice_get xs n ≡ Some x
    → slice_get (turns (segment_then (segment b (selectors xs)) rest)) n ≡ Some (x, rest)
selector_turn b xs rest n x at = turn_first xs rest _ n x at

pub children_turn : (b : Bool) (xs : List SelectorTree) (rest : SegmentTrees) (n : ℕ) → b ≡ true
    → n ≡ length xs
    → slice_get (turns (segment_then (segment b (selectors xs)) rest)) n ≡
    Some (wildcard, segment_then (segment b (selectors xs)) rest)
children_turn true xs rest n is at =
    let none : n - length xs ≡ 0 = omega arith in
    turn_later xs rest _ n (omega arith)
    ∙ ap (slice_get ((wildcard, segment_then (segment true (selectors xs)) rest) ∷ [])) none
children_turn false xs rest n is at = absurd (cc)

pub no_turn : (b : Bool) (xs : List SelectorTree) (rest : SegmentTrees) (n : ℕ) → length xs ≤ n
    → (b ≡ true → n ≢ length xs)
    → slice_get (turns (segment_then (segment b (selectors xs)) rest)) n ≡ None
no_turn false xs rest n past not = turn_later xs rest _ n past
no_turn true xs rest n past not =
    let apart : n ≢ length xs = not refl in
    let more : n - length xs ≡ suc (n - length xs - 1) = omega arith in
    turn_later xs rest _ n past
    ∙ ap (slice_get ((wildcard, segment_then (segment true (selectors xs)) rest) ∷ [])) more

-- a selector is smaller than the segments that have it
pub selector_smaller : (all : List Segment) (i n : ℕ) (s : Segment) (xs : List Selector)
    (x : Selector) → i < length all → s ≡ slice_index_or all i s
    → (out-Segment s).selectors.items ≡ xs → n < length xs → x ≡ slice_index_or xs n x
    → selector_size (selector_of x) < segments_size (segments (map segment_of all))
selector_smaller all i n s xs x within at are inside is =
    let part = selector_part xs n x inside is in
    let tree = segment_of-is s
    ∙ ap (λ ys. segment (out-Segment s).descendant (selectors (map selector_of ys))) are in
    let whole = segment_part all i s within at in
    let size = ap segment_size tree in
    omega arith
