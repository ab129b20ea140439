-- The parts of queries are smaller.
use Rattle.std.proofs.Common.{◌≡◌, ℕ, zero, suc, ◌<◌, ◌≤◌, List, [], ◌∷◌}
use Rattle.std.proofs.Common.{length, map, slice_index_or, ap, subst, arith}
use Rattle.jp_tree.specs.Tree.{exprs, segments, selectors}
use Rattle.jp_tree.specs.Views.{expr_of, segment_of, selector_of}
use Rattle.jp_tree.specs.declared.tree.Expr.{Expr}
use Rattle.jp_tree.specs.declared.tree.Segment.{Segment}
use Rattle.jp_tree.specs.declared.tree.Selector.{Selector}
use Rattle.jp_evaluate.specs.Private.Sizes.{expr_size, exprs_size, segment_size}
use Rattle.jp_evaluate.specs.Private.Sizes.{segments_size, selector_size, selectors_size}

part_size : (es : List Expr) (i : ℕ) (e : Expr) → i < length es → e ≡ slice_index_or es i e
    → expr_size (expr_of e) < exprs_size (exprs (map expr_of es))
part_size [] i e within at = absurd (omega arith)
part_size (x ∷ es) zero e within at =
    let same = ap (λ y. expr_size (expr_of y)) at in omega (arith, same)
part_size (x ∷ es) (suc i) e within at =
    let more = part_size es i e (omega arith) at in omega (arith, more)

-- a part of what has the size n is below n
pub part_less : (es : List Expr) (i : ℕ) (e : Expr) (n : ℕ) → i < length es
    → e ≡ slice_index_or es i e → exprs_size (exprs (map expr_of es)) ≡ n
    → expr_size (expr_of e) < n
part_less es i e n within at is =
    subst (λ (k : ℕ). expr_size (expr_of e) < k) is (part_size es i e within at)

pub selector_part : (xs : List Selector) (i : ℕ) (x : Selector) → i < length xs
    → x ≡ slice_index_or xs i x
    → selector_size (selector_of x) < selectors_size (selectors (map selector_of xs))
selector_part [] i x within at = absurd (omega arith)
selector_part (y ∷ xs) zero x within at =
    let same = ap (λ z. selector_size (selector_of z)) at in omega (arith, same)
selector_part (y ∷ xs) (suc i) x within at =
    let more = selector_part xs i x (omega arith) at in omega (arith, more)

pub segment_part : (xs : List Segment) (i : ℕ) (x : Segment) → i < length xs
    → x ≡ slice_index_or xs i x
    → segment_size (segment_of x) ≤ segments_size (segments (map segment_of xs))
segment_part [] i x within at = absurd (omega arith)
segment_part (y ∷ xs) zero x within at =
    let same = ap (λ z. segment_size (segment_of z)) at in omega (arith, same)
segment_part (y ∷ xs) (suc i) x within at =
    let more = segment_part xs i x (omega arith) at in omega (arith, more)
