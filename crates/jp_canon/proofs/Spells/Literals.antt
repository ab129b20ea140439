-- The canonical texts of slices and literals spell them.
use Rattle.std.proofs.Common.{◌≡◌, ℕ, ◌+◌, Bool, true, false, cond, [], ◌++◌}
use Rattle.std.proofs.Common.{Option, pos, negsuc, refl, sym, ap, subst, codes}
use Rattle.std.proofs.lemmas.Bool.{eqb-true}
use Rattle.jp_reading.specs.Texts.{Spans, Text, bytes}
use Rattle.jp_tree.specs.declared.tree.Numeral.{Numeral}
use Rattle.jp_tree.specs.declared.tree.Numeral.TheVariants.{Beyond, Fraction, Whole}
use Rattle.jp_tree.specs.declared.tree.Slice.{Slice}
use Rattle.jp_query.specs.Ints.{Int}
use Rattle.jp_query.specs.Literals.{Literal, of_false, of_null, of_number, of_text, of_true}
use Rattle.jp_query.specs.Slices.{Bound, Sliced, SliceStep, bound, empty_step}
use Rattle.jp_query.specs.Slices.{given_step, no_bound, no_step}
use Rattle.jp_tree.specs.Tree.{LiteralTree}
use Rattle.jp_canon.specs.Canon.{bound_text, is_one, literal_text}
use Rattle.jp_canon.specs.Canon.{numeral_text, slice_text, step_text}
use Rattle.jp_canon.proofs.Forms.{Has, after-blank, before-blank, both}
use Rattle.jp_canon.proofs.Forms.{has-as, has-equal_tree, has-component, has-omitted, has-word}
use Rattle.jp_canon.proofs.Names.{has-quoted}
use Rattle.jp_canon.proofs.Numbers.{int, number-text}

-- ---- slices

is_one-is : (i : Numeral) → is_one i ≡ true → i ≡ Whole (pos 1)
is_one-is (Whole (pos n)) is = ap (λ m. Whole (pos m)) (eqb-true n 1 is)
is_one-is (Whole (negsuc n)) is = absurd (cc)
is_one-is (Beyond d) is = absurd (cc)
is_one-is (Fraction n) is = absurd (cc)

has-bound : (x : Option Numeral) (s : Spans) (o : ℕ) (t : Text) → Bound x s o t
    → Has (Bound x) (bound_text x)
has-bound x s o t (no_bound is h) = has-equal_tree Bound bound_text is
    (has-as (λ r p. no_bound refl) (has-word []))
has-bound x s o t (bound i is h) =
    has-equal_tree Bound bound_text is
    (has-as (λ r p. bound i refl) (before-blank (has-component (int i h.one.inside o h.first h.one.is))))

no-step : Has (SliceStep (Whole (pos 1))) []
no-step = has-as (λ s o. no_step refl) has-omitted

given : (i : Numeral) (b : Bool) → is_one i ≡ b → Has (Int i) (numeral_text i)
    → Has (SliceStep i) (cond b [] (codes ":" ++ numeral_text i))
given i true is h = subst (λ j. Has (SliceStep j) []) (sym (is_one-is i is)) no-step
given i false is h = has-as (λ s o. given_step)
    (both (has-word (codes ":")) (after-blank (has-component h)))

has-step : (i : Numeral) (s : Spans) (o : ℕ) (t : Text) → SliceStep i s o t → Has (SliceStep i) (step_text i)
has-step i s o t (no_step is h) = has-equal_tree SliceStep step_text is no-step
has-step i s o t (empty_step is h) = has-equal_tree SliceStep step_text is no-step
has-step i s o t (given_step h) =
    let at = o + bytes h.first + bytes h.two.first in
    given i (is_one i) refl (int i h.two.two.inside at h.two.second h.two.two.is)

pub sliced-text : (x : Slice) (s : Spans) (o : ℕ) (t : Text) → Sliced x s o t
    → Has (Sliced x) (slice_text x)
sliced-text x s o t h =
    both (has-bound x.start _ _ _ h.one)
    (both (has-word (codes ":"))
    (after-blank
    (both (has-bound x.end _ _ _ h.two.two.two.one) (has-step x.step _ _ _ h.two.two.two.two))))

-- ---- literals

pub literal-text : (x : LiteralTree) (s : Spans) (o : ℕ) (t : Text) → Literal x s o t
    → Has (Literal x) (literal_text x)
literal-text x s o t (of_number i is h) =
    has-equal_tree Literal literal_text is
    (has-as (λ r p. of_number i refl) (number-text i s o t h))
literal-text x s o t (of_text cs is h) =
    has-equal_tree Literal literal_text is
    (has-as (λ r p. of_text cs refl) (has-quoted cs))
literal-text x s o t (of_true is h) = has-equal_tree Literal literal_text is
    (has-as (λ r p. of_true refl) (has-word _))
literal-text x s o t (of_false is h) = has-equal_tree Literal literal_text is
    (has-as (λ r p. of_false refl) (has-word _))
literal-text x s o t (of_null is h) = has-equal_tree Literal literal_text is
    (has-as (λ r p. of_null refl) (has-word _))
