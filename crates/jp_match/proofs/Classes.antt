-- Classes of one range or two.
use Rattle.std.proofs.Common.{◌≡◌, ℕ, Bool, true, false, not, ◌&&◌, ◌||◌, nat_le, List, [], ◌∷◌}
use Rattle.std.proofs.Common.{refl}
use Rattle.std.proofs.Common.{ap, ◌∙◌, ◌≤◌, ◌<◌, length, get_or, arith}
use Rattle.jp_iregexp.specs.declared.class.ClassElement.{ClassElement}
use Rattle.jp_iregexp.specs.declared.class.ClassElement.TheVariants.{Range}
use Rattle.jp_iregexp.specs.Class.{class_holds, element_holds, negated_if}
use mathlib.Core.Bool.{beq}

negates : (r negated : Bool) → not (beq r negated) ≡ negated_if negated (r || false)
negates true true = refl
negates true false = refl
negates false true = refl
negates false false = refl

pub one_range : (negated : Bool) (items : List ClassElement) (first last c : ℕ) (r : Bool)
    → items ≡ Range first last ∷ [] → r ≡ (nat_le first c && nat_le c last)
    → not (beq r negated) ≡ class_holds negated items c
unfolding class_holds element_holds
one_range negated items first last c r is holds = rw is (negates r negated ∙ ap (λ b. negated_if
    negated (b || false)) holds)

negates_pair : (a b negated : Bool)
    → not (beq (a || b) negated) ≡ negated_if negated (a || (b || false))
negates_pair true b true = refl
negates_pair true b false = refl
negates_pair false true true = refl
negates_pair false true false = refl
negates_pair false false true = refl
negates_pair false false false = refl

pub two_ranges : (negated : Bool) (items : List ClassElement) (first last from to c : ℕ)
    → items ≡ Range first last ∷ Range from to ∷ []
    → not (beq ((nat_le first c && nat_le c last) || (nat_le from c && nat_le c to)) negated)
    ≡ class_holds negated items c
unfolding class_holds element_holds
two_ranges negated items first last from to c is = rw is (negates_pair (nat_le first c && nat_le c
    last) (nat_le from c && nat_le c to) negated)

pub only_pair : (xs : List ClassElement) (d x y : ClassElement) → 2 ≤ length xs → length xs < 3
    → get_or xs 0 d ≡ x → get_or xs 1 d ≡ y → xs ≡ x ∷ y ∷ []
only_pair [] d x y some few is other = absurd (omega arith)
only_pair (z ∷ []) d x y some few is other = absurd (omega arith)
only_pair (a ∷ b ∷ []) d x y some few is other = cc
only_pair (a ∷ b ∷ z ∷ xs) d x y some few is other = absurd (omega arith)

pub only_range : (xs : List ClassElement) (d x : ClassElement) → 1 ≤ length xs → length xs < 2
    → get_or xs 0 d ≡ x → xs ≡ x ∷ []
only_range [] d x some few is = absurd (omega arith)
only_range (y ∷ []) d x some few is = ap (λ z. z ∷ []) is
only_range (y ∷ z ∷ xs) d x some few is = absurd (omega arith)
