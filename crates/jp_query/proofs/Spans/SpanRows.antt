-- What the definitions of spans refuse: the bounds of `$[0:9]` the other way around, and a bound
-- without a span.
use Rattle.std.proofs.Common.{◌≡◌, ◌+◌, ℕ, pos, true, [], ◌∷◌, ◌++◌, Some, None, arith, sym, ap}
use Rattle.std.proofs.Common.{◌∙◌, subst}
use Rattle.std.proofs.lemmas.Bool.{false≢true}
use Rattle.std.proofs.lemmas.Str.{len_utf8_bounds}
use Rattle.std.specs.Prelude.{codes}
use Rattle.jp_reading.specs.Characters as char
use Rattle.jp_tree.specs.declared.tree.Numeral.TheVariants.{Whole}
use Rattle.jp_reading.specs.Texts.{Text, Spans, bytes}
use Rattle.jp_query.specs.Ints.{Int, zero_int, positive_int, negative_int}
use Rattle.jp_reading.specs.Numbers.{is_leading_digit}
use Rattle.jp_query.specs.Components.{QueryComponent, as_bound, as_step, int}
use Rattle.jp_query.specs.ComponentSpans.{AreSpansOf}
use Rattle.jp_reading.specs.Characters.{digit_zero}

-- of 0, 9, and the omitted step
spans : Spans
spans = Some (record { start = 2; end = 3 }) ∷ Some (record { start = 4; end = 5 }) ∷ None ∷ []

zero_component : QueryComponent
zero_component = int (Whole (pos 0)) as_bound

nine_component : QueryComponent
nine_component = int (Whole (pos 9)) as_bound

step_component : QueryComponent
step_component = int (Whole (pos 1)) as_step

-- no text that begins with 0 spells 9
not-nine : (o : ℕ) (t : Text) → Int (Whole (pos 9)) [] o (char.digit_zero ∷ t) → ⊥
not-nine o t (zero_int e h) = absurd cc
not-nine o t (positive_int c more e h) =
    let begins : char.digit_zero ∷ t ≡ c ∷ h.second = h.is ∙ ap (λ u. u ++ h.second) h.one.is in
    let same : char.digit_zero ≡ c = cc in
    let leads : is_leading_digit digit_zero ≡ true =
    subst (λ d. is_leading_digit d ≡ true) (sym same) h.one.passes in
    absurd (false≢true leads)
not-nine o t (negative_int c more e h) =
    let begins : char.digit_zero ∷ t ≡ char.minus ∷ h.second = h.is
    ∙ ap (λ u. u ++ h.second) h.one.is in
    let same : ◌≡◌ {A = ℕ} char.digit_zero char.minus = cc in
    absurd (omega (arith, same))

-- after two bytes of `$[0:9]` no text spells 9
after-two : (before own after : Text) → codes "$[0:9]" ≡ before ++ own ++ after → 2 ≡ bytes before
    → 3 ≡ 2 + bytes own → Int (Whole (pos 9)) [] 2 own → ⊥
after-two [] own after e two three h = absurd (omega (arith, two))
after-two (a ∷ []) own after e two three h =
    let same : char.dollar ≡ a = cc in
    let one : ◌≡◌ {A = ℕ} 2 1 = subst (λ d. 2 ≡ bytes (d ∷ [])) (sym same) two in
    absurd (omega (arith, one))
after-two (a ∷ b ∷ []) [] after e two three h = absurd (omega (arith, three))
after-two (a ∷ b ∷ []) (c ∷ own) after e two three h =
    let same : char.digit_zero ≡ c = cc in
    not-nine 2 own (subst (λ d. Int (Whole (pos 9)) [] 2 (d ∷ own)) (sym same) h)
after-two (a ∷ b ∷ c ∷ before) own after e two three h =
    let first = (len_utf8_bounds a).0 in
    let second = (len_utf8_bounds b).0 in
    let third = (len_utf8_bounds c).0 in
    absurd (omega (arith, two, first, second, third))

-- the spans are not those of the components with the bounds the other way around
row-swapped : AreSpansOf (codes "$[0:9]") (nine_component ∷ zero_component ∷ step_component ∷ []) spans → ⊥
unfolding spans nine_component
row-swapped h =
    let it = h.each.0 in
    after-two it.before it.own it.after it.parts it.start it.end it.spells

-- without a span is no bound, though it be 1
row-bound : AreSpansOf (codes "$[1:]") (int (Whole (pos 1)) as_bound ∷ step_component ∷ [])
    (None ∷ None ∷ []) → ⊥
row-bound h = let same = h.each.0 in cc
