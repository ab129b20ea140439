-- What outcomes count, and which of their refusals are told, one after the other.
use Rattle.std.proofs.Common.{◌≡◌, ◌≢◌, ◌⊎◌, inl, inr, ℕ, zero, suc, ◌+◌, ◌-◌, Bool, true, false, List, [], ◌∷◌}
use Rattle.std.proofs.Common.{◌++◌, length, Option, Some, None, ap, refl, sym, ◌∙◌, arith}
use Rattle.std.specs.List.{flat_map}
use Rattle.std.proofs.lemmas.Grind.{flat_map-append}
use Rattle.jp_lines.specs.Outcome.{Answered, Blank, LineOutcome, Refused, first_of_them, left_after, plus}
use Rattle.jp_lines.specs.Outcome.{refusal_in, refusals, tally_in, tally_of, told_of, told_of_all}
use Rattle.jp_lines.specs.declared.defect.RefusedLine.{RefusedLine}
use Rattle.jp_lines.specs.declared.tally.Tally.{Tally}
use Rattle.jp_lines.proofs.Kept.{take-append}

pub same-tally : (a b : Tally) → a.documents ≡ b.documents → a.refused ≡ b.refused
    → a.selected ≡ b.selected → a ≡ b
same-tally a b documents refused selected =
    ap (λ n. record a { documents = n }) documents
    ∙ ap (λ n. record b { refused = n; selected = a.selected }) refused
    ∙ ap (λ n. record b { selected = n }) selected

pub plus-none : (a : Tally) → plus a (tally_of []) ≡ a
plus-none a = same-tally _ _ (omega arith) (omega arith) (omega arith)

pub none-plus : (a : Tally) → plus (tally_of []) a ≡ a
none-plus a = same-tally _ _ (omega arith) (omega arith) (omega arith)

pub plus-more : (a b c : Tally) → plus (plus a b) c ≡ plus a (plus b c)
plus-more a b c = same-tally _ _ (omega arith) (omega arith) (omega arith)

pub tally-one : (x : LineOutcome) → tally_of (x ∷ []) ≡ tally_in x
tally-one x = plus-none (tally_in x)

pub tally-append : (xs ys : List LineOutcome)
    → tally_of (xs ++ ys) ≡ plus (tally_of xs) (tally_of ys)
tally-append [] ys = sym (none-plus (tally_of ys))
tally-append (x ∷ xs) ys =
    ap (plus (tally_in x)) (tally-append xs ys)
    ∙ sym (plus-more (tally_in x) (tally_of xs) (tally_of ys))

-- each refusal is counted
pub refused-counted : (xs : List LineOutcome) → (tally_of xs).refused ≡ length (refusals xs)
refused-counted [] = refl
refused-counted (Blank ∷ xs) = let rest = refused-counted xs in omega arith
refused-counted (Answered count output ∷ xs) = let rest = refused-counted xs in omega arith
refused-counted (Refused r ∷ xs) = let rest = refused-counted xs in omega arith

-- ---- how many may be told still

pub left-all : (most : Option ℕ) → left_after 0 most ≡ most
left-all None = refl
left-all (Some most) = let same : most - 0 ≡ most = omega arith in ap Some same

pub left-after : (a b : ℕ) (most : Option ℕ) → left_after b (left_after a most) ≡ left_after (a + b) most
left-after a b None = refl
left-after a b (Some most) = let same : (most - a) - b ≡ most - (a + b) = omega arith in ap Some same

first-append : (most : Option ℕ) (rs ss : List RefusedLine)
    → first_of_them most (rs ++ ss)
    ≡ first_of_them most rs ++ first_of_them (left_after (length rs) most) ss
first-append None rs ss = refl
first-append (Some most) rs ss = take-append most rs ss

pub told-append : (lead : List ℕ) (most : Option ℕ) (xs ys : List LineOutcome)
    → told_of_all lead most (xs ++ ys)
    ≡ told_of_all lead most xs ++ told_of_all lead (left_after (length (refusals xs)) most) ys
told-append lead most xs ys =
    ap (λ rs. flat_map (told_of lead) (first_of_them most rs)) (flat_map-append refusal_in xs ys)
    ∙ ap (flat_map (told_of lead)) (first-append most (refusals xs) (refusals ys))
    ∙ flat_map-append (told_of lead) (first_of_them most (refusals xs))
    (first_of_them (left_after (length (refusals xs)) most) (refusals ys))

pub told-none : (lead : List ℕ) (most : Option ℕ) → told_of_all lead most [] ≡ []
told-none lead None = refl
told-none lead (Some zero) = refl
told-none lead (Some (suc most)) = refl

-- ---- whether there are refusals

pub both-none : {A : Type 0} (xs ys : List A) → xs ++ ys ≡ [] → (xs ≡ []) × (ys ≡ [])
both-none [] ys is = (refl, is)
both-none (x ∷ xs) ys is = cc

-- there are none among some and others
pub none-refused : (xs ys : List LineOutcome) → refusals (xs ++ ys) ≡ []
    → (refusals xs ≡ []) × (refusals ys ≡ [])
none-refused xs ys is = both-none (refusals xs) (refusals ys) (sym (flat_map-append refusal_in xs ys) ∙ is)

pub all-unrefused : (xs ys : List LineOutcome) → refusals xs ≡ [] → refusals ys ≡ []
    → refusals (xs ++ ys) ≡ []
all-unrefused xs ys first second =
    flat_map-append refusal_in xs ys ∙ ap (λ rs. rs ++ refusals ys) first ∙ second

either-some : {A : Type 0} (xs ys : List A) → (xs ++ ys) ≢ [] → (xs ≢ []) ⊎ (ys ≢ [])
either-some [] ys is = inr is
either-some (x ∷ xs) ys is = inl (λ none. cc)

-- there is one among these or those
pub some-refused : (xs ys : List LineOutcome) → refusals (xs ++ ys) ≢ []
    → (refusals xs ≢ []) ⊎ (refusals ys ≢ [])
some-refused xs ys is =
    either-some (refusals xs) (refusals ys) (λ none. is (flat_map-append refusal_in xs ys ∙ none))

-- where a refusal would make a test true that is false there is none
pub none_where : {A : Type 0} (xs : List A) (b : Bool) → (xs ≢ [] → b ≡ true) → b ≡ false → xs ≡ []
none_where [] b then is = refl
none_where (x ∷ xs) b then is = let holds = then (λ none. cc) in cc

-- a tally that counts no refusal is of outcomes without one
pub none-counted : (xs : List LineOutcome) → (tally_of xs).refused ≡ 0 → refusals xs ≡ []
none-counted xs is = go (refusals xs) (sym (refused-counted xs) ∙ is)
  where
    go : (rs : List RefusedLine) → length rs ≡ 0 → rs ≡ []
    go [] none = refl
    go (r ∷ rs) none = absurd (omega arith)
