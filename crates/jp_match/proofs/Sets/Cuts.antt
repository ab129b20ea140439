-- Cuts of a text, and the offsets of a set.
use Rattle.std.proofs.Common.{◌≡◌, ℕ, zero, suc, ◌<◌, ◌≤◌, Bool, List, [], ◌∷◌, ◌++◌, length, take}
use Rattle.std.proofs.Common.{drop, refl, sym, arith}
use Rattle.std.proofs.lemmas.List.{length-take, take-append-drop}
use Rattle.jp_match.specs.Private.Offset.{Marked}

-- two ways to cut a text at one length give the same parts
pub cut_apart : (xs ys xs' ys' : List ℕ) → xs ++ ys ≡ xs' ++ ys' → length xs ≡ length xs'
    → (xs ≡ xs') × (ys ≡ ys')
cut_apart [] ys [] ys' e h = (refl, e)
cut_apart [] ys (x ∷ xs') ys' e h = absurd (omega arith)
cut_apart (x ∷ xs) ys [] ys' e h = absurd (omega arith)
cut_apart (x ∷ xs) ys (x' ∷ xs') ys' e h =
    let tails : xs ++ ys ≡ xs' ++ ys' = cc in
    let long : length xs ≡ length xs' = omega arith in
    let rest = cut_apart xs ys xs' ys' tails long in
    let here : x ≡ x' = cc in
    (cc, rest.1)

-- a marked offset lies within the set
pub marked_below : (offsets : List Bool) (offset : ℕ) → Marked offsets offset → offset < length offsets
marked_below [] offset h = absurd (cc)
marked_below (b ∷ offsets) zero h = omega arith
marked_below (b ∷ offsets) (suc offset) h = let below = marked_below offsets offset h in omega arith

-- a text cut at an offset
pub record Cut (text : List ℕ) (offset : ℕ) : Type 0 where
  pub before : List ℕ
  pub after : List ℕ
  pub is : text ≡ before ++ after
  pub ends : length before ≡ offset

pub cut_at : (text : List ℕ) (offset : ℕ) → offset ≤ length text → Cut text offset
cut_at text offset h = record {
  before = take offset text;
  after = drop offset text;
  is = sym (take-append-drop offset text);
  ends = omega (arith, length-take offset text);
}
