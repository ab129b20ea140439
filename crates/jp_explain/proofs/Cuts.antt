-- Where a text is cut.
use Rattle.std.proofs.Common.{◌≡◌, ℕ, ◌+◌, ◌-◌, suc, false, true, [], ◌∷◌, ◌++◌, length}
use Rattle.std.proofs.Common.{nat_le, nat_lt, refl, ap, arith, inl, inr}
use Rattle.std.proofs.lemmas.Bool.{cases_Bool}
use Rattle.std.specs.Char.{len_utf8}
use Rattle.jp_reading.specs.Texts.{Text, bytes}
use Rattle.jp_explain.specs.Place.{characters_before}

-- a character takes a byte at least
takes-some : (c : ℕ) → nat_le (len_utf8 c) 0 ≡ false
takes-some c =
    elim (cases_Bool (nat_lt c 128)) [
      | inl small ↦ rw small refl
      | inr not_small ↦
          elim (cases_Bool (nat_lt c 2048)) [
            | inl middle ↦ rw (not_small, middle) refl
            | inr not_middle ↦
                elim (cases_Bool (nat_lt c 65536)) [
                  | inl large ↦ rw (not_small, not_middle, large) refl
                  | inr not_large ↦ rw (not_small, not_middle, not_large) refl
                ]
          ]
    ]

-- as many bytes as the first characters take, they end at or before them, and no more do
pub characters_before-bytes : (front rest : Text)
    → characters_before (bytes front) (front ++ rest) ≡ length front
characters_before-bytes [] [] = refl
characters_before-bytes [] (c ∷ rest) = rw (takes-some c) refl
characters_before-bytes (c ∷ front) rest =
    let whole = characters_before-bytes front rest in
    let fits : nat_le (len_utf8 c) (len_utf8 c + bytes front) ≡ true = grind arith in
    let less : len_utf8 c + bytes front - len_utf8 c ≡ bytes front = omega arith in
    rw (fits, less) (ap suc whole)
