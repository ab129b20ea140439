-- The bounds of slices where they are omitted.
use Rattle.std.proofs.Common.{◌≡◌, ℕ, zero, suc, pos, negsuc, ◌+ℤ◌}
use Rattle.std.proofs.Common.{None, refl, sym, ap, ◌∙◌, arith}
use Rattle.std.proofs.lemmas.Int.{ints, clamps}
use Rattle.jp_select.specs.Slice.{held_within, normalized, rising_lower, rising_upper}
use Rattle.jp_select.specs.Slice.{falling_lower, falling_upper}
use Rattle.jp_select.proofs.Slices.Indexes.{one_less}

pub rising_lower_omitted : (n : ℕ) → pos 0 ≡ rising_lower n None
rising_lower_omitted n = omega (arith, ints, clamps)

pub rising_upper_omitted : (n : ℕ) → pos n ≡ rising_upper n None
rising_upper_omitted n = omega (arith, ints, clamps)

pub falling_upper_omitted : (n : ℕ) → pos n ≡ falling_upper n None +ℤ pos 1
falling_upper_omitted zero = refl
falling_upper_omitted (suc k) =
    let held : pos (suc k) ≡ held_within (negsuc 0) (pos k) (pos k) +ℤ pos 1 =
    omega (arith, ints, clamps) in
    held
    ∙ ap (λ z. held_within (negsuc 0) z (normalized (suc k) z) +ℤ pos 1) (sym (one_less k))

pub falling_lower_omitted : (n : ℕ) → pos 0 ≡ falling_lower n None +ℤ pos 1
falling_lower_omitted n = omega (arith, ints, clamps)
