-- The first bytes of a name as one number: for `front_by_bytes`.
use Rattle.std.proofs.Common.{◌≡◌, ◌+◌, ◌*◌, ◌^◌, ℕ, zero, suc, List, [], ◌∷◌, refl, arith, drop, get_or}
use Rattle.jp_flat.specs.Private.Fronts.{front_of}

front_nil : (n : ℕ) → front_of n [] ≡ 0
front_nil zero = refl
front_nil (suc n) = refl

front_none : (n : ℕ) → 0 ≡ 256 ^ n * 0 + front_of n []
front_none n = let f = front_nil n in omega (arith, f)

pub front_by : (n k : ℕ) (xs : List ℕ)
    → front_of (suc n) (drop k xs) ≡ 256 ^ n * get_or xs k 0 + front_of n (drop (suc k) xs)
front_by n zero [] = front_none n
front_by n (suc k) [] = front_none n
front_by n zero (x ∷ xs) = refl
front_by n (suc k) (x ∷ xs) = front_by n k xs
