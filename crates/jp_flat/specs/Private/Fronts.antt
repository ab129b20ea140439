-- The first bytes of a name as one number.
use Rattle.std.specs.Prelude.{◌+◌, ◌*◌, ◌^◌, ℕ, zero, suc, List, [], ◌∷◌}

-- the first n bytes as a number of base 256, the first of them the highest, with zeros behind
abbrev pub front_of : ℕ → List ℕ → ℕ
front_of zero xs = 0
front_of (suc n) [] = 0
front_of (suc n) (x ∷ xs) = 256 ^ n * x + front_of n xs
