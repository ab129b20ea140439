-- Indexes above (2^53)-1 are read as 2^53: for what `read_path` says of large indexes.
use Rattle.std.proofs.Common.{◌≡◌, ℕ, suc, min, nat_lt, Bool, false, ◌||◌}
use Rattle.std.proofs.Common.{List, [], ◌∷◌, map, refl, ap, ◌∙◌, arith}
use Rattle.std.proofs.lemmas.Bool.{or_parts}
use Rattle.std.proofs.lemmas.Bool.Decides.{nat_tests}
use Rattle.std.specs.List.{list_any}
use Rattle.jp_reading.specs.Numbers.{largest_exact}
use Rattle.jp_document.specs.Location.{Step, named, nth, Location}
use Rattle.jp_document.specs.PathFault.{is_large}

-- what is read for a step
abbrev pub capped_step : Step → Step
capped_step (named s) = named s
capped_step (nth i) = nth (min i (suc largest_exact))

pub list_any-map : {A B : Type 0} (p : B → Bool) (f : A → B) (xs : List A)
    → list_any p (map f xs) ≡ list_any (λ x. p (f x)) xs
list_any-map p f [] = refl
list_any-map p f (x ∷ xs) = ap (λ b. p (f x) || b) (list_any-map p f xs)

min-large : (i : ℕ) → nat_lt largest_exact (min i (suc largest_exact)) ≡ nat_lt largest_exact i
min-large i = grind (arith, nat_tests)

is_large-capped : (k : Step) → is_large (capped_step k) ≡ is_large k
is_large-capped (named s) = refl
is_large-capped (nth i) = min-large i

-- what is read has a large index exactly where the path has one
pub any_large-capped : (l : Location) → list_any is_large (map capped_step l) ≡ list_any is_large l
any_large-capped [] = refl
any_large-capped (k ∷ l) =
    ap (λ b. b || list_any is_large (map capped_step l)) (is_large-capped k)
    ∙ ap (λ b. is_large k || b) (any_large-capped l)

min-small : (i : ℕ) → nat_lt largest_exact i ≡ false → min i (suc largest_exact) ≡ i
min-small i h = grind (arith, nat_tests)

small-capped : (k : Step) → is_large k ≡ false → capped_step k ≡ k
small-capped (named s) h = refl
small-capped (nth i) h = ap nth (min-small i h)

-- where it has none the path itself was read
pub all_small-capped : (l : Location) → list_any is_large l ≡ false → map capped_step l ≡ l
all_small-capped [] h = refl
all_small-capped (k ∷ l) h =
    let parts = or_parts (is_large k) (list_any is_large l) h in
    ap (λ j. j ∷ map capped_step l) (small-capped k parts.0)
    ∙ ap (λ m. k ∷ m) (all_small-capped l parts.1)
