-- Cells that stand in a row, and one more.
use Rattle.std.proofs.Common.{◌≡◌, ℕ, ◌+◌, ◌<◌, ◌≤◌, ◌==◌, List, [], ◌∷◌, ◌++◌, length, take, get_or, map}
use Rattle.std.proofs.Common.{ap, sym, ◌∙◌, refl, append_assoc, arith, if◌then◌else◌, suc}
use Rattle.std.proofs.Math.Dec.{eqb-suc-zero}
use Rattle.std.proofs.Math.Numerals.{add-one}
use Rattle.std.proofs.Math.Seq.{take-suc}
use Rattle.std.proofs.lemmas.Grind.{flat_map-append}
use Rattle.std.proofs.lemmas.List.{append-nil, length-append, length-map, length-take-le, map-append, take-map, take_all}
use Rattle.std.specs.List.{flat_map, join_with_byte}
use mathlib.Core.List.{map-map}

-- what stands before a cell: a byte, but nothing before the first
abbrev pub before_cell : ℕ → ℕ → List ℕ
before_cell c n = if n == 0 then [] else c ∷ []

-- a byte where there are cells before
before_later : (c : ℕ) (y : List ℕ) (ys : List (List ℕ)) → before_cell c (length (y ∷ ys)) ≡ c ∷ []
before_later c y ys = ap (λ b. if b then [] else c ∷ []) (eqb-suc-zero (length ys))

-- one cell more, behind those that are there
pub join-more : (c : ℕ) (xs : List (List ℕ)) (x : List ℕ) → join_with_byte c (xs ++ x ∷ [])
    ≡ (join_with_byte c xs ++ before_cell c (length xs)) ++ x
join-more c [] x = refl
join-more c (y ∷ []) x = sym (append_assoc y (c ∷ []) x)
join-more c (y ∷ z ∷ ys) x =
    let joined = join_with_byte c (z ∷ ys) in
    ap (λ zs. y ++ (c ∷ zs))
    (join-more c (z ∷ ys) x ∙ ap (λ b. (joined ++ b) ++ x) (before_later c z ys))
    ∙ sym (append_assoc y ((c ∷ joined) ++ c ∷ []) x)
    ∙ ap (λ zs. zs ++ x) (sym (append_assoc y (c ∷ joined) (c ∷ [])))
    ∙ ap (λ b. ((y ++ c ∷ joined) ++ b) ++ x) (sym (before_later c y (z ∷ ys)))

-- one more element
pub one-more : {X Y : Type 0} (v : X → Y) (xs : List X) (n : ℕ) (d : X) → n < length xs
    → take (n + 1) (map v xs) ≡ take n (map v xs) ++ v (get_or xs n d) ∷ []
one-more v xs n d within =
    ap (λ k. take k (map v xs)) (add-one n) ∙ take-map v (suc n) xs
    ∙ ap (map v) (take-suc xs n d within) ∙ map-append v (take n xs) (get_or xs n d ∷ [])
    ∙ ap (λ ys. ys ++ v (get_or xs n d) ∷ []) (sym (take-map v n xs))

-- its text
taken : {X Y : Type 0} (f : Y → List ℕ) (v : X → Y) (xs : List X) (n : ℕ) (d : X) → n < length xs
    → map f (take (n + 1) (map v xs)) ≡ map f (take n (map v xs)) ++ f (v (get_or xs n d)) ∷ []
taken f v xs n d within =
    ap (map f) (one-more v xs n d within)
    ∙ map-append f (take n (map v xs)) (v (get_or xs n d) ∷ [])

-- how many it has, and those before it
pub more-counted : {X Y Z : Type 0} (f : Y → List Z) (v : X → Y) (xs : List X) (n : ℕ) (d : X)
    → n < length xs
    → length (flat_map f (take (n + 1) (map v xs)))
    ≡ length (flat_map f (take n (map v xs))) + length (f (v (get_or xs n d)))
more-counted f v xs n d within =
    let before = flat_map f (take n (map v xs)) in
    let x = v (get_or xs n d) in
    ap (λ ys. length (flat_map f ys)) (one-more v xs n d within)
    ∙ ap length (flat_map-append f (take n (map v xs)) (x ∷ []) ∙ ap (λ zs. before ++ zs) (append-nil (f x)))
    ∙ length-append before (f x)

taken-length : {X Y : Type 0} (f : Y → List ℕ) (v : X → Y) (xs : List X) (n : ℕ) → n ≤ length xs
    → length (map f (take n (map v xs))) ≡ n
taken-length f v xs n within =
    simp (length-map, length-take-le n (map v xs) (simp length-map within))

-- a row that goes on to its next cell
pub goes-on : {X Y : Type 0} (c : ℕ) (f : Y → List ℕ) (v : X → Y) (xs : List X) (n : ℕ) (d : X)
    (before now between after : List ℕ) → n < length xs
    → now ≡ before ++ join_with_byte c (map f (take n (map v xs)))
    → between ≡ now ++ before_cell c n → after ≡ between ++ f (v (get_or xs n d))
    → after ≡ before ++ join_with_byte c (map f (take (n + 1) (map v xs)))
goes-on c f v xs n d before now between after within stands parted wrote =
    let cells = map f (take n (map v xs)) in
    let x = f (v (get_or xs n d)) in
    let many : length cells ≡ n = taken-length f v xs n (omega arith) in
    wrote ∙ ap (λ ys. ys ++ x) (parted ∙ ap (λ ys. ys ++ before_cell c n) stands)
    ∙ ap (λ ys. ys ++ x) (append_assoc before (join_with_byte c cells) (before_cell c n))
    ∙ append_assoc before (join_with_byte c cells ++ before_cell c n) x
    ∙ ap (λ k. before ++ ((join_with_byte c cells ++ before_cell c k) ++ x)) (sym many)
    ∙ ap (λ ys. before ++ ys) (sym (join-more c cells x))
    ∙ ap (λ ys. before ++ join_with_byte c ys) (sym (taken f v xs n d within))

-- the texts of all elements
pub all-taken : {X Y Z : Type 0} (f : Z → List ℕ) (g : Y → Z) (v : X → Y) (xs : List X) (n : ℕ)
    → length xs ≤ n → map (λ y. f (g y)) (take n (map v xs)) ≡ map f (map g (map v xs))
all-taken f g v xs n whole =
    ap (map (λ y. f (g y))) (take_all n (map v xs) (simp length-map whole)) ∙ sym (map-map f g (map v xs))
