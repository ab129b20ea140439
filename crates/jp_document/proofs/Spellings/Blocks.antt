-- Blocks of bytes that stand for themselves.
use Rattle.std.proofs.Common.{◌≡◌, ℕ, ◌+◌, ◌-◌, ◌<◌, ◌≤◌, ◌^◌, ◌%◌, ◌==◌, nat_lt, Bool, true, false, ◌||◌}
use Rattle.std.proofs.Common.{List, [], ◌∷◌, ◌++◌, map, length, get_or, replicate, take, drop, All, refl, sym, subst, ap, ap₂, ◌∙◌}
use Rattle.std.proofs.Common.{◌⊎◌, inl, inr, arith, cond, true≢false, not, suc}
use Rattle.std.proofs.lemmas.Bool.{cases_Bool, cases_lt, eqb-true, not-true}
use Rattle.std.proofs.lemmas.Simd.{leading_from_mask_l, trailing_mask_l, mask_l-mod, zip2-map, zip2_splat}
use Rattle.std.proofs.lemmas.List.Sums.{prefix_len_passes, prefix_len-le-length}
use Rattle.std.proofs.lemmas.List.{take-append-drop, drop-take, take-take, take_all, length-map, get_or-take, get_or-drop, length-take, length-drop, length-append, get_or_append_left, get_or-append-add}
use Rattle.std.proofs.lemmas.List.Elements.{All-append}
use Rattle.std.specs.Bool.{OnTrue}
use Rattle.std.specs.List.{flat_map, prefix_len}
use lib.Bits.{bit_or}
use lib.Count.{count_trailing_zeros}
use lib.Lanes.{zip2, mask_l, top}
use Rattle.jp_document.specs.Spelling.{spelling}

-- ---- the bits of the bytes that are marked

three-tops : (a b c : Bool)
    → top 7 (bit_or (bit_or (cond a 255 0) (cond b 255 0)) (cond c 255 0)) ≡ ((a || b) || c)
three-tops true true true = refl
three-tops true true false = refl
three-tops true false true = refl
three-tops true false false = refl
three-tops false true true = refl
three-tops false true false = refl
three-tops false false true = refl
three-tops false false false = refl

tops : (p q r : ℕ → Bool) (xs : List ℕ)
    → map (top 7) (map (λ x. bit_or (bit_or (cond (p x) 255 0) (cond (q x) 255 0)) (cond (r x) 255 0)) xs)
    ≡ map (λ x. (p x || q x) || r x) xs
tops p q r [] = refl
tops p q r (x ∷ xs) = ap₂ (λ b more. b ∷ more) (three-tops (p x) (q x) (r x)) (tops p q r xs)

either : (f g : ℕ → ℕ) (xs us vs : List ℕ) → us ≡ map f xs → vs ≡ map g xs
    → zip2 bit_or us vs ≡ map (λ x. bit_or (f x) (g x)) xs
either f g xs us vs one two = ap₂ (zip2 bit_or) one two ∙ zip2-map bit_or f g xs

-- three comparisons of all lanes with a byte each, where any of them may hold
pub any-of-three : (t u : ℕ → ℕ → Bool) (xs us vs ws : List ℕ) (n x y z : ℕ) → length xs ≡ n → n ≤ 64
    → us ≡ zip2 (λ a b. cond (t a b) 255 0) xs (replicate n x)
    → vs ≡ zip2 (λ a b. cond (u a b) 255 0) xs (replicate n y)
    → ws ≡ zip2 (λ a b. cond (u a b) 255 0) xs (replicate n z)
    → mask_l (map (top 7) (zip2 bit_or (zip2 bit_or us vs) ws)) % 2 ^ 64
    ≡ mask_l (map (λ a. (t a x || u a y) || u a z) xs)
any-of-three t u xs us vs ws n x y z long few one two three =
    ap (λ l. mask_l (map (top 7) l) % 2 ^ 64)
    (either (λ a. bit_or (cond (t a x) 255 0) (cond (u a y) 255 0)) (λ a. cond (u a z) 255 0) xs _ ws
    (either (λ a. cond (t a x) 255 0) (λ a. cond (u a y) 255 0) xs us vs
    (one ∙ zip2_splat (λ a b. cond (t a b) 255 0) xs n x long)
    (two ∙ zip2_splat (λ a b. cond (u a b) 255 0) xs n y long))
    (three ∙ zip2_splat (λ a b. cond (u a b) 255 0) xs n z long))
    ∙ ap (λ l. mask_l l % 2 ^ 64) (tops (λ a. t a x) (λ a. u a y) (λ a. u a z) xs)
    ∙ mask_l-mod (map (λ a. (t a x || u a y) || u a z) xs) 64
    (omega (arith, length-map xs (λ a. (t a x || u a y) || u a z)))

not_low : (x n : ℕ) → nat_lt x 32 ≡ false → nat_lt n 32 ≡ true → (x == n) ≡ false
not_low x n high low = one (cases_Bool (x == n))
  where
    one : ((x == n) ≡ true) ⊎ ((x == n) ≡ false) → (x == n) ≡ false
    one (inl e) =
        absurd (true≢false (sym low ∙ ap (λ k. nat_lt k 32) (sym (eqb-true x n e)) ∙ high))
    one (inr e) = e

-- what is no control character, no quote and no backslash stands for itself
stands : (quote x : ℕ) → nat_lt x 32 ≡ false → (x == quote) ≡ false → (x == 92) ≡ false
    → spelling quote x ≡ x ∷ []
unfolding spelling
stands quote x high q b =
    rw (
      not_low x 8 high refl,
      not_low x 9 high refl,
      not_low x 10 high refl,
      not_low x 12 high refl,
      not_low x 13 high refl,
      q,
      b,
      high,
    ) refl

none-of-three : (a b c : Bool) → ((a || b) || c) ≡ false
    → (a ≡ false) × (b ≡ false) × (c ≡ false)
none-of-three false false false e = (refl, refl, refl)
none-of-three false false true e = absurd (true≢false e)
none-of-three false true c e = absurd (true≢false e)
none-of-three true b c e = absurd (true≢false e)

-- whether a byte has a spelling of its own: it is marked
abbrev pub marked : ℕ → ℕ → Bool
marked quote x = (nat_lt x 32 || x == quote) || x == 92

-- the bytes before the first that is marked stand for themselves
pub front-stands : (quote n : ℕ) (xs : List ℕ) → n ≡ prefix_len (λ x. not (marked quote x)) xs
    → All (λ x. spelling quote x ≡ x ∷ []) (take n xs)
front-stands quote n xs is = λ k d inside.
    let before : k < n = omega (arith, length-take n xs) in
    let none =
    none-of-three _ _ _
    (not-true _ (prefix_len_passes (λ x. not (marked quote x)) xs k d (omega (arith, is)))) in
    subst (λ x. spelling quote x ≡ x ∷ []) (sym (get_or-take n xs k d before))
    (stands quote (get_or xs k d) none.0 none.1 none.2)

-- where no bit is set, none is marked
pub all-stand : (quote r : ℕ) (xs : List ℕ) → r ≡ mask_l (map (marked quote) xs) → r ≡ 0
    → All (λ x. spelling quote x ≡ x ∷ []) xs
all-stand quote r xs is none =
    subst (All (λ x. spelling quote x ≡ x ∷ [])) (take_all (length xs) xs (omega arith))
    (front-stands quote (length xs) xs (sym (leading_from_mask_l (marked quote) xs (sym is ∙ none))))

-- the lowest bit is that of the first that is marked
pub first-marked : (quote r : ℕ) (xs : List ℕ) → length xs ≤ 64
    → r ≡ mask_l (map (marked quote) xs) → 0 < r
    → count_trailing_zeros 64 r ≡ prefix_len (λ x. not (marked quote x)) xs
first-marked quote r xs few is some =
    ap (count_trailing_zeros 64) is
    ∙ trailing_mask_l (marked quote) 64 xs few (omega (arith, is, some))

pub first-marked-within : (quote r : ℕ) (xs : List ℕ) → length xs ≤ 64
    → r ≡ mask_l (map (marked quote) xs) → 0 < r → count_trailing_zeros 64 r ≤ length xs
first-marked-within quote r xs few is some =
    omega (
      arith,
      first-marked quote r xs few is some,
      prefix_len-le-length (λ x. not (marked quote x)) xs,
    )

-- a text whose bytes stand for themselves does so as a whole
pub whole-stands : (f : ℕ → List ℕ) (xs : List ℕ) → All (λ x. f x ≡ x ∷ []) xs → flat_map f xs ≡ xs
whole-stands f [] all = refl
whole-stands f (x ∷ xs) all =
    ap₂ (λ ys zs. ys ++ zs) (all 0 0 (omega arith))
    (whole-stands f xs (λ k d inside. all (suc k) d (omega arith)))

take_on : (i n : ℕ) (xs : List ℕ) → take (i + n) xs ≡ take i xs ++ take n (drop i xs)
take_on i n xs =
    sym (take-append-drop i (take (i + n) xs))
    ∙ ap₂ (λ ys zs. ys ++ zs) (take-take i (i + n) xs (omega arith)) (drop-take i n xs)

-- what holds of the first bytes, and of the next, holds of all of them
holds-on : (P : ℕ → Type 0) (i n : ℕ) (xs : List ℕ) → All P (take i xs)
    → All P (take n (drop i xs)) → All P (take (i + n) xs)
holds-on P i n xs front next =
    subst (All P) (sym (take_on i n xs)) (All-append P (take i xs) (take n (drop i xs)) front next)

-- and also where the next are the first of a block
pub holds-further : (P : ℕ → Type 0) (i n m : ℕ) (xs : List ℕ) → n ≤ m → All P (take i xs)
    → All P (take n (take m (drop i xs))) → All P (take (i + n) xs)
holds-further P i n m xs within front next =
    holds-on P i n xs front (subst (All P) (take-take n m (drop i xs) within) next)

-- what holds of the first bytes and of the last ones, where these meet or overlap, holds of all
pub holds-throughout : (P : ℕ → Type 0) (i m n : ℕ) (xs : List ℕ) → m ≤ i → m + n ≡ length xs
    → All P (take i xs) → All P (take n (drop m xs)) → All P xs
holds-throughout P i m n xs meet whole front back = λ k d inside. at k d inside (cases_lt k i)
  where
    at : (k d : ℕ) → k < length xs → (k < i) ⊎ (i ≤ k) → P (get_or xs k d)
    at k d inside (inl early) =
        subst P (get_or-take i xs k d early) (front k d (omega (arith, length-take i xs)))
    at k d inside (inr late) =
        subst P
        (get_or-take n (drop m xs) (k - m) d (omega arith) ∙ get_or-drop m xs (k - m) d
        ∙ ap (λ j. get_or xs j d) (omega arith))
        (back (k - m) d (omega (arith, length-take n (drop m xs), length-drop m xs)))

-- a test of the last bytes, behind first ones that stand for themselves
pub end-stands : (quote i m n : ℕ) (xs : List ℕ) (b : Bool) → m ≤ i → m + n ≡ length xs
    → All (λ x. spelling quote x ≡ x ∷ []) (take i xs)
    → OnTrue b (All (λ x. spelling quote x ≡ x ∷ []) (take n (drop m xs)))
    → OnTrue b (flat_map (spelling quote) xs ≡ xs)
end-stands quote i m n xs true meet whole front back =
    whole-stands (spelling quote) xs
    (holds-throughout (λ x. spelling quote x ≡ x ∷ []) i m n xs meet whole front back)
end-stands quote i m n xs false meet whole front back = tt

holds-first : (P : ℕ → Type 0) (xs ys : List ℕ) → All P (xs ++ ys) → All P xs
holds-first P xs ys all = λ k d inside.
    subst P (get_or_append_left xs ys d k inside) (all k d (omega (arith, length-append xs ys)))

holds-last : (P : ℕ → Type 0) (xs ys : List ℕ) → All P (xs ++ ys) → All P ys
holds-last P xs ys all = λ k d inside.
    subst P (get_or-append-add xs ys k d)
    (all (length xs + k) d (omega (arith, length-append xs ys)))

-- one test of the first bytes and of the last ones
pub ends-stand : (quote m n : ℕ) (xs : List ℕ) (b : Bool) → m ≤ n → m + n ≡ length xs
    → OnTrue b (All (λ x. spelling quote x ≡ x ∷ []) (take n xs ++ take n (drop m xs)))
    → OnTrue b (flat_map (spelling quote) xs ≡ xs)
ends-stand quote m n xs true meet whole ends =
    end-stands quote n m n xs true meet whole
    (holds-first (λ x. spelling quote x ≡ x ∷ []) (take n xs) (take n (drop m xs)) ends)
    (holds-last (λ x. spelling quote x ≡ x ∷ []) (take n xs) (take n (drop m xs)) ends)
ends-stand quote m n xs false meet whole ends = tt
