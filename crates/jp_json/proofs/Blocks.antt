-- Blocks of bytes: which of them stop a run of plain ones, by the mask of a block.
use Rattle.std.proofs.Common.{◌≡◌, ℕ, zero, suc, ◌+◌, ◌*◌, ◌%◌, ◌^◌, ◌<◌, ◌≤◌, Bool, true, false}
use Rattle.std.proofs.Common.{not, ◌&&◌, T, cond, eqb, ltb, leb, List, [], ◌∷◌, map, length, drop, replicate}
use Rattle.std.proofs.Common.{refl, sym, ap, ap₂, ◌∙◌, subst, ◌⊎◌, inl, inr, arith, w8, Fits}
use Rattle.std.proofs.Common.{not-suc-le-zero}
use Rattle.std.proofs.lemmas.Simd.{chunk-drop, length-chunk, leading_from_mask_l, trailing_mask_l}
use Rattle.std.proofs.lemmas.Simd.{zip2_splat, mask_l-mod}
use Rattle.std.proofs.lemmas.List.{length-drop, length-map}
use Rattle.std.proofs.lemmas.List.Folds.{prefix_len-append}
use Rattle.std.proofs.lemmas.List.Sums.{prefix_len-le-length}
use Rattle.std.proofs.lemmas.Bool.{cases_order, eq-eqb, ne_eqb}
use Rattle.std.specs.List.{prefix_len}
use lib.Bits.{bit_or}
use lib.Count.{count_trailing_zeros}
use lib.Lanes.{Each1, chunk, mask_l, top, zip2}
use Rattle.json.specs.Run.{is_stop}
use Rattle.jp_json.specs.Private.Fronts.{is_line_stop, is_plain}

-- ---- the mask of a block, by what is tested of each of the 256 bytes

abbrev upto : (ℕ → Bool) → ℕ → Bool
upto p zero = true
upto p (suc n) = p n && upto p n

both : (a b : Bool) → T (a && b) → T a × T b
both true b h = (tt, h)
both false b h = absurd h

upto-sound : (p : ℕ → Bool) (n : ℕ) → T (upto p n) → (i : ℕ) → i < n → T (p i)
upto-sound p zero h i lt = absurd (not-suc-le-zero lt)
upto-sound p (suc n) h i lt =
    go (upto-sound p n (both (p n) (upto p n) h).1 i) (cases_order i n)
  where
    go : (i < n → T (p i)) → (i ≡ n) ⊎ ((i < n) ⊎ (n < i)) → T (p i)
    go below (inl e) = subst (λ x. T (p x)) (sym e) (both (p n) (upto p n) h).0
    go below (inr (inl l)) = below l
    go below (inr (inr g)) = let no : ⊥ = omega arith in absurd no

abbrev same : Bool → Bool → Bool
same true b = b
same false b = not b

same-is : (a b : Bool) → T (same a b) → a ≡ b
same-is true true h = refl
same-is false false h = refl
same-is true false h = absurd h
same-is false true h = absurd h

abbrev pub hit : ℕ → ℕ → ℕ
hit a b = cond (eqb a b) 255 0

abbrev pub below : ℕ → ℕ → ℕ
below a b = cond (ltb a b) 255 0

abbrev pub at_most : ℕ → ℕ → ℕ
at_most a b = cond (leb a b) 255 0

zip2-map : (f g : ℕ → ℕ) (xs : List ℕ)
    → zip2 bit_or (map f xs) (map g xs) ≡ map (λ x. bit_or (f x) (g x)) xs
zip2-map f g [] = refl
zip2-map f g (x ∷ xs) = ap (λ r. bit_or (f x) (g x) ∷ r) (zip2-map f g xs)

either : (f g : ℕ → ℕ) (v : List ℕ) {a b : List ℕ} → a ≡ map f v → b ≡ map g v
    → zip2 bit_or a b ≡ map (λ x. bit_or (f x) (g x)) v
either f g v p q = ap₂ (zip2 bit_or) p q ∙ zip2-map f g v

each-byte : (f : ℕ → ℕ) (p : ℕ → Bool) → T (upto (λ x. same (top 7 (f x)) (p x)) 256)
    → (v : List ℕ) → Each1 (Fits w8) v → map (top 7) (map f v) ≡ map p v
each-byte f p all [] fits = refl
each-byte f p all (x ∷ xs) fits =
    ap₂ (λ a b. a ∷ b)
    (same-is _ _ (upto-sound (λ y. same (top 7 (f y)) (p y)) 256 all x fits.0.fits))
    (each-byte f p all xs fits.1)

masked : (f : ℕ → ℕ) (p : ℕ → Bool) (v z : List ℕ) → length v ≤ 64 → Each1 (Fits w8) v
    → z ≡ map f v → T (upto (λ x. same (top 7 (f x)) (p x)) 256)
    → mask_l (map (top 7) z) % 2 ^ 64 ≡ mask_l (map p v)
masked f p v z short fits e all =
    ap (λ l. mask_l l % 2 ^ 64) (ap (map (top 7)) e ∙ each-byte f p all v fits)
    ∙ mask_l-mod (map p v) 64 (omega (arith, length-map v p))

pub string-stops : (v a b c : List ℕ) → length v ≡ 16 → Each1 (Fits w8) v
    → a ≡ zip2 hit v (replicate 16 34) → b ≡ zip2 hit v (replicate 16 92)
    → c ≡ zip2 below v (replicate 16 32)
    → mask_l (map (top 7) (zip2 bit_or (zip2 bit_or a b) c)) % 2 ^ 64 ≡ mask_l (map is_stop v)
string-stops v a b c long fits one two three =
    masked _ is_stop v _ (omega arith) fits
    (either _ _ v
    (either _ _ v (one ∙ zip2_splat hit v 16 34 long) (two ∙ zip2_splat hit v 16 92 long))
    (three ∙ zip2_splat below v 16 32 long)) tt

splat-left : (h : ℕ → ℕ → ℕ) (y : ℕ) (xs : List ℕ) → zip2 h (replicate (length xs) y) xs ≡ map (h y) xs
splat-left h y [] = refl
splat-left h y (x ∷ xs) = ap (λ r. h y x ∷ r) (splat-left h y xs)

not-not : (b : Bool) → b ≡ not (not b)
not-not true = refl
not-not false = refl

pub plain-stop : (c : ℕ) → is_plain c ≡ not (is_line_stop c)
plain-stop c = not-not (is_plain c)

pub line-stops : (v a b : List ℕ) → length v ≡ 16 → Each1 (Fits w8) v
    → a ≡ zip2 hit v (replicate 16 10) → b ≡ zip2 at_most (replicate 16 128) v
    → mask_l (map (top 7) (zip2 bit_or a b)) % 2 ^ 64 ≡ mask_l (map is_line_stop v)
line-stops v a b long fits one two =
    masked _ is_line_stop v _ (omega arith) fits
    (either _ _ v (one ∙ zip2_splat hit v 16 10 long)
    (two ∙ ap (λ n. zip2 at_most (replicate n 128) v) (sym long) ∙ splat-left at_most 128 v)) tt

-- ---- runs, a block at a time

pub run-bound : (q : ℕ → Bool) (d : List ℕ) (i : ℕ) → i ≤ length d → i + prefix_len q (drop i d) ≤ length d
run-bound q d i h = omega (arith, prefix_len-le-length q (drop i d), length-drop i d)

none-fails : (b : Bool) (n l m : ℕ) → n ≤ l → cond (not b) (1 + n) 0 ≡ 1 + l → (n ≡ l → m ≡ 0) → cond b 1 0 + 2 * m ≡ 0
none-fails true n l m le e ih = let no : ⊥ = omega arith in absurd no
none-fails false n l m le e ih = let z = ih (omega arith) in omega arith

module _ (p q : ℕ → Bool) (opposite : (x : ℕ) → q x ≡ not (p x)) where
  same-run : (xs : List ℕ) → prefix_len q xs ≡ prefix_len (λ x. not (p x)) xs
  same-run [] = refl
  same-run (x ∷ xs) = ap₂ (λ b n. cond b (1 + n) 0) (opposite x) (same-run xs)

  all-pass : (xs : List ℕ) → prefix_len (λ x. not (p x)) xs ≡ length xs → mask_l (map p xs) ≡ 0
  all-pass [] e = refl
  all-pass (x ∷ xs) e = none-fails (p x) _ (length xs) _ (prefix_len-le-length (λ y. not (p y)) xs) (omega arith) (all-pass xs)

  split : (d : List ℕ) (i n : ℕ) → prefix_len q (drop i d) ≡ cond (eqb (prefix_len q (chunk i n d)) (length (chunk i n d))) (length (chunk i n d) + prefix_len q (drop (i + n) d)) (prefix_len q (chunk i n d))
  split d i n = ap (prefix_len q) (chunk-drop i n d) ∙ prefix_len-append q (chunk i n d) (drop (i + n) d)

  pub run-through : (d : List ℕ) (i n : ℕ) → i + n ≤ length d → mask_l (map p (chunk i n d)) ≡ 0 → prefix_len q (drop i d) ≡ n + prefix_len q (drop (i + n) d)
  run-through d i n room none =
      let c = chunk i n d in
      split d i n ∙ ap (λ b. cond b (length c + prefix_len q (drop (i + n) d)) (prefix_len q c)) (eq-eqb _ _ (same-run c ∙ leading_from_mask_l p c none))
      ∙ ap (λ k. k + prefix_len q (drop (i + n) d)) (length-chunk i n d room)

  pub run-stops : (d : List ℕ) (i n : ℕ) → i + n ≤ length d → n ≤ 64 → 0 < mask_l (map p (chunk i n d)) → prefix_len q (drop i d) ≡ count_trailing_zeros 64 (mask_l (map p (chunk i n d)))
  run-stops d i n room short some =
      let c = chunk i n d in
      split d i n ∙ ap (λ b. cond b (length c + prefix_len q (drop (i + n) d)) (prefix_len q c)) (ne_eqb _ _ (λ (e : prefix_len q c ≡ length c). omega (arith, all-pass c (sym (same-run c) ∙ e))))
      ∙ same-run c ∙ sym (trailing_mask_l p 64 c (omega (arith, length-chunk i n d room)) some)
