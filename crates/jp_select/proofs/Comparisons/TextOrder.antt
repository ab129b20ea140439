-- The order of UTF-8 texts by their bytes is that of their scalar values (RFC 3629 section 1).
use Rattle.std.proofs.Common.{◌≡◌, ℕ, ◌+◌, ◌/◌, ◌%◌, ◌<◌, ◌≤◌, ◌⊎◌, inl, inr}
use Rattle.std.proofs.Common.{List, [], ◌∷◌, ◌++◌, Ordering, Less, Equal, true}
use Rattle.std.proofs.Common.{false, refl, sym, subst, ap, ap₂, ◌∙◌, arith}
use Rattle.std.proofs.lemmas.Bool.{cases_lt}
use Rattle.std.proofs.lemmas.Bool.Decides.{nat_tests}
use Rattle.std.proofs.lemmas.Cmp.{nat_list_cmp_total}
use Rattle.std.proofs.lemmas.Str.{encodes-chars}
use Rattle.std.proofs.Math.Utf8.{encode}
use Rattle.std.specs.Char.{encode_utf8}
use Rattle.std.specs.Cmp.{nat_cmp_is}
use Rattle.std.specs.Cmp.Lexicographic.{slice_cmp}
use Rattle.std.specs.Ordering.{is_lt, nat_cmp, ordering_reverse, ordering_then}
use Rattle.std.specs.Str.{IsUtf8, chars, encode_utf8_all}
use Rattle.jp_select.specs.Comparison.{precedes}

abbrev bytes_cmp : List ℕ → List ℕ → Ordering
bytes_cmp = slice_cmp nat_cmp

-- ---- lists of bytes

lower_first : (a b : ℕ) (x y : List ℕ) → a < b → bytes_cmp (a ∷ x) (b ∷ y) ≡ Less
lower_first a b x y less =
    ap (λ o. ordering_then o (bytes_cmp x y)) (sym (nat_cmp_is a b Less less))

same_first : (a b : ℕ) (x y : List ℕ) → a ≡ b → bytes_cmp (a ∷ x) (b ∷ y) ≡ bytes_cmp x y
same_first a b x y same =
    ap (λ o. ordering_then o (bytes_cmp x y)) (sym (nat_cmp_is a b Equal same))

same_prefix : (bs x y : List ℕ) → bytes_cmp (bs ++ x) (bs ++ y) ≡ bytes_cmp x y
same_prefix [] x y = refl
same_prefix (b ∷ bs) x y = same_first b b (bs ++ x) (bs ++ y) refl ∙ same_prefix bs x y

-- ---- numbers by their last six bits and what is before them

abbrev last_byte : ℕ → ℕ
last_byte c = 128 + c % 64

by_bits : (c d : ℕ) → c < d → (c / 64 < d / 64) ⊎ ((c / 64 ≡ d / 64) × (last_byte c < last_byte d))
by_bits c d less =
    elim (cases_lt (c / 64) (d / 64)) [ inl h ↦ inl h | inr h ↦ inr (omega arith, omega arith) ]

two_lower : (k c d : ℕ) (x y : List ℕ) → c < d
    → bytes_cmp ((k + c / 64) ∷ last_byte c ∷ x) ((k + d / 64) ∷ last_byte d ∷ y) ≡ Less
two_lower k c d x y less =
    elim (by_bits c d less) [
      | inl h ↦
          lower_first (k + c / 64) (k + d / 64) (last_byte c ∷ x) (last_byte d ∷ y) (omega arith)
      | inr h ↦
          same_first (k + c / 64) (k + d / 64) (last_byte c ∷ x) (last_byte d ∷ y)
          (ap (λ q. k + q) h.0) ∙ lower_first (last_byte c) (last_byte d) x y h.1
    ]

three_lower : (k c d : ℕ) (x y : List ℕ) → c < d
    → bytes_cmp ((k + c / 64 / 64) ∷ last_byte (c / 64) ∷ last_byte c ∷ x)
    ((k + d / 64 / 64) ∷ last_byte (d / 64) ∷ last_byte d ∷ y) ≡ Less
three_lower k c d x y less =
    elim (by_bits c d less) [
      | inl h ↦ two_lower k (c / 64) (d / 64) (last_byte c ∷ x) (last_byte d ∷ y) h
      | inr h ↦
          same_first (k + c / 64 / 64) (k + d / 64 / 64) (last_byte (c / 64) ∷ last_byte c ∷ x)
          (last_byte (d / 64) ∷ last_byte d ∷ y) (ap (λ q. k + q / 64) h.0)
          ∙ same_first (last_byte (c / 64)) (last_byte (d / 64)) (last_byte c ∷ x) (last_byte d ∷ y)
          (ap last_byte h.0)
          ∙ lower_first (last_byte c) (last_byte d) x y h.1
    ]

four_lower : (k c d : ℕ) (x y : List ℕ) → c < d
    → bytes_cmp
    ((k + c / 64 / 64 / 64) ∷ last_byte (c / 64 / 64) ∷ last_byte (c / 64) ∷ last_byte c ∷ x)
    ((k + d / 64 / 64 / 64) ∷ last_byte (d / 64 / 64) ∷ last_byte (d / 64) ∷ last_byte d ∷ y) ≡
    Less
four_lower k c d x y less =
    elim (by_bits c d less) [
      | inl h ↦ three_lower k (c / 64) (d / 64) (last_byte c ∷ x) (last_byte d ∷ y) h
      | inr h ↦
          same_first (k + c / 64 / 64 / 64) (k + d / 64 / 64 / 64)
          (last_byte (c / 64 / 64) ∷ last_byte (c / 64) ∷ last_byte c ∷ x)
          (last_byte (d / 64 / 64) ∷ last_byte (d / 64) ∷ last_byte d ∷ y)
          (ap (λ q. k + q / 64 / 64) h.0)
          ∙ same_first (last_byte (c / 64 / 64)) (last_byte (d / 64 / 64))
          (last_byte (c / 64) ∷ last_byte c ∷ x) (last_byte (d / 64) ∷ last_byte d ∷ y)
          (ap (λ q. last_byte (q / 64)) h.0)
          ∙ same_first (last_byte (c / 64)) (last_byte (d / 64)) (last_byte c ∷ x) (last_byte d ∷ y)
          (ap last_byte h.0)
          ∙ lower_first (last_byte c) (last_byte d) x y h.1
    ]

-- ---- characters

-- the four lengths of a character
data Bytes (c : ℕ) : List ℕ → Type 0 where
  one : c < 128 → Bytes c (c ∷ [])
  two : 128 ≤ c → c < 2048 → Bytes c ((192 + c / 64) ∷ last_byte c ∷ [])
  three : 2048 ≤ c → c < 65536
      → Bytes c ((224 + c / 64 / 64) ∷ last_byte (c / 64) ∷ last_byte c ∷ [])
  four : 65536 ≤ c
      → Bytes c
      ((240 + c / 64 / 64 / 64) ∷ last_byte (c / 64 / 64) ∷ last_byte (c / 64) ∷ last_byte c ∷ [])

thousands : (c : ℕ) → c / 4096 ≡ c / 64 / 64
thousands c = omega arith

millions : (c : ℕ) → c / 262144 ≡ c / 64 / 64 / 64
millions c = omega arith

bytes : (c : ℕ) → Bytes c (encode_utf8 c)
unfolding encode
bytes c =
    elim (cases_lt c 128) [
      | inl h ↦
          subst (Bytes c) (let e : c ∷ [] ≡ encode_utf8 c = grind (arith, nat_tests) in e) (one h)
      | inr low ↦ elim (cases_lt c 2048) [
        | inl h ↦
            subst (Bytes c)
            (let e : (192 + c / 64) ∷ last_byte c ∷ [] ≡ encode_utf8 c =
            grind (arith, nat_tests) in e) (two low h)
        | inr low ↦ elim (cases_lt c 65536) [
          | inl h ↦
              subst (Bytes c)
              (ap (λ q. (224 + q) ∷ last_byte (c / 64) ∷ last_byte c ∷ []) (sym (thousands c))
              ∙ (let e : (224 + c / 4096) ∷ last_byte (c / 64) ∷ last_byte c ∷ [] ≡
              encode_utf8 c = grind (arith, nat_tests) in e)) (three low h)
          | inr h ↦
              subst (Bytes c)
              (ap₂ (λ p q. (240 + p) ∷ last_byte q ∷ last_byte (c / 64) ∷ last_byte c ∷ [])
              (sym (millions c)) (sym (thousands c))
              ∙ (let e : (240 + c / 262144) ∷ last_byte (c / 4096) ∷ last_byte
              (c / 64) ∷ last_byte c ∷ [] ≡ encode_utf8 c = grind (arith, nat_tests) in e))
              (four h)
        ]
      ]
    ]

-- a lower character has lower bytes, whatever follows
lower_bytes : (c d : ℕ) (bs cs x y : List ℕ) → Bytes c bs → Bytes d cs → c < d
    → bytes_cmp (bs ++ x) (cs ++ y) ≡ Less
lower_bytes c d bs cs x y (one h) (one g) less = lower_first c d x y less
lower_bytes c d bs cs x y (two l h) (two m g) less = two_lower 192 c d x y less
lower_bytes c d bs cs x y (three l h) (three m g) less = three_lower 224 c d x y less
lower_bytes c d bs cs x y (four h) (four g) less = four_lower 240 c d x y less
lower_bytes c d bs cs x y (one h) (two m g) less = lower_first c (192 + d / 64) x _ (omega arith)
lower_bytes c d bs cs x y (one h) (three m g) less =
    lower_first c (224 + d / 64 / 64) x _ (omega arith)
lower_bytes c d bs cs x y (one h) (four g) less =
    lower_first c (240 + d / 64 / 64 / 64) x _ (omega arith)
lower_bytes c d bs cs x y (two l h) (three m g) less =
    lower_first (192 + c / 64) (224 + d / 64 / 64) (last_byte c ∷ x)
    (last_byte (d / 64) ∷ last_byte d ∷ y) (omega arith)
lower_bytes c d bs cs x y (two l h) (four g) less =
    lower_first (192 + c / 64) (240 + d / 64 / 64 / 64) (last_byte c ∷ x)
    (last_byte (d / 64 / 64) ∷ last_byte (d / 64) ∷ last_byte d ∷ y) (omega arith)
lower_bytes c d bs cs x y (three l h) (four g) less =
    lower_first (224 + c / 64 / 64) (240 + d / 64 / 64 / 64) (last_byte (c / 64) ∷ last_byte c ∷ x)
    (last_byte (d / 64 / 64) ∷ last_byte (d / 64) ∷ last_byte d ∷ y) (omega arith)
lower_bytes c d bs cs x y (two l h) (one g) less = absurd (omega arith)
lower_bytes c d bs cs x y (three l h) (one g) less = absurd (omega arith)
lower_bytes c d bs cs x y (four h) (one g) less = absurd (omega arith)
lower_bytes c d bs cs x y (three l h) (two m g) less = absurd (omega arith)
lower_bytes c d bs cs x y (four h) (two m g) less = absurd (omega arith)
lower_bytes c d bs cs x y (four h) (three m g) less = absurd (omega arith)

lower_character : (c d : ℕ) (x y : List ℕ) → c < d
    → bytes_cmp (encode_utf8 c ++ x) (encode_utf8 d ++ y) ≡ Less
lower_character c d x y less =
    lower_bytes c d (encode_utf8 c) (encode_utf8 d) x y (bytes c) (bytes d) less

-- every character has a byte
some_byte : (c : ℕ) (bs x : List ℕ) → Bytes c bs → bytes_cmp [] (bs ++ x) ≡ Less
some_byte c bs x (one h) = refl
some_byte c bs x (two l h) = refl
some_byte c bs x (three l h) = refl
some_byte c bs x (four h) = refl

-- ---- texts

bytes_cmp-reverse : (x y : List ℕ) → bytes_cmp x y ≡ ordering_reverse (bytes_cmp y x)
bytes_cmp-reverse = nat_list_cmp_total.antisymm

precedes-lower : (c d : ℕ) (cs ds : List ℕ) → c < d → precedes (c ∷ cs) (d ∷ ds) ≡ true
precedes-lower c d cs ds less = grind (arith, nat_tests)

precedes-same : (c d : ℕ) (cs ds : List ℕ) → c ≡ d → precedes (c ∷ cs) (d ∷ ds) ≡ precedes cs ds
precedes-same c d cs ds same = grind (arith, nat_tests)

precedes-higher : (c d : ℕ) (cs ds : List ℕ) → d < c → precedes (c ∷ cs) (d ∷ ds) ≡ false
precedes-higher c d cs ds more = grind (arith, nat_tests)

encoded : (cs ds : List ℕ)
    → is_lt (bytes_cmp (encode_utf8_all cs) (encode_utf8_all ds)) ≡ precedes cs ds
encoded [] [] = refl
encoded [] (d ∷ ds) = ap is_lt (some_byte d (encode_utf8 d) (encode_utf8_all ds) (bytes d))
encoded (c ∷ cs) [] =
    ap is_lt
    (bytes_cmp-reverse (encode_utf8_all (c ∷ cs)) []
    ∙ ap ordering_reverse (some_byte c (encode_utf8 c) (encode_utf8_all cs) (bytes c)))
encoded (c ∷ cs) (d ∷ ds) =
    let x : List ℕ = encode_utf8_all cs in
    let y : List ℕ = encode_utf8_all ds in
    elim (cases_lt c d) [
      | inl less ↦ ap is_lt (lower_character c d x y less) ∙ sym (precedes-lower c d cs ds less)
      | inr up ↦ elim (cases_lt d c) [
        | inl more ↦
            ap is_lt
            (bytes_cmp-reverse (encode_utf8 c ++ x) (encode_utf8 d ++ y)
            ∙ ap ordering_reverse (lower_character d c y x more))
            ∙ sym (precedes-higher c d cs ds more)
        | inr down ↦
            let same : c ≡ d = omega arith in
            ap (λ e. is_lt (bytes_cmp (encode_utf8 c ++ x) (encode_utf8 e ++ y))) (sym same)
            ∙ ap is_lt (same_prefix (encode_utf8 c) x y) ∙ encoded cs ds
            ∙ sym (precedes-same c d cs ds same)
      ]
    ]

-- the order of two texts by their bytes is that of their scalar values
pub bytes-precedes : (s t : List ℕ) → IsUtf8 s → IsUtf8 t
    → is_lt (slice_cmp nat_cmp s t) ≡ precedes (chars s) (chars t)
bytes-precedes s t u v =
    ap₂ (λ x y. is_lt (bytes_cmp x y)) (sym (encodes-chars s u)) (sym (encodes-chars t v))
    ∙ encoded (chars s) (chars t)
