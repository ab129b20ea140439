-- Spelled names as characters and as their bytes in UTF-8 (RFC 3629 section 3): for reading paths.
use Rattle.std.proofs.Common.{◌≡◌, ℕ, suc, ◌/◌, ◌%◌, ◌<◌, ◌≤◌, nat_lt, true, List}
use Rattle.std.proofs.Common.{[], ◌∷◌, ◌++◌, length, get_or, inl, inr, refl, sym}
use Rattle.std.proofs.Common.{ap, subst, ◌∙◌, append_assoc, append-nil, arith}
use Rattle.std.proofs.lemmas.Bool.{cases_Bool, cases_lt}
use Rattle.std.proofs.lemmas.Bool.Decides.{nat_tests}
use Rattle.std.proofs.lemmas.Grind.{flat_map-append}
use Rattle.std.proofs.lemmas.Str.{encode_ascii, encodes-append, cons_from_encodes, inside_one}
use Rattle.std.specs.Char.{encode_utf8}
use Rattle.std.specs.List.{flat_map}
use Rattle.std.specs.Str.{encode_utf8_all}
use Rattle.jp_reading.specs.Characters as char
use Rattle.jp_reading.specs.Forms.{AllPassing}
use Rattle.jp_reading.specs.Numbers.{is_digit}
use Rattle.jp_document.specs.Private.PathRules.{is_plain, is_letter}
use Rattle.jp_document.specs.Spelling.{spelling, hex_digit}
use Rattle.jp_document.proofs.Spellings.Characters.{Spelled, by_letter, by_number}
use Rattle.jp_document.proofs.Spellings.Characters.{by_itself, spelled, spelling_is}

-- each is an ASCII character, which is its own byte
abbrev pub Ascii : List ℕ → Type 0
Ascii [] = Unit {0}
Ascii (c ∷ cs) = (c < 128) × Ascii cs

pub encode-ascii : (cs : List ℕ) → Ascii cs → encode_utf8_all cs ≡ cs
encode-ascii [] h = refl
encode-ascii (c ∷ cs) h =
    ap (λ t. t ++ encode_utf8_all cs) (encode_ascii c h.0) ∙ ap (λ t. c ∷ t) (encode-ascii cs h.1)

-- a text whose first byte is an ASCII character begins with that character
pub first-ascii : (c : ℕ) (t w : List ℕ) → c < 128 → encode_utf8_all t ≡ c ∷ w
    → (u : List ℕ) × (t ≡ c ∷ u) × (encode_utf8_all u ≡ w)
first-ascii c t w low is =
    cons_from_encodes t w c (is ∙ ap (λ v. v ++ w) (sym (encode_ascii c low)))

-- and one whose first bytes are such characters begins with them
pub prefix-ascii : (v t w : List ℕ) → Ascii v → encode_utf8_all t ≡ v ++ w
    → (u : List ℕ) × (t ≡ v ++ u) × (encode_utf8_all u ≡ w)
prefix-ascii [] t w low is = (t, refl, is)
prefix-ascii (c ∷ v) t w low is =
    let one = first-ascii c t (v ++ w) low.0 is in
    let more = prefix-ascii v one.0 w low.1 one.2 in
    (more.0, one.1 ∙ ap (λ x. c ∷ x) more.1, more.2)

pub digits-ascii : (ds : List ℕ) → AllPassing is_digit ds → Ascii ds
unfolding is_digit
digits-ascii [] h = tt
digits-ascii (d ∷ ds) h = (let digit = h.0 in grind (arith, nat_tests), digits-ascii ds h.1)

-- ---- plain characters

pub high-plain : (c : ℕ) → 128 ≤ c → is_plain c ≡ true
unfolding is_plain
high-plain c high = grind (arith, nat_tests)

all-plain : (bs : List ℕ) → ((k : ℕ) → k < length bs → is_plain (get_or bs k 0) ≡ true)
    → AllPassing is_plain bs
all-plain [] h = tt
all-plain (b ∷ bs) h = (h 0 (omega arith), all-plain bs (λ k within. h (suc k) (omega arith)))

-- the bytes of a plain character are plain
pub plain-bytes : (c : ℕ) → is_plain c ≡ true → AllPassing is_plain (encode_utf8 c)
plain-bytes c plain = all-plain (encode_utf8 c) (λ k within.
    elim (cases_lt (get_or (encode_utf8 c) k 0) 128) [
      | inl low ↦
          ap is_plain
          (sym (inside_one c [] (encode_utf8 c) k (sym (append-nil (encode_utf8 c))) within low))
          ∙ plain
      | inr high ↦ high-plain (get_or (encode_utf8 c) k 0) high
    ])

pub flat_map-plain : (bs : List ℕ) → AllPassing is_plain bs
    → flat_map (spelling char.single_quote) bs ≡ bs
flat_map-plain [] h = refl
flat_map-plain (b ∷ bs) h =
    ap (λ t. t ++ flat_map (spelling char.single_quote) bs)
    (spelling_is b (b ∷ []) (by_itself h.0 refl))
    ∙ ap (λ t. b ∷ t) (flat_map-plain bs h.1)

-- ---- spelled characters

pub letter-low : (e : ℕ) → is_letter e ≡ true → e < 128
unfolding is_letter
letter-low e h = grind (arith, nat_tests)

pub hex_digit-low : (n : ℕ) → n < 16 → hex_digit n < 128
hex_digit-low n small =
    elim (cases_Bool (nat_lt n 10)) [
      | inl e ↦ rw e (omega arith)
      | inr e ↦ rw e (omega arith)
    ]

spelled-low : (c : ℕ) (w : List ℕ) → c < 128 → Spelled c w → Ascii w
spelled-low c w low (by_letter e l m is) = subst Ascii (sym is) (omega arith, (letter-low e l, tt))
spelled-low c w low (by_number small none is) =
    subst Ascii (sym is) (
      omega arith,
      (
        omega arith,
        (
          omega arith,
          (
            omega arith,
            (hex_digit-low (c / 16) (omega arith), (hex_digit-low (c % 16) (omega arith), tt)),
          ),
        ),
      ),
    )
spelled-low c w low (by_itself plain is) = subst Ascii (sym is) (low, tt)

pub spelling-low : (c : ℕ) → c < 128 → Ascii (spelling char.single_quote c)
spelling-low c low = spelled-low c (spelling char.single_quote c) low (spelled c)

-- a character is spelled as its bytes are
spelling-encode : (c : ℕ) → encode_utf8_all (spelling char.single_quote c)
    ≡ flat_map (spelling char.single_quote) (encode_utf8 c)
spelling-encode c =
    elim (cases_lt c 128) [
      | inl low ↦
          encode-ascii (spelling char.single_quote c) (spelling-low c low)
          ∙ sym (append-nil (spelling char.single_quote c))
          ∙ ap (flat_map (spelling char.single_quote)) (sym (encode_ascii c low))
      | inr high ↦
          let plain = high-plain c high in
          ap encode_utf8_all (spelling_is c (c ∷ []) (by_itself plain refl))
          ∙ append-nil (encode_utf8 c)
          ∙ sym (flat_map-plain (encode_utf8 c) (plain-bytes c plain))
    ]

-- and so is a text
pub names-encode : (cs : List ℕ)
    → encode_utf8_all (flat_map (spelling char.single_quote) cs)
    ≡ flat_map (spelling char.single_quote) (encode_utf8_all cs)
names-encode [] = refl
names-encode (c ∷ cs) =
    encodes-append (spelling char.single_quote c) (flat_map (spelling char.single_quote) cs)
    ∙ ap (λ t. t ++ encode_utf8_all (flat_map (spelling char.single_quote) cs)) (spelling-encode c)
    ∙ ap (λ t. flat_map (spelling char.single_quote) (encode_utf8 c) ++ t) (names-encode cs)
    ∙ sym (flat_map-append (spelling char.single_quote) (encode_utf8 c) (encode_utf8_all cs))

-- ---- from bytes back to characters

-- bytes that stand for themselves, before the text of other bytes up to a quote
pub peel : (v s x w : List ℕ) → ((k : ℕ) → k < length v → 128 ≤ get_or v k 0)
    → v ++ x ≡ flat_map (spelling char.single_quote) s ++ char.single_quote ∷ w
    → (r : List ℕ) × (s ≡ v ++ r) × (x ≡ flat_map (spelling char.single_quote) r
    ++ char.single_quote ∷ w)
peel [] s x w high is = (s, refl, is)
peel (b ∷ v) [] x w high is =
    absurd
    (let first : b ≡ char.single_quote = ap (λ t. get_or t 0 0) is in
    let h = high 0 (omega arith) in omega arith)
peel (b ∷ v) (c ∷ s) x w high is =
    let first : 128 ≤ b = high 0 (omega arith) in
    let same =
    high_first b c (v ++ x) (flat_map (spelling char.single_quote) s ++ char.single_quote ∷ w)
    (spelling char.single_quote c) first
    (spelled c)
    (is ∙ append_assoc (spelling char.single_quote c) (flat_map (spelling char.single_quote) s)
    (char.single_quote ∷ w)) in
    let more = peel v s x w (λ k within. high (suc k) (omega arith)) same.1 in
    (more.0, ap (λ n. n ∷ s) (sym same.0) ∙ ap (λ t. b ∷ t) more.1, more.2)
  where
    high_first : (b c : ℕ) (x y w : List ℕ) → 128 ≤ b → Spelled c w → b ∷ x ≡ w ++ y
        → (b ≡ c) × (x ≡ y)
    high_first b c x y w high (by_letter e l m is) h =
        absurd (let at : b ≡ char.backslash = ap (λ t. get_or t 0 0) (h ∙ ap (λ t. t ++ y) is) in
        omega arith)
    high_first b c x y w high (by_number low none is) h =
        absurd (let at : b ≡ char.backslash = ap (λ t. get_or t 0 0) (h ∙ ap (λ t. t ++ y) is) in
        omega arith)
    high_first b c x y w high (by_itself plain is) h =
        let same : b ∷ x ≡ c ∷ y = h ∙ ap (λ t. t ++ y) is in (cc, cc)

pub high-bytes : (c : ℕ) → 128 ≤ c → (k : ℕ) → k < length (encode_utf8 c)
    → 128 ≤ get_or (encode_utf8 c) k 0
high-bytes c high k within =
    elim (cases_lt (get_or (encode_utf8 c) k 0) 128) [
      | inl low ↦
          let same =
          inside_one c [] (encode_utf8 c) k (sym (append-nil (encode_utf8 c))) within
          low in omega arith
      | inr above ↦ above
    ]
