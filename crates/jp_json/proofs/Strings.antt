-- Where a string of a JSON text ends, byte by byte.
use Rattle.std.proofs.Common.{◌≡◌, ◌≤◌, ◌<◌, ◌+◌, ℕ, zero, suc, Bool, true, ◌==◌, not, ◌&&◌, List, [], ◌∷◌, ◌++◌}
use Rattle.std.proofs.Common.{if◌then◌else◌, length, drop, get_or, inl, inr, refl, sym, ap, ◌∙◌, arith}
use Rattle.std.proofs.Common.{append_assoc, append-nil, length-append}
use Rattle.std.proofs.Math.Seq.{drop-cons}
use Rattle.std.proofs.lemmas.Bool.{cases_lt}
use Rattle.std.proofs.lemmas.Bool.Decides.{nat_tests}
use Rattle.std.proofs.lemmas.List.{drop_all}
use Rattle.std.proofs.lemmas.Str.{encodes-append, encodes-chars, inside_one}
use Rattle.std.specs.Char.{encode_utf8}
use Rattle.std.specs.Str.{chars, encode_utf8_all}
use Rattle.jp_reading.specs.Forms.{AllPassing}
use Rattle.jp_reading.specs.Numbers.{is_digit}
use Rattle.jp_reading.specs.Texts.{Text}
use Rattle.jp_document.proofs.Spellings.Encoded.{Ascii, encode-ascii}
use Rattle.jp_json.specs.Grammar.{char, escaped, is_escapable, is_hex_digit, is_unescaped}
use Rattle.jp_json.specs.Language.{One, Times}
use Rattle.jp_json.specs.Private.Strings.{IsStringEnd}

-- how many bytes a string has whose characters begin the bytes, with the quotation mark at its end;
-- and those behind a backslash
abbrev mutual
  pub reach : List ℕ → ℕ
  reach [] = 0
  reach (b ∷ bs) =
      if b == 34 then 1 else if b == 92 then suc (leap bs) else suc (reach bs)

  pub leap : List ℕ → ℕ
  leap [] = 0
  leap (b ∷ bs) = suc (reach bs)

-- a byte that neither ends a string nor begins an escape
abbrev is_inner : ℕ → Bool
is_inner b = not (b == 34) && not (b == 92)

over-inner : (bs r : List ℕ) → AllPassing is_inner bs
    → reach (bs ++ r) ≡ length bs + reach r
over-inner [] r h = omega arith
over-inner (b ∷ bs) r h = let more = over-inner bs r h.1 in let one = h.0 in grind (arith, nat_tests)

-- ---- the bytes of a character

all-passing : (p : ℕ → Bool) (bs : List ℕ)
    → ((k : ℕ) → k < length bs → p (get_or bs k 0) ≡ true)
    → AllPassing p bs
all-passing p [] h = tt
all-passing p (b ∷ bs) h =
    (h 0 (omega arith), all-passing p bs (λ k within. h (suc k) (omega arith)))

-- where a test passes each byte of no ASCII character, it passes the bytes of each character that it passes
pub bytes-passing : (p : ℕ → Bool) → ((b : ℕ) → 128 ≤ b → p b ≡ true) → (c : ℕ) → p c ≡ true
    → AllPassing p (encode_utf8 c)
bytes-passing p above c passes = all-passing p (encode_utf8 c) (λ k within.
    elim (cases_lt (get_or (encode_utf8 c) k 0) 128) [
      | inl low ↦
          ap p
          (sym (inside_one c [] (encode_utf8 c) k (sym (append-nil (encode_utf8 c))) within low))
          ∙ passes
      | inr high ↦ above (get_or (encode_utf8 c) k 0) high
    ])

high-inner : (b : ℕ) → 128 ≤ b → is_inner b ≡ true
high-inner b high = grind (arith, nat_tests)

unescaped-inner : (c : ℕ) → is_unescaped c ≡ true → is_inner c ≡ true
unescaped-inner c h = grind (arith, nat_tests)

bytes-inner : (c : ℕ) → is_inner c ≡ true → AllPassing is_inner (encode_utf8 c)
bytes-inner = bytes-passing is_inner high-inner

-- ---- characters by the grammar

-- all bytes of the text are gone over
record IsPassed (t : Text) : Type 0 where
  over : (r : List ℕ)
      → reach (encode_utf8_all t ++ r) ≡ length (encode_utf8_all t) + reach r

unescaped-passed : (t : Text) → One is_unescaped t → IsPassed t
unescaped-passed t h = record { over = λ r. rw h.is (whole r) }
  where
    whole : (r : List ℕ) → reach ((encode_utf8 h.character ++ []) ++ r)
        ≡ length (encode_utf8 h.character ++ []) + reach r
    whole r = rw (append-nil (encode_utf8 h.character))
        (over-inner (encode_utf8 h.character) r (bytes-inner h.character (unescaped-inner h.character h.passes)))

hex-ascii : (c : ℕ) → is_hex_digit c ≡ true → c < 128
unfolding is_digit
hex-ascii c h = grind (arith, nat_tests)

hex-inner : (c : ℕ) → is_hex_digit c ≡ true → is_inner c ≡ true
unfolding is_digit
hex-inner c h = grind (arith, nat_tests)

escapable-ascii : (c : ℕ) → is_escapable c ≡ true → c < 128
escapable-ascii c h = grind (arith, nat_tests)

-- hexadecimal digits are their own bytes, and gone over
record IsHex (n : ℕ) (t : Text) : Type 0 where
  ascii : Ascii t
  inner : AllPassing is_inner t

hex-text : (n : ℕ) (t : Text) → Times n (One is_hex_digit) t → IsHex n t
hex-text zero t h = rw h (record { ascii = tt; inner = tt })
hex-text (suc n) t h =
    let more = hex-text n h.second h.two in
    rw (h.is, h.one.is) (record {
      ascii = (hex-ascii h.one.character h.one.passes, more.ascii);
      inner = (hex-inner h.one.character h.one.passes, more.inner);
    })

escaped-passed : (t : Text) → escaped t → IsPassed t
escaped-passed t h =
    elim h.two [
      | inl one ↦ rw (h.is, h.one, one.is) (letter one.character (escapable-ascii one.character one.passes))
      | inr four ↦
          let hex = hex-text 4 four.second four.two in
          rw (h.is, h.one, four.is, four.one) (numbered four.second hex.ascii hex.inner)
    ]
  where
    letter : (c : ℕ) → c < 128 → IsPassed (92 ∷ c ∷ [])
    letter c low = record { over = λ r. rw (encode-ascii (92 ∷ c ∷ []) (omega arith, (low, tt))) (omega arith) }

    numbered : (ds : Text) → Ascii ds → AllPassing is_inner ds → IsPassed (92 ∷ 117 ∷ ds)
    numbered ds low inner = record {
      over = λ r.
          rw (encode-ascii (92 ∷ 117 ∷ ds) (omega arith, (omega arith, low)))
          (omega (arith, over-inner ds r inner));
    }

char-passed : (t : Text) → char t → IsPassed t
char-passed t h = elim h [ inl plain ↦ unescaped-passed t plain | inr escape ↦ escaped-passed t escape ]

chars-passed : (n : ℕ) (t : Text) → Times n char t → IsPassed t
chars-passed zero t h = rw h (record { over = λ r. omega arith })
chars-passed (suc n) t h = rw h.is (joined h.first h.second (char-passed h.first h.one)
    (chars-passed n h.second h.two))
  where
    later : (first second : Text) (r : List ℕ) → reach (encode_utf8_all second ++ r)
        ≡ length (encode_utf8_all second) + reach r
        → length (encode_utf8_all first) + reach (encode_utf8_all second ++ r)
        ≡ length (encode_utf8_all first ++ encode_utf8_all second) + reach r
    later first second r h =
        omega (arith, h, length-append (encode_utf8_all first) (encode_utf8_all second))

    joined : (first second : Text) → IsPassed first → IsPassed second → IsPassed (first ++ second)
    joined first second p q = record {
      over = λ r.
          rw (
            encodes-append first second,
            append_assoc (encode_utf8_all first) (encode_utf8_all second) r,
          )
          (p.over (encode_utf8_all second ++ r) ∙ later first second r (q.over r));
    }

-- ---- a string by the grammar

-- the string ends where its bytes are gone over
pub string-end : (text : List ℕ) (from end : ℕ) → end ≡ from + reach (drop from text)
    → IsStringEnd text from end
string-end text from end is part behind front utf8 h =
    is ∙ ap (λ n. from + n) (ap reach front ∙ whole)
  where
    inner : Text
    inner = h.two.first

    spelled : chars part ≡ inner ++ 34 ∷ []
    spelled =
        ap (drop 1) (h.is ∙ ap (λ t. t ++ h.second) h.one) ∙ h.two.is
        ∙ ap (λ t. inner ++ t) h.two.two

    bytes-are : part ≡ encode_utf8_all inner ++ 34 ∷ []
    bytes-are =
        sym (encodes-chars part utf8) ∙ ap encode_utf8_all spelled
        ∙ encodes-append inner (34 ∷ [])
        ∙ ap (λ t. encode_utf8_all inner ++ t) (encode-ascii (34 ∷ []) (omega arith, tt))

    passed : reach (encode_utf8_all inner ++ 34 ∷ behind) ≡ length (encode_utf8_all inner) + 1
    passed = (chars-passed h.two.one.times inner h.two.one.is).over (34 ∷ behind)

    whole : reach (part ++ behind) ≡ length part
    whole =
        ap reach (ap (λ t. t ++ behind) bytes-are ∙ append_assoc (encode_utf8_all inner) (34 ∷ []) behind)
        ∙ passed
        ∙ sym (ap length bytes-are ∙ length-append (encode_utf8_all inner) (34 ∷ []))

-- ---- byte by byte

-- at the quotation mark that ends it
pub quote-reach : (text : List ℕ) (at : ℕ) → at < length text → get_or text at 0 ≡ 34
    → reach (drop at text) ≡ 1
quote-reach text at within is = ap reach (drop-cons text at 0 within) ∙ ended (get_or text at 0) is
  where
    ended : (b : ℕ) → b ≡ 34 → reach (b ∷ drop (suc at) text) ≡ 1
    ended b e = rw e refl

-- over an escape's first two bytes
pub escape-reach : (text : List ℕ) (at : ℕ) → at + 1 < length text → get_or text at 0 ≡ 92
    → reach (drop at text) ≡ 2 + reach (drop (at + 2) text)
escape-reach text at within is =
    ap reach (drop-cons text at 0 (omega (arith, within)))
    ∙ begun (get_or text at 0) (drop (suc at) text) is
    ∙ ap (λ bs. suc (leap bs)) (drop-cons text (suc at) 0 (omega (arith, within)))
    ∙ two-on (suc (suc at)) (omega arith)
  where
    two-on : (n : ℕ) → n ≡ at + 2
        → suc (suc (reach (drop n text))) ≡ 2 + reach (drop (at + 2) text)
    two-on n e = rw e (omega arith)

    begun : (b : ℕ) (bs : List ℕ) → b ≡ 92 → reach (b ∷ bs) ≡ suc (leap bs)
    begun b bs e = rw e refl

-- at the end of the bytes
pub no-reach : (text : List ℕ) (at : ℕ) → length text ≤ at → reach (drop at text) ≡ 0
no-reach text at beyond = ap reach (drop_all at text beyond)
