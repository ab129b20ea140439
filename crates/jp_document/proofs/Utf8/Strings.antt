-- What a string of a JSON text holds is a text: for its tokens.
use Rattle.std.proofs.Common.{◌≡◌, ℕ, zero, suc, ◌+◌, ◌<◌, ◌≤◌, Bool, true, false, ◌&&◌}
use Rattle.std.proofs.Common.{◌==◌, cond, nat_lt, List, [], ◌∷◌, ◌++◌, length, get_or}
use Rattle.std.proofs.Common.{Option, Some, None, option_and_then, IsUtf8, inl, inr, refl}
use Rattle.std.proofs.Common.{sym, ◌∙◌, subst, arith, append_assoc, append-nil, length-append}
use Rattle.std.specs.Char.{IsScalar, digit_value, encode_utf8, is_digit}
use Rattle.std.specs.Str.{IsCharBoundary}
use Rattle.std.proofs.Math.Seq.{drop-append-add, get_or-append_seam, take-append_seam}
use Rattle.std.proofs.lemmas.Bool.{and_parts, cases_lt}
use Rattle.std.proofs.lemmas.Bool.Decides.{nat_tests}
use Rattle.std.proofs.lemmas.Option.{cond_some, none-some, same_Some}
use Rattle.std.proofs.lemmas.Str.{IsCharBoundary-after_ascii, IsUtf8-append}
use Rattle.std.proofs.lemmas.Str.{IsUtf8-drop, IsUtf8-encode, IsUtf8-take, encode_ascii}
use Rattle.jp_reading.specs.Characters as char
use lib.Utf8.{low_scalar}
use Rattle.jp_document.proofs.Options.{some_from_if, some_from_then}
use Rattle.json.specs.Text.{after_backslash, after_high, after_u, code_unit}
use Rattle.json.specs.Text.{content, is_high_surrogate, is_low_surrogate}
use Rattle.json.specs.Text.{plain, prepend, short_escape, surrogate_pair}

-- ---- a text is cut around an ASCII byte

seam_boundary : (p : List ℕ) (b : ℕ) (xs : List ℕ) → b < 128
    → IsCharBoundary (p ++ b ∷ xs) (length p)
seam_boundary p b xs low =
    let long = length-append p (b ∷ xs) in
    let at : get_or (p ++ b ∷ xs) (length p) 0 ≡ b = get_or-append_seam p b xs 0 in
    (omega arith, λ within high. absurd (omega arith))

text_before : (p : List ℕ) (b : ℕ) (xs : List ℕ) → b < 128 → IsUtf8 (p ++ b ∷ xs) → IsUtf8 p
text_before p b xs low utf8 =
    subst IsUtf8 (take-append_seam p (b ∷ xs))
    (IsUtf8-take (p ++ b ∷ xs) (length p) utf8 (seam_boundary p b xs low))

pub text_after : (p : List ℕ) (b : ℕ) (xs : List ℕ) → b < 128 → IsUtf8 (p ++ b ∷ xs) → IsUtf8 xs
text_after p b xs low utf8 =
    let long = length-append p (b ∷ xs) in
    let at : get_or (p ++ b ∷ xs) (length p) 0 ≡ b = get_or-append_seam p b xs 0 in
    subst IsUtf8 (drop-append-add p (b ∷ xs) 1)
    (IsUtf8-drop (p ++ b ∷ xs) (length p + 1) utf8
    (IsCharBoundary-after_ascii (p ++ b ∷ xs) (length p) utf8 (omega arith) (omega arith)))

-- the same at the start of a text
pub text_past : (b : ℕ) (xs : List ℕ) → b < 128 → IsUtf8 (b ∷ xs) → IsUtf8 xs
text_past b xs low utf8 = text_after [] b xs low utf8

pub text_moved : (p : List ℕ) (b : ℕ) (xs : List ℕ) → IsUtf8 (p ++ b ∷ xs)
    → IsUtf8 ((p ++ b ∷ []) ++ xs)
text_moved p b xs utf8 = rw append_assoc utf8

text_of_one : (b : ℕ) → b < 128 → IsUtf8 (b ∷ [])
text_of_one b low = subst IsUtf8 (encode_ascii b low) (IsUtf8-encode b (low_scalar b (omega arith)))

-- ---- code units

low_digit : (c : ℕ) → is_digit c 16 ≡ true → (c < 128) × (digit_value c < 16)
low_digit c is = grind (arith, nat_tests)

-- four hex digits are ASCII, and write a number below 2^16
record FourDigits (a b c d u : ℕ) : Type 0 where
  pub first : a < 128
  pub second : b < 128
  pub third : c < 128
  pub fourth : d < 128
  pub small : u < 65536

four_digits : (a b c d u : ℕ) → code_unit a b c d ≡ Some u → FourDigits a b c d u
unfolding code_unit
four_digits a b c d u is =
    let both =
    cond_some (is_digit a 16 && is_digit b 16 && is_digit c 16 && is_digit d 16) _ u is in
    let three =
    and_parts (is_digit a 16 && is_digit b 16 && is_digit c 16) (is_digit d 16) both.0 in
    let two = and_parts (is_digit a 16 && is_digit b 16) (is_digit c 16) three.0 in
    let one = and_parts (is_digit a 16) (is_digit b 16) two.0 in
    let x = low_digit a one.0 in
    let y = low_digit b one.1 in
    let z = low_digit c two.1 in
    let w = low_digit d three.1 in
    record {
      first = x.0;
      second = y.0;
      third = z.0;
      fourth = w.0;
      small = let sum = both.1 in omega arith;
    }

-- ---- characters that an escape writes

surrogate : (u : ℕ) → u < 65536 → is_high_surrogate u ≡ false → is_low_surrogate u ≡ false
    → IsScalar u
surrogate u small high low = grind (arith, nat_tests)

pair_of : (h l : ℕ) → is_high_surrogate h ≡ true → is_low_surrogate l ≡ true
    → IsScalar (surrogate_pair h l)
pair_of h l high low = grind (arith, nat_tests)

abbrev Low : Option ℕ → Type 0
Low o = (c : ℕ) → o ≡ Some c → c < 128

low_some : (a : ℕ) → a < 128 → Low (Some a)
low_some a low c is = subst (λ x. x < 128) (same_Some a c is) low

low_none : Low None
low_none c is = absurd (cc)

low_if : (t : Bool) (a : ℕ) (o : Option ℕ) → a < 128 → Low o → Low (cond t (Some a) o)
low_if true a o here later = low_some a here
low_if false a o here later = later

short_low : (x : ℕ) → x < 128 → Low (short_escape x)
unfolding short_escape
short_low x low =
    low_if _ x _ low
    (low_if _ char.backspace _ (omega arith)
    (low_if _ char.form_feed _ (omega arith)
    (low_if _ char.line_feed _ (omega arith)
    (low_if _ char.carriage_return _ (omega arith) (low_if _ char.tab _ (omega arith) low_none)))))

short_high : (x : ℕ) → 128 ≤ x → short_escape x ≡ None
unfolding short_escape
short_high x high = grind (arith, nat_tests)

-- ---- the content of a string

-- what is read of each shorter text completes a text
abbrev Shorter : ℕ → Type 0
Shorter n =
    (p xs s : List ℕ) → length xs < n → IsUtf8 (p ++ xs) → content plain xs ≡ Some s
    → IsUtf8 (p ++ s)

prepended : (bs : List ℕ) (o : Option (List ℕ)) (s : List ℕ) → prepend bs o ≡ Some s
    → (t : List ℕ) × (o ≡ Some t) × (bs ++ t ≡ s)
prepended bs None s is = absurd (cc)
prepended bs (Some t) s is = (t, refl, same_Some (bs ++ t) s is)

-- a character that an escape writes, and what comes after it
after_character : (n : ℕ) (bs xs p s : List ℕ) → Shorter n → length xs < n → IsUtf8 p → IsUtf8 bs
    → IsUtf8 xs → prepend bs (content plain xs) ≡ Some s → IsUtf8 (p ++ s)
after_character n bs xs p s each short before here later is =
    let t = prepended bs (content plain xs) s is in
    subst (λ x. IsUtf8 (p ++ x)) t.2
    (IsUtf8-append p (bs ++ t.0) before
    (IsUtf8-append bs t.0 here (each [] xs t.0 short later t.1)))

text_past_four : (a b c d u : ℕ) (xs : List ℕ) → FourDigits a b c d u
    → IsUtf8 (a ∷ b ∷ c ∷ d ∷ xs) → IsUtf8 xs
text_past_four a b c d u xs digits utf8 =
    text_past d xs digits.fourth
    (text_past c (d ∷ xs) digits.third
    (text_past b (c ∷ d ∷ xs) digits.second (text_past a (b ∷ c ∷ d ∷ xs) digits.first utf8)))

-- the low surrogate that comes after a high one, and what comes after both
high_half : (n h : ℕ) (xs p s : List ℕ) → Shorter n → length xs < n → is_high_surrogate h ≡ true
    → IsUtf8 p → IsUtf8 xs → content (after_high h) xs ≡ Some s → IsUtf8 (p ++ s)
unfolding content
high_half n h (x ∷ y ∷ a ∷ b ∷ c ∷ d ∷ xs) p s each short high before utf8 is =
    let marks = some_from_if ((x == char.backslash) && (y == char.letter_u)) _ s is in
    let both = and_parts (x == char.backslash) (y == char.letter_u) marks.0 in
    let first : x < 128 = let e = both.0 in grind (arith, nat_tests) in
    let second : y < 128 = let e = both.1 in grind (arith, nat_tests) in
    let unit = some_from_then _ (code_unit a b c d) s marks.1 in
    let low = some_from_if (is_low_surrogate unit.0) _ s unit.2 in
    after_character n (encode_utf8 (surrogate_pair h unit.0)) xs p s each (omega arith) before
    (IsUtf8-encode (surrogate_pair h unit.0) (pair_of h unit.0 high low.0))
    (text_past_four a b c d unit.0 xs (four_digits a b c d unit.0 unit.1)
    (text_past y (a ∷ b ∷ c ∷ d ∷ xs) second (text_past x (y ∷ a ∷ b ∷ c ∷ d ∷ xs) first utf8)))
    low.1
high_half n h xs p s each short high before utf8 is = absurd (cc)

by_surrogate : (t w : Bool) (n u : ℕ) (xs p s : List ℕ) → Shorter n → length xs < n → u < 65536
    → is_high_surrogate u ≡ t → is_low_surrogate u ≡ w → IsUtf8 p → IsUtf8 xs
    → cond t (content (after_high u) xs) (cond w None (prepend (encode_utf8 u) (content plain xs))) ≡
    Some s → IsUtf8 (p ++ s)
by_surrogate true w n u xs p s each short small high low before utf8 is =
    high_half n u xs p s each short high before utf8 is
by_surrogate false true n u xs p s each short small high low before utf8 is = absurd (cc)
by_surrogate false false n u xs p s each short small high low before utf8 is =
    after_character n (encode_utf8 u) xs p s each short before
    (IsUtf8-encode u (surrogate u small high low)) utf8 is

numbered_text : (n : ℕ) (xs p s : List ℕ) → Shorter n → length xs < n → IsUtf8 p → IsUtf8 xs
    → content after_u xs ≡ Some s → IsUtf8 (p ++ s)
unfolding content
numbered_text n (a ∷ b ∷ c ∷ d ∷ xs) p s each short before utf8 is =
    let unit = some_from_then _ (code_unit a b c d) s is in
    let digits = four_digits a b c d unit.0 unit.1 in
    by_surrogate (is_high_surrogate unit.0) (is_low_surrogate unit.0) n unit.0 xs p s each
    (omega arith) digits.small refl refl before (text_past_four a b c d unit.0 xs digits utf8)
    unit.2
numbered_text n xs p s each short before utf8 is = absurd (cc)

lettered_text : (n x : ℕ) (xs p s : List ℕ) → Shorter n → length xs < n → IsUtf8 p
    → IsUtf8 (x ∷ xs)
    → option_and_then (λ c. prepend (c ∷ []) (content plain xs)) (short_escape x) ≡ Some s
    → IsUtf8 (p ++ s)
lettered_text n x xs p s each short before utf8 is =
    let letter = some_from_then _ (short_escape x) s is in
    elim (cases_lt x 128) [
      | inl low ↦
          after_character n (letter.0 ∷ []) xs p s each short before
          (text_of_one letter.0 (short_low x low letter.0 letter.1)) (text_past x xs low utf8)
          letter.2
      | inr high ↦
          absurd (none-some letter.0 (sym (short_high x high) ∙ letter.1))
    ]

escape_text : (t : Bool) (n x : ℕ) (xs p s : List ℕ) → Shorter n → length xs < n
    → (x == char.letter_u) ≡ t
    → IsUtf8 p → IsUtf8 (x ∷ xs)
    → cond t (content after_u xs)
    (option_and_then (λ c. prepend (c ∷ []) (content plain xs)) (short_escape x)) ≡ Some s
    → IsUtf8 (p ++ s)
escape_text true n x xs p s each short mark before utf8 is =
    let low : x < 128 = grind (arith, nat_tests) in
    numbered_text n xs p s each short before (text_past x xs low utf8) is
escape_text false n x xs p s each short mark before utf8 is =
    lettered_text n x xs p s each short before utf8 is

escaped_text : (n : ℕ) (xs p s : List ℕ) → Shorter n → length xs < n → IsUtf8 p → IsUtf8 xs
    → content after_backslash xs ≡ Some s → IsUtf8 (p ++ s)
unfolding content
escaped_text n [] p s each short before utf8 is = absurd (cc)
escaped_text n (x ∷ xs) p s each short before utf8 is =
    escape_text (x == char.letter_u) n x xs p s each (omega arith) refl before utf8 is

-- the byte itself, and what comes after it
itself_text : (t : Bool) (n x : ℕ) (xs p s : List ℕ) → Shorter n → length xs < n
    → IsUtf8 (p ++ x ∷ xs) → cond t None (prepend (x ∷ []) (content plain xs)) ≡ Some s
    → IsUtf8 (p ++ s)
itself_text true n x xs p s each short utf8 is = absurd (cc)
itself_text false n x xs p s each short utf8 is =
    let t = prepended (x ∷ []) (content plain xs) s is in
    subst (λ y. IsUtf8 (p ++ y)) t.2
    (rw append_assoc at (each (p ++ x ∷ []) xs t.0 short (text_moved p x xs utf8) t.1))

by_byte : (t w : Bool) (n x : ℕ) (xs p s : List ℕ) → Shorter n → length xs < n
    → (x == char.double_quote) ≡ t
    → (x == char.backslash) ≡ w → IsUtf8 (p ++ x ∷ xs)
    → cond t (Some [])
    (cond w (content after_backslash xs)
    (cond (nat_lt x 32) None (prepend (x ∷ []) (content plain xs)))) ≡ Some s → IsUtf8 (p ++ s)
by_byte true w n x xs p s each short quote mark utf8 is =
    let low : x < 128 = grind (arith, nat_tests) in
    subst (λ y. IsUtf8 (p ++ y)) (same_Some [] s is) (rw append-nil (text_before p x xs low utf8))
by_byte false true n x xs p s each short quote mark utf8 is =
    let low : x < 128 = grind (arith, nat_tests) in
    escaped_text n xs p s each short (text_before p x xs low utf8) (text_after p x xs low utf8) is
by_byte false false n x xs p s each short quote mark utf8 is =
    itself_text (nat_lt x 32) n x xs p s each short utf8 is

contents : (n : ℕ) → Shorter n
unfolding content
contents zero p xs s short utf8 is = absurd (omega arith)
contents (suc n) p [] s short utf8 is = absurd (cc)
contents (suc n) p (x ∷ xs) s short utf8 is =
    by_byte (x == char.double_quote) (x == char.backslash) n x xs p s (contents n) (omega arith)
    refl refl utf8 is

-- the content of a string that begins a text is a text
pub content-IsUtf8 : (xs s : List ℕ) → IsUtf8 xs → content plain xs ≡ Some s → IsUtf8 s
content-IsUtf8 xs s utf8 is = contents (suc (length xs)) [] xs s (omega arith) utf8 is
