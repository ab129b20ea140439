-- Fronts of texts that are ASCII characters and no line feeds.
use Rattle.std.proofs.Common.{◌≡◌, ◌≤◌, ◌<◌, ◌+◌, ◌-◌, ◌==◌, ℕ, zero, suc, true, false, List, [], ◌∷◌, ◌++◌}
use Rattle.std.proofs.Common.{length, take, drop, get_or, nat_le, nat_lt, not, refl, ap, sym, subst, ◌∙◌, arith}
use Rattle.std.proofs.lemmas.Bool.Decides.{nat_tests}
use Rattle.std.proofs.lemmas.List.{get_or-take, length-take}
use Rattle.std.proofs.lemmas.List.Sums.{prefix_len-le-length, prefix_len_passes}
use Rattle.std.proofs.lemmas.Str.{IsCharBoundary-after_ascii, IsUtf8-past_char, chars_past_char, encode_ascii}
use Rattle.std.specs.Char.{encode_utf8, len_utf8}
use Rattle.std.specs.List.{prefix_len}
use Rattle.std.specs.Prelude.{IsCharBoundary, IsUtf8}
use Rattle.std.specs.Str.{chars}
use Rattle.jp_reading.specs.Forms.{AllPassing}
use Rattle.jp_reading.specs.Texts.{Text}
use Rattle.jp_reading.proofs.Conjunctions.{and-left}
use Rattle.jp_json.specs.Place.{front_of}
use Rattle.jp_json.specs.Private.Fronts.{IsBehindPlainFront, IsPlainFront, is_plain}
use Rattle.jp_json.proofs.Places.{IsPassed, passed-other}

plain-ascii : (c : ℕ) → is_plain c ≡ true → c < 128
plain-ascii c h = grind (arith, nat_tests)

plain-other : (c : ℕ) → is_plain c ≡ true → (c == 10) ≡ false
plain-other c h = grind (arith, nat_tests)

-- a byte that is such a character is the first of its text
pub first-plain : (b : ℕ) (bs : List ℕ) → IsUtf8 (b ∷ bs) → b < 128
    → (chars (b ∷ bs) ≡ b ∷ chars bs) × IsUtf8 bs
first-plain b bs utf8 low =
    let parts : b ∷ bs ≡ encode_utf8 b ++ bs = ap (λ t. t ++ bs) (sym (encode_ascii b low)) in
    (chars_past_char (b ∷ bs) bs b utf8 parts, IsUtf8-past_char (b ∷ bs) bs b utf8 parts)

-- the first bytes are the characters that they are
record IsCutAt (bs : List ℕ) (n : ℕ) : Type 0 where
  parts : chars bs ≡ take n bs ++ chars (drop n bs)
  size : length bs ≡ length (take n bs) + length (drop n bs)
  plain : AllPassing is_plain (take n bs)
  utf8 : IsUtf8 (drop n bs)

cut-at : (n : ℕ) (bs : List ℕ) → IsUtf8 bs → n ≤ length bs
    → ((k : ℕ) → k < n → is_plain (get_or bs k 0) ≡ true)
    → IsCutAt bs n
cut-at zero bs utf8 within passes =
    record { parts = refl; size = omega arith; plain = tt; utf8 = utf8 }
cut-at (suc n) [] utf8 within passes = absurd (omega arith)
cut-at (suc n) (b ∷ bs) utf8 within passes =
    let first = passes 0 (omega arith) in
    let step = first-plain b bs utf8 (plain-ascii b first) in
    let more = cut-at n bs step.1 (omega arith) (λ k early. passes (suc k) (omega arith)) in
    record {
      parts = step.0 ∙ ap (λ t. b ∷ t) more.parts;
      size = omega (arith, more.size);
      plain = (first, more.plain);
      utf8 = more.utf8;
    }

-- found in the first bytes of a text, of which there are at most so many
pub front-within : (text : List ℕ) (most cut size : ℕ) → cut ≤ length text → cut ≤ most
    → size ≡ prefix_len is_plain (take cut text)
    → IsPlainFront text most size
front-within text most cut size within few is =
    let bound : size ≤ cut =
    omega (arith, is, prefix_len-le-length is_plain (take cut text), length-take cut text) in
    record {
      few = omega (arith, bound, few);
      within = omega (arith, bound, within);
      passes = λ k early.
          ap is_plain (sym (get_or-take cut text k 0 (omega (arith, bound, early))))
          ∙ prefix_len_passes is_plain (take cut text) k 0 (omega (arith, is, early));
    }

pub behind-front : (text : List ℕ) (most size : ℕ) → IsUtf8 text → IsPlainFront text most size
    → IsBehindPlainFront text most (drop size text) × IsUtf8 (drop size text)
behind-front text most size utf8 h =
    let cut = cut-at size text utf8 h.within h.passes in (
      record {
        front = take size text;
        parts = cut.parts;
        size = cut.size;
        few = omega (arith, length-take size text, h.few);
        plain = cut.plain;
      },
      cut.utf8,
    )

-- a text may be cut behind them
pub front-boundary : (text : List ℕ) (most size : ℕ) → IsUtf8 text → IsPlainFront text most size → 0 < size
    → IsCharBoundary text size
front-boundary text most zero utf8 h some = absurd (omega arith)
front-boundary text most (suc n) utf8 h some =
    let same : n + 1 ≡ suc n = omega arith in
    subst (IsCharBoundary text) same (IsCharBoundary-after_ascii text n utf8 (omega (arith, h.within))
    (plain-ascii (get_or text n 0) (h.passes n (omega arith))))

some-before : (n : ℕ) → 1 ≤ n → nat_le 1 n ≡ true
some-before n h = grind (arith, nat_tests)

pub moved : (text rest : Text) (offset left less feeds since more : ℕ) → left ≡ less → since ≡ more
    → IsPassed text rest offset left feeds since
    → IsPassed text rest offset less feeds more
moved text rest offset left less feeds since more a b h =
    subst (λ x. IsPassed text rest offset x feeds more) a
    (subst (λ y. IsPassed text rest offset left feeds y) b h)

-- they are passed as characters of one byte each
pub passed-front : (text front rest : Text) (offset left feeds since : ℕ) → AllPassing is_plain front
    → length front ≤ left → IsPassed text (front ++ rest) offset left feeds since
    → IsPassed text rest offset (left - length front) feeds (since + length front)
passed-front text [] rest offset left feeds since plain few h =
    moved text rest offset left (left - 0) feeds since (since + 0) (omega arith) (omega arith) h
passed-front text (c ∷ front) rest offset left feeds since plain few h =
    let one : len_utf8 c ≡ 1 = rw (and-left (nat_lt c 128) (not (c == 10)) plain.0) refl in
    let fits : nat_le (len_utf8 c) left ≡ true = rw one (some-before left (omega (arith, few))) in
    let is : front_of left (c ∷ (front ++ rest)) ≡ c ∷ front_of (left - 1) (front ++ rest) =
    rw fits (ap (λ n. c ∷ front_of (left - n) (front ++ rest)) one) in
    let next = passed-other text (c ∷ (front ++ rest)) (front ++ rest) offset left (left - 1) feeds since c h is
    (plain-other c plain.0) in
    let more = passed-front text front rest offset (left - 1) feeds (since + 1) plain.1 (omega (arith, few)) next in
    moved text rest offset (left - 1 - length front) (left - length (c ∷ front)) feeds
    (since + 1 + length front) (since + length (c ∷ front)) (omega (arith, few)) (omega arith) more

-- over what is behind them
pub passed-behind : (text : Text) (after rest : List ℕ) (most offset left feeds since : ℕ)
    → IsBehindPlainFront after most rest → most ≤ left
    → IsPassed text (chars after) offset left feeds since
    → IsPassed text (chars rest) offset (left - (length after - length rest)) feeds
    (since + (length after - length rest))
passed-behind text after rest most offset left feeds since f few h =
    moved text (chars rest) offset (left - length f.front) (left - (length after - length rest)) feeds
    (since + length f.front) (since + (length after - length rest)) (omega (arith, f.size)) (omega (arith, f.size))
    (passed-front text f.front (chars rest) offset left feeds since f.plain (omega (arith, f.few))
    (subst (λ t. IsPassed text t offset left feeds since) f.parts h))
