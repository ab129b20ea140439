-- Where bytes may be cut without cutting a character.
use Rattle.std.proofs.Common.{◌≡◌, ◌≤◌, ◌<◌, ℕ, List, [], ◌∷◌, ◌++◌, length, take, drop, get_or}
use Rattle.std.proofs.Common.{sym, ap, subst, ◌∙◌, arith}
use Rattle.std.proofs.lemmas.List.{drop_at, get_or-take, length-append, length-take, take-take}
use Rattle.std.proofs.lemmas.Str.{IsCharBoundary-before_ascii, IsCharBoundary-end}
use Rattle.std.proofs.lemmas.Str.{IsCharBoundary-from_rest, IsCharBoundary-start, IsUtf8-nil}
use Rattle.std.proofs.lemmas.Str.{IsUtf8-past_char, IsUtf8-take, chars_past_char}
use Rattle.std.proofs.lemmas.Str.{encodes-chars, length-encode}
use Rattle.std.specs.Char.{encode_utf8, len_utf8}
use Rattle.std.specs.Prelude.{IsUtf8, IsCharBoundary}
use Rattle.std.specs.Str.{chars, encode_utf8_all}
use Rattle.jp_reading.specs.Texts.{Text, bytes}
use Rattle.jp_json.specs.Misreading.{IsPlaceIn}

-- before all of them
pub place-start : (bs : List ℕ) → IsPlaceIn bs 0
place-start bs = record { within = omega arith; before = IsUtf8-nil }

-- before an ASCII character
pub place-ascii : (bs : List ℕ) (place : ℕ) → IsUtf8 bs → place < length bs
    → get_or bs place 0 < 128 → IsPlaceIn bs place
place-ascii bs place utf8 within low = record {
  within = omega (arith, within);
  before = IsUtf8-take bs place utf8 (IsCharBoundary-before_ascii bs place within low);
}

-- before an ASCII character that is found in the first bytes, from another one on
pub place-found : (bs : List ℕ) (start end place : ℕ) → IsUtf8 bs → start < end → end ≤ length bs
    → get_or bs start 0 < 128
    → (get_or (take end bs) start 0 < 128 → (place < length (take end bs))
    × (get_or (take end bs) place 0 < 128))
    → IsPlaceIn bs place
place-found bs start end place utf8 before within low found =
    let first = get_or-take end bs start 0 before in
    let there = found (omega (arith, first, low)) in
    let short = length-take end bs in
    let early : place < end = omega (arith, short, there.0) in
    let same = get_or-take end bs place 0 early in
    place-ascii bs place utf8 (omega (arith, early, within)) (omega (arith, same, there.1))

-- after some characters
after-characters : (front rest : Text) (bs : List ℕ) → IsUtf8 bs → chars bs ≡ front ++ rest
    → IsCharBoundary bs (bytes front)
after-characters [] rest bs utf8 is = IsCharBoundary-start bs utf8
after-characters (c ∷ front) rest bs utf8 is =
    IsCharBoundary-from_rest bs (len_utf8 c) (bytes front) long
    (subst (λ x. IsCharBoundary x (bytes front)) (sym later) (after-characters front rest more more-utf8 more-chars))
  where
    more : List ℕ
    more = encode_utf8_all (front ++ rest)

    parts : bs ≡ encode_utf8 c ++ more
    parts = sym (encodes-chars bs utf8) ∙ ap encode_utf8_all is

    more-utf8 : IsUtf8 more
    more-utf8 = IsUtf8-past_char bs more c utf8 parts

    more-chars : chars more ≡ front ++ rest
    more-chars = ap (drop 1) (sym (chars_past_char bs more c utf8 parts) ∙ is)

    later : drop (len_utf8 c) bs ≡ more
    later = ap (drop (len_utf8 c)) parts ∙ drop_at (encode_utf8 c) more (len_utf8 c) (length-encode c)

    long : len_utf8 c ≤ length bs
    long = omega (arith, ap length parts, length-append (encode_utf8 c) more, length-encode c)

-- a place in the first bytes is one in all of them
pub place-further : (bs text : List ℕ) (n place : ℕ) → text ≡ take n bs → IsPlaceIn text place
    → IsPlaceIn bs place
place-further bs text n place is h =
    let long = ap length is ∙ length-take n bs in
    let early : place ≤ n = omega (arith, long, h.within) in
    record {
      within = omega (arith, long, h.within);
      before = subst IsUtf8 (ap (take place) is ∙ take-take place n bs early) h.before;
    }

-- after the characters that are read
pub place-read : (text : List ℕ) (front rest : Text) → IsUtf8 text → chars text ≡ front ++ rest
    → IsPlaceIn text (bytes front)
place-read text front rest utf8 is =
    let cut = after-characters front rest text utf8 is in
    record { within = cut.0; before = IsUtf8-take text (bytes front) utf8 cut }

-- after all of them
pub place-end : (text : List ℕ) → IsUtf8 text → IsPlaceIn text (length text)
place-end text utf8 = record {
  within = omega arith;
  before = IsUtf8-take text (length text) utf8 (IsCharBoundary-end text);
}
