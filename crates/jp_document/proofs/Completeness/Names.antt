-- The spelling of each name between quotes is a text of the rule of names: for completeness.
use Rattle.std.proofs.Common.{◌≡◌, ℕ, zero, suc, ◌/◌, ◌%◌, ◌<◌, ◌≤◌, nat_lt, true, false}
use Rattle.std.proofs.Common.{List, [], ◌∷◌, ◌++◌, length, get_or, inl, inr, refl, sym}
use Rattle.std.proofs.Common.{ap, subst, ◌∙◌, append_assoc, length-append, arith}
use Rattle.std.proofs.lemmas.Bool.{cases_Bool, cases_lt}
use Rattle.std.proofs.lemmas.Bool.Decides.{nat_tests}
use Rattle.std.proofs.lemmas.Str.{encode_ascii, length-encode, len_utf8_bounds}
use Rattle.std.specs.Char.{encode_utf8}
use Rattle.std.specs.List.{flat_map}
use Rattle.std.specs.Str.{encode_utf8_all}
use Rattle.jp_reading.specs.Characters as char
use Rattle.jp_reading.specs.Texts.{Text}
use Rattle.jp_reading.specs.Forms.{Form, ◌⌢◌, word}
use Rattle.jp_reading.proofs.Forms.HasForm.{HasForm, has-word, has-one, both, has-as, has-same}
use Rattle.jp_reading.proofs.Forms.HasForm.{has-all}
use Rattle.jp_reading.proofs.Forms.Joining.{ends-spelt}
use Rattle.jp_reading.proofs.Forms.Levels.{Only, Then}
use Rattle.jp_reading.proofs.Rules.Form.{left, right}
use Rattle.jp_document.specs.Private.PathRules.{is_letter, is_low_digit, is_hex_digit}
use Rattle.jp_document.specs.Private.PathRules as rule
use Rattle.jp_document.specs.Spelling.{spelling, hex_digit}
use Rattle.jp_document.proofs.Spellings.Encoded.{first-ascii, prefix-ascii, high-plain}
use Rattle.jp_document.proofs.Spellings.Encoded.{high-bytes, peel, spelling-low}
use Rattle.jp_document.proofs.Soundness.Names.{form_of, Hexchar}
use Rattle.jp_document.proofs.Spellings.Characters.{has_letter, Spelled, by_letter, by_number}
use Rattle.jp_document.proofs.Spellings.Characters.{by_itself, spelled, spelling_is, hex_digit_is}

-- ---- characters of names

low-digit : (c : ℕ) → c < 16 → has_letter c ≡ false → is_low_digit (hex_digit c) ≡ true
unfolding is_low_digit has_letter
low-digit c small none =
    elim (cases_Bool (nat_lt c 10)) [
      | inl e ↦ rw e (grind (arith, nat_tests))
      | inr e ↦ rw e (grind (arith, nat_tests))
    ]

low-hexchar-has : (c : ℕ) → c < 16 → has_letter c ≡ false
    → HasForm (Hexchar c) (char.digit_zero ∷ hex_digit c ∷ [])
low-hexchar-has c low none = has-as (λ s o h. left h)
    (both (has-word (char.digit_zero ∷ [])) (has-as
    (λ s o h. record { part = hex_digit c; same = sym (hex_digit_is c low).1; is = h })
    (has-one is_low_digit (hex_digit c) (low-digit c low none))))

high-hexchar-has : (c : ℕ) → 16 ≤ c → c < 32
    → HasForm (Hexchar c) (char.digit_one ∷ hex_digit (c % 16) ∷ [])
high-hexchar-has c above small =
    let digit = hex_digit_is (c % 16) (omega arith) in
    has-as (λ s o h. right h) (both (has-word (char.digit_one ∷ [])) (has-as
    (λ s o h. record {
      part = hex_digit (c % 16);
      same = (let e = digit.1 in omega arith);
      is = h;
    })
    (has-one is_hex_digit (hex_digit (c % 16)) digit.0)))

hexchar-has : (c : ℕ) → c < 32 → has_letter c ≡ false
    → HasForm (form_of rule.hexchar c)
    (char.digit_zero ∷ char.digit_zero ∷ hex_digit (c / 16) ∷ hex_digit (c % 16) ∷ [])
unfolding rule.hexchar
hexchar-has c small none =
    both (has-word (char.digit_zero ∷ []))
    (both (has-word (char.digit_zero ∷ [])) (elim (cases_lt c 16) [
      | inl low ↦
          let high : c / 16 ≡ 0 = omega arith in
          let last : c % 16 ≡ c = omega arith in
          has-same {P = Hexchar c} (rw (high, last) refl) (low-hexchar-has c low none)
      | inr above ↦
          let high : c / 16 ≡ 1 = omega arith in
          has-same {P = Hexchar c} (rw high refl) (high-hexchar-has c above small)
    ]))

spelled-has : (c : ℕ) (w : Text) → Spelled c w → HasForm (form_of rule.name_character c) w
unfolding rule.name_character rule.escape
spelled-has c w (by_letter e letter same is) =
    has-same (sym is) (has-as (λ s o h. left h)
    (both (has-word (char.backslash ∷ [])) (has-as
    (λ s o h. right (record { part = e; same = same; is = h }))
    (has-one is_letter e letter))))
spelled-has c w (by_number low none is) =
    has-same (sym is) (has-as (λ s o h. left h)
    (both (has-word (char.backslash ∷ [])) (has-as (λ s o h. left h)
    (both (has-word (char.letter_u ∷ [])) (hexchar-has c low none)))))
spelled-has c w (by_itself plain is) = has-same (sym is)
    (has-as (λ s o h. right h) (has-one rule.is_plain c plain))

pub enclosed-has : {A : Type 0} (F : A → Form) (a b : ℕ) (x : A) (t : Text) → HasForm (F x) t
    → HasForm (word (a ∷ []) ⌢ Then F (λ z y. word (b ∷ []) ⌢ Only z (word []) y) x)
    (a ∷ (t ++ b ∷ []))
enclosed-has F a b x t h =
    both (has-word (a ∷ [])) (has-as (λ s o g. ends-spelt F (word (b ∷ [])) (λ z. z) x s o _ g)
    (both h (has-word (b ∷ []))))

-- ---- names

-- the text begins with a text of the form, and these bytes are left after it
pub record Begins (P : Form) (t : Text) (w : List ℕ) : Type 0 where
  pub text : Text
  pub rest : Text
  pub is : t ≡ text ++ rest
  pub has : HasForm P text
  pub leaves : encode_utf8_all rest ≡ w

-- the characters of a name whose spelling stands before a quote
record Named (t : Text) (s w : List ℕ) : Type 0 where
  characters : Text
  bytes_are : encode_utf8_all characters ≡ s
  rest : Text
  is : t ≡ flat_map (spelling char.single_quote) characters ++ char.single_quote ∷ rest
  leaves : encode_utf8_all rest ≡ w

-- one character before them
named-more : (c : ℕ) (t u : Text) (s w : List ℕ) → t ≡ spelling char.single_quote c ++ u
    → Named u s w
    → Named t (encode_utf8 c ++ s) w
named-more c t u s w e more = record {
  characters = c ∷ more.characters;
  bytes_are = ap (λ x. encode_utf8 c ++ x) more.bytes_are;
  rest = more.rest;
  is = e ∙ ap (λ x. spelling char.single_quote c ++ x) more.is
      ∙ sym (append_assoc (spelling char.single_quote c)
      (flat_map (spelling char.single_quote) more.characters)
      (char.single_quote ∷ more.rest));
  leaves = more.leaves;
}

-- a byte that begins a longer character
high-named : (n b : ℕ) (t : Text) (s w : List ℕ) → 128 ≤ b → length (b ∷ s) ≤ suc n
    → encode_utf8_all t ≡ flat_map (spelling char.single_quote) (b ∷ s) ++ char.single_quote ∷ w
    → ((u : Text) (r : List ℕ) → length r ≤ n
    → encode_utf8_all u ≡ flat_map (spelling char.single_quote) r ++ char.single_quote ∷ w
    → Named u r w) → Named t (b ∷ s) w
high-named n b [] s w high short h from =
    absurd (let is : [] ≡ b ∷ (flat_map (spelling char.single_quote) s ++ char.single_quote ∷ w) =
    h ∙ ap (λ v. (v ++ flat_map (spelling char.single_quote) s) ++ char.single_quote ∷ w)
    (spelling_is b (b ∷ []) (by_itself (high-plain b high) refl)) in cc)
high-named n b (c ∷ u) s w high short h from =
    let is_high : 128 ≤ c = elim (cases_lt c 128) [
      | inl low ↦
          let first : c ≡ b = ap (λ t. get_or t 0 0)
          (ap (λ t. t ++ encode_utf8_all u) (sym (encode_ascii c low)) ∙ h
          ∙ ap (λ v. (v ++ flat_map (spelling char.single_quote) s) ++ char.single_quote ∷ w)
          (spelling_is b (b ∷ []) (by_itself (high-plain b high) refl))) in
          absurd (omega arith)
      | inr is ↦ is
    ] in
    let parts = peel (encode_utf8 c) (b ∷ s) (encode_utf8_all u) w (high-bytes c is_high) h in
    let shorter : length parts.0 ≤ n = omega (
      arith,
      ap length parts.1,
      length-append
          (encode_utf8 c) parts.0,
      length-encode c,
      (len_utf8_bounds c).0,
    ) in
    subst (λ (x : List ℕ). Named (c ∷ u) x w) (sym parts.1)
    (named-more c (c ∷ u) u parts.0 w
    (ap (λ v. v ++ u) (sym (spelling_is c (c ∷ []) (by_itself (high-plain c is_high) refl))))
    (from u parts.0 shorter parts.2))

named-by : (n : ℕ) (t : Text) (s w : List ℕ) → length s ≤ n
    → encode_utf8_all t ≡ flat_map (spelling char.single_quote) s ++ char.single_quote ∷ w
    → Named t s w
named-by n t [] w short h =
    let quote = first-ascii char.single_quote t w (omega arith) h in
    record { characters = []; bytes_are = refl; rest = quote.0; is = quote.1; leaves = quote.2 }
named-by zero t (b ∷ s) w short h = absurd (omega arith)
named-by (suc n) t (b ∷ s) w short h =
    elim (cases_lt b 128) [
      | inl low ↦
          let one = prefix-ascii (spelling char.single_quote b) t
          (flat_map (spelling char.single_quote) s ++ char.single_quote ∷ w)
          (spelling-low b low)
          (h ∙ append_assoc (spelling char.single_quote b) (flat_map (spelling char.single_quote) s)
          (char.single_quote ∷ w)) in
          subst (λ (v : List ℕ). Named t (v ++ s) w) (encode_ascii b low)
          (named-more b t one.0 s w one.1 (named-by n one.0 s w (omega arith) one.2))
      | inr high ↦ high-named n b t s w high short h (λ u r small e. named-by n u r w small e)
    ]

pub name-begins : (s : List ℕ) (t : Text) (w : List ℕ)
    → encode_utf8_all t ≡ char.single_quote ∷
    (flat_map (spelling char.single_quote) s ++ char.single_quote ∷ w)
    → Begins (form_of rule.name s) t w
unfolding rule.name rule.name_characters
name-begins s t w h =
    let quote = first-ascii char.single_quote t _ (omega arith) h in
    let n = named-by (length s) quote.0 s w (omega arith) quote.2 in
    let inner = flat_map (spelling char.single_quote) n.characters in
    record {
      text = char.single_quote ∷ (inner ++ char.single_quote ∷ []);
      rest = n.rest;
      is = quote.1 ∙ ap (λ x. char.single_quote ∷ x)
          (n.is ∙ sym (append_assoc inner (char.single_quote ∷ []) n.rest));
      has = enclosed-has (form_of rule.name_characters) char.single_quote char.single_quote s inner
          (has-as (λ s o g. record { part = n.characters; same = sym n.bytes_are; is = g })
          (has-all (form_of rule.name_character) (spelling char.single_quote)
          (λ c. spelled-has c (spelling char.single_quote c) (spelled c)) n.characters));
      leaves = n.leaves;
    }
