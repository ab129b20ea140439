-- What the rule of names takes is a name's spelling between quotes: for soundness.
use Rattle.std.proofs.Common.{◌≡◌, ◌*◌, ℕ, ◌+◌, ◌/◌, ◌%◌, ◌<◌, nat_lt, Bool, false, true, List}
use Rattle.std.proofs.Common.{[], ◌∷◌, ◌++◌, inl, inr, refl, sym, ap, subst, ◌∙◌, ◌≤◌, arith}
use Rattle.std.proofs.lemmas.Bool.{cases_Bool}
use Rattle.std.proofs.lemmas.Bool.Decides.{nat_tests}
use Rattle.std.proofs.lemmas.Str.{encodes-append}
use Rattle.std.specs.List.{flat_map}
use Rattle.std.specs.Str.{encode_utf8_all}
use Rattle.jp_reading.specs.Characters as char
use Rattle.jp_reading.specs.Texts.{Text, Spans}
use Rattle.jp_reading.specs.Forms.{Form, ◌⌢◌, word, One, Each}
use Rattle.jp_reading.proofs.States.Between.{Within}
use Rattle.jp_reading.proofs.Forms.Joining.{after-within, ends-within}
use Rattle.jp_reading.proofs.Forms.Levels.{Only, Then, Made}
use Rattle.jp_reading.proofs.Rules.Form.{Either, left, right, none_inside, form}
use Rattle.jp_document.specs.Private.PathRules.{nesting, PathRule}
use Rattle.jp_document.specs.Private.PathRules.{is_low_digit, is_hex_digit, hex_value}
use Rattle.jp_document.specs.Private.PathRules as rule
use Rattle.jp_document.specs.Spelling.{spelling, control, hex_digit}
use Rattle.jp_document.proofs.Spellings.Encoded.{encode-ascii, names-encode}
use Rattle.jp_document.proofs.Spellings.Characters.{has_letter, by_letter, by_number, by_itself}
use Rattle.jp_document.proofs.Spellings.Characters.{spelling_is}

-- the form of a rule of paths
abbrev pub form_of : {u : Bool} {A : Type 0} → PathRule u A → A → Form
form_of r x = form (none_inside nesting) r x

-- the text is w in UTF-8
pub record Written (w : List ℕ) (s : Spans) (o : ℕ) (t : Text) : Type 0 where
  pub is : encode_utf8_all t ≡ w

-- between two characters
pub enclosed : (a b : ℕ) (P : Form) (w : List ℕ) → a < 128 → b < 128 → Within P (Written w)
    → Within (word (a ∷ []) ⌢ P ⌢ word (b ∷ [])) (Written (a ∷ (w ++ b ∷ [])))
enclosed a b P w low below inside s o t h =
    let middle = (inside h.two.first_spans _ h.two.first h.two.one).is in
    record {
      is =
          ap encode_utf8_all h.is ∙ encodes-append h.first h.second
          ∙ ap (λ x. x ++ encode_utf8_all h.second)
          (ap encode_utf8_all h.one.is ∙ encode-ascii (a ∷ []) (low, tt))
          ∙ ap (λ x. a ∷ x) (ap encode_utf8_all h.two.is ∙ encodes-append h.two.first h.two.second
          ∙ ap (λ x. encode_utf8_all h.two.first ++ x)
          (ap encode_utf8_all h.two.two.is ∙ encode-ascii (b ∷ []) (below, tt))
          ∙ ap (λ x. x ++ b ∷ []) middle);
    }

-- the value of what is enclosed
pub enclosed-is : {A : Type 0} (F : A → Form) (a b : ℕ) (x : A)
    → Within (word (a ∷ []) ⌢ Then F (λ z y. word (b ∷ []) ⌢ Only z (word []) y) x)
    (word (a ∷ []) ⌢ F x ⌢ word (b ∷ []))
enclosed-is F a b x =
    after-within (word (a ∷ [])) _ (F x ⌢ word (b ∷ []))
    (λ s o t h. (let end = ends-within F (word (b ∷ [])) (λ z. z) x s o t h in
    subst (λ z. (F z ⌢ word (b ∷ [])) s o t) (sym end.same) end.is))

-- ---- characters of names

-- the digits of a number below 16, and of one from there on
abbrev pub Hexchar : ℕ → Form
Hexchar c =
    Either (word (char.digit_zero ∷ []) ⌢ Made hex_value (One is_low_digit) c)
    (word (char.digit_one ∷ []) ⌢ Made (λ d. 16 + hex_value d) (One is_hex_digit) c)

-- the number of a character that has no letter
record Numbered (c : ℕ) (s : Spans) (o : ℕ) (t : Text) : Type 0 where
  low : c < 32
  none : has_letter c ≡ false
  is : char.backslash ∷ char.letter_u ∷ t ≡ control c

low-number : (d : ℕ) → is_low_digit d ≡ true
    → (hex_value d < 16) × (has_letter (hex_value d) ≡ false) × (hex_digit (hex_value d) ≡ d)
unfolding is_low_digit hex_value has_letter
low-number d h =
    elim (cases_Bool (nat_lt d char.letter_a)) [
      | inl e ↦ rw e (grind (arith, nat_tests), grind (arith, nat_tests), grind (arith, nat_tests))
      | inr e ↦ rw e (grind (arith, nat_tests), grind (arith, nat_tests), grind (arith, nat_tests))
    ]

hex-number : (d : ℕ) → is_hex_digit d ≡ true → (hex_value d < 16) × (hex_digit (hex_value d) ≡ d)
unfolding is_hex_digit hex_value
hex-number d h =
    elim (cases_Bool (nat_lt d char.letter_a)) [
      | inl e ↦ rw e (grind (arith, nat_tests), grind (arith, nat_tests))
      | inr e ↦ rw e (grind (arith, nat_tests), grind (arith, nat_tests))
    ]

high-no_letter : (n : ℕ) → 16 ≤ n → has_letter n ≡ false
unfolding has_letter
high-no_letter n h = grind (arith, nat_tests)

control-is : (c a b : ℕ) → hex_digit (c / 16) ≡ a → hex_digit (c % 16) ≡ b
    → char.backslash ∷ char.letter_u ∷ char.digit_zero ∷ char.digit_zero ∷ a ∷ b ∷ [] ≡ control c
control-is c a b high low = rw (sym high, sym low) refl

by_digits : (c k a d : ℕ) (s : Spans) (o : ℕ) (t : Text) → c ≡ 16 * k + hex_value d → k < 2
    → hex_value d < 16 → hex_digit k ≡ a → hex_digit (hex_value d) ≡ d → has_letter c ≡ false
    → t ≡ char.digit_zero ∷ char.digit_zero ∷ a ∷ d ∷ [] → Numbered c s o t
by_digits c k a d s o t number high low first second none text =
    let quotient : c / 16 ≡ k = omega arith in
    let remainder : c % 16 ≡ hex_value d = omega arith in
    record {
      low = omega arith;
      none = none;
      is = ap (λ x. char.backslash ∷ char.letter_u ∷ x) text
          ∙ control-is c a d (ap hex_digit quotient ∙ first) (ap hex_digit remainder ∙ second);
    }

hexchar-within : (c : ℕ) → Within (form_of rule.hexchar c) (Numbered c)
unfolding rule.hexchar
hexchar-within c s o t h = way _ h.two.two
  where
    text : (u : Text) → h.two.second ≡ u → t ≡ char.digit_zero ∷ char.digit_zero ∷ u
    text u e = rw (h.is, h.one.is, h.two.is, h.two.one.is, e) refl

    way : (i : ℕ) → Hexchar c h.two.second_spans i h.two.second → Numbered c s o t
    way i (left g) =
        let d = g.two.part in
        let digit = low-number d g.two.is.passes in
        by_digits c 0 char.digit_zero d s o t (let e = g.two.same in omega arith)
        (omega arith) digit.0 refl digit.2
        (ap has_letter g.two.same ∙ digit.1)
        (text (char.digit_zero ∷ d ∷ []) (rw (g.is, g.one.is, g.two.is.is) refl))
    way i (right g) =
        let d = g.two.part in
        let digit = hex-number d g.two.is.passes in
        by_digits c 1 char.digit_one d s o t (let e = g.two.same in omega arith)
        (omega arith) digit.0 refl digit.1
        (high-no_letter c (let e = g.two.same in omega arith))
        (text (char.digit_one ∷ d ∷ []) (rw (g.is, g.one.is, g.two.is.is) refl))

-- what comes after a backslash, as it is spelled
record Escaped (c : ℕ) (s : Spans) (o : ℕ) (t : Text) : Type 0 where
  is : char.backslash ∷ t ≡ spelling char.single_quote c

escape-within : (c : ℕ) → Within (form_of rule.escape c) (Escaped c)
unfolding rule.escape
escape-within c s o t (left h) =
    let number = hexchar-within c h.second_spans _ h.second h.two in
    record {
      is = rw (h.is, h.one.is) number.is
          ∙ sym (spelling_is c (control c) (by_number number.low number.none refl));
    }
escape-within c s o t (right h) = record {
  is = rw h.is.is (sym (spelling_is c (char.backslash ∷ h.part ∷ [])
      (by_letter h.part h.is.passes h.same refl)));
}

-- a character, as it is spelled
record Spells (c : ℕ) (s : Spans) (o : ℕ) (t : Text) : Type 0 where
  is : t ≡ spelling char.single_quote c

character-within : (c : ℕ) → Within (form_of rule.name_character c) (Spells c)
unfolding rule.name_character
character-within c s o t (left h) =
    let escaped = escape-within c h.second_spans _ h.second h.two in
    record { is = rw (h.is, h.one.is) escaped.is }
character-within c s o t (right h) =
    record { is = h.is ∙ sym (spelling_is c (c ∷ []) (by_itself h.passes refl)) }

-- ---- names

characters-spelled : (cs : List ℕ) (s : Spans) (o : ℕ) (t : Text)
    → Each (λ c. form_of rule.name_character c) cs s o t → t
    ≡ flat_map (spelling char.single_quote) cs
characters-spelled [] s o t h = h.is
characters-spelled (c ∷ cs) s o t h =
    h.is ∙ ap (λ x. x ++ h.second) (character-within c h.first_spans o h.first h.one).is
    ∙ ap (λ x. spelling char.single_quote c ++ x)
    (characters-spelled cs h.second_spans _ h.second h.two)

characters-within : (n : List ℕ)
    → Within (form_of rule.name_characters n) (Written (flat_map (spelling char.single_quote) n))
unfolding rule.name_characters
characters-within n s o t h = record {
  is = ap encode_utf8_all (characters-spelled h.part s o t h.is) ∙ names-encode h.part
      ∙ ap (flat_map (spelling char.single_quote)) (sym h.same);
}

pub name-within : (n : List ℕ)
    → Within (form_of rule.name n)
    (Written (char.single_quote ∷ (flat_map (spelling char.single_quote) n
    ++ char.single_quote ∷ [])))
unfolding rule.name
name-within n s o t h =
    enclosed char.single_quote char.single_quote (form_of rule.name_characters n)
    (flat_map (spelling char.single_quote) n) (omega arith)
    (omega arith) (characters-within n) s o t
    (enclosed-is (form_of rule.name_characters) char.single_quote char.single_quote n s o t h)
