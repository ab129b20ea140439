-- A character of a name is spelled by a letter after `\`, by its number, or by itself: for paths
-- and for what spells names elsewhere.
use Rattle.std.proofs.Common.{◌≡◌, ◌≢◌, ℕ, ◌<◌, ◌≤◌, ◌==◌, eqb, nat_lt, Bool, true, false, ◌||◌}
use Rattle.std.proofs.Common.{List, [], ◌∷◌, inl, inr, refl, sym, ap, subst, ◌∙◌, arith}
use Rattle.std.proofs.lemmas.Bool.{cases_Bool, eqb-false, eqb-true, not-true, or_parts}
use Rattle.std.proofs.lemmas.Bool.Decides.{nat_tests}
use Rattle.jp_reading.specs.Characters as char
use Rattle.jp_document.specs.Spelling.{spelling, control, hex_digit}
use Rattle.jp_document.specs.Private.PathRules.{is_plain, is_letter, meant}
use Rattle.jp_document.specs.Private.PathRules.{is_low_digit, is_hex_digit, hex_value}

-- whether a character below U+0020 has a letter
unfoldable pub has_letter : ℕ → Bool
has_letter c = c == char.backspace || c == char.tab || c == char.line_feed || c == char.form_feed
    || c == char.carriage_return

pub data Spelled (c : ℕ) (w : List ℕ) : Type 0 where
  by_letter : (e : ℕ) → is_letter e ≡ true → c ≡ meant e → w ≡ char.backslash ∷ e ∷ [] → Spelled c w
  by_number : c < 32 → has_letter c ≡ false → w ≡ control c → Spelled c w
  by_itself : is_plain c ≡ true → w ≡ c ∷ [] → Spelled c w

-- What holds of each character with a letter, of the quote and of `\` after a `\`, of the other
-- characters below U+0020 by their number, and of all others by themselves, holds of every
-- character as it is spelled.
pub each_spelling : (P : ℕ → List ℕ → Type 0)
    → P char.backspace (char.backslash ∷ char.letter_b ∷ [])
    → P char.tab (char.backslash ∷ char.letter_t ∷ [])
    → P char.line_feed (char.backslash ∷ char.letter_n ∷ [])
    → P char.form_feed (char.backslash ∷ char.letter_f ∷ [])
    → P char.carriage_return (char.backslash ∷ char.letter_r ∷ [])
    → P char.single_quote (char.backslash ∷ char.single_quote ∷ [])
    → P char.backslash (char.backslash ∷ char.backslash ∷ [])
    → ((c : ℕ) → c < 32 → has_letter c ≡ false → P c (control c))
    → ((c : ℕ) → 32 ≤ c → c ≢ char.single_quote → c ≢ char.backslash → P c (c ∷ []))
    → (c : ℕ) → P c (spelling char.single_quote c)
unfolding spelling has_letter
each_spelling P backspace tab line feed return quote slash number itself c =
    let Q : ℕ → Type 0 = λ x. P x (spelling char.single_quote x) in
    elim (cases_Bool (eqb c char.backspace)) [
      | inl e ↦ subst Q (sym (eqb-true c char.backspace e)) backspace
      | inr a ↦ elim (cases_Bool (eqb c char.tab)) [
        | inl e ↦ subst Q (sym (eqb-true c char.tab e)) tab
        | inr b ↦ elim (cases_Bool (eqb c char.line_feed)) [
          | inl e ↦ subst Q (sym (eqb-true c char.line_feed e)) line
          | inr d ↦ elim (cases_Bool (eqb c char.form_feed)) [
            | inl e ↦ subst Q (sym (eqb-true c char.form_feed e)) feed
            | inr f ↦ elim (cases_Bool (eqb c char.carriage_return)) [
              | inl e ↦ subst Q (sym (eqb-true c char.carriage_return e)) return
              | inr g ↦ elim (cases_Bool (eqb c char.single_quote)) [
                | inl e ↦ subst Q (sym (eqb-true c char.single_quote e)) quote
                | inr h ↦ elim (cases_Bool (eqb c char.backslash)) [
                  | inl e ↦ subst Q (sym (eqb-true c char.backslash e)) slash
                  | inr k ↦ elim (cases_Bool (nat_lt c 32)) [
                    | inl e ↦
                        subst (P c) (sym (rw (a, b, d, f, g, h, k, e) refl))
                        (number c (grind (arith, nat_tests)) (rw (a, b, d, f, g) refl))
                    | inr e ↦
                        subst (P c) (sym (rw (a, b, d, f, g, h, k, e) refl))
                        (itself c (grind (arith, nat_tests)) (eqb-false c char.single_quote h)
                        (eqb-false c char.backslash k))
                  ]
                ]
              ]
            ]
          ]
        ]
      ]
    ]

plain : (c : ℕ) → 32 ≤ c → c ≢ char.single_quote → c ≢ char.backslash → is_plain c ≡ true
unfolding is_plain
plain c high quote slash = grind (arith, nat_tests)

-- each character is spelled in one of the three ways
pub spelled : (c : ℕ) → Spelled c (spelling char.single_quote c)
unfolding is_letter meant
spelled =
    each_spelling (λ c w. Spelled c w) (by_letter char.letter_b refl refl refl)
    (by_letter char.letter_t refl refl refl) (by_letter char.letter_n refl refl refl)
    (by_letter char.letter_f refl refl refl) (by_letter char.letter_r refl refl refl)
    (by_letter char.single_quote refl refl refl) (by_letter char.backslash refl refl refl)
    (λ c low none. by_number low none refl)
    (λ c high quote slash. by_itself (plain c high quote slash) refl)

-- what holds of a character and of those before it in a row of tests holds where one test passes
one_of : (P : ℕ → Type 0) (e a : ℕ) (before : Bool) → P a → (before ≡ true → P e)
    → (before || eqb e a) ≡ true → P e
one_of P e a true here earlier is = earlier refl
one_of P e a false here earlier is = subst P (sym (eqb-true e a is)) here

letter : (e : ℕ) → is_letter e ≡ true → spelling char.single_quote (meant e)
    ≡ char.backslash ∷ e ∷ []
unfolding spelling is_letter meant
letter e =
    let P : ℕ → Type 0 = λ x. spelling char.single_quote (meant x) ≡ char.backslash ∷ x ∷ [] in
    one_of P e char.backslash _ refl
    (one_of P e char.single_quote _ refl
    (one_of P e char.letter_r _ refl (one_of P e char.letter_f _ refl
    (one_of P e char.letter_n _ refl (one_of P e char.letter_t _ refl
    (λ first. subst P (sym (eqb-true e char.letter_b first)) refl))))))

numbered : (c : ℕ) → c < 32 → has_letter c ≡ false → spelling char.single_quote c ≡ control c
unfolding spelling has_letter
numbered c low none =
    let p = or_parts (eqb c char.backspace || eqb c char.tab || eqb c char.line_feed
    || eqb c char.form_feed) (eqb c char.carriage_return) none in
    let q = or_parts (eqb c char.backspace || eqb c char.tab || eqb c char.line_feed)
    (eqb c char.form_feed) p.0 in
    let r = or_parts (eqb c char.backspace || eqb c char.tab) (eqb c char.line_feed) q.0 in
    let s = or_parts (eqb c char.backspace) (eqb c char.tab) r.0 in
    let below : nat_lt c 32 ≡ true = grind (arith, nat_tests) in
    let quote : eqb c char.single_quote ≡ false = grind (arith, nat_tests) in
    let slash : eqb c char.backslash ≡ false = grind (arith, nat_tests) in
    rw (s.0, s.1, r.1, q.1, p.1, quote, slash, below) refl

itself : (c : ℕ) → is_plain c ≡ true → spelling char.single_quote c ≡ c ∷ []
unfolding spelling is_plain
itself c plain =
    let p =
    or_parts (nat_lt c 32 || eqb c char.single_quote) (eqb c char.backslash)
    (not-true (nat_lt c 32 || eqb c char.single_quote || eqb c char.backslash) plain) in
    let q = or_parts (nat_lt c 32) (eqb c char.single_quote) p.0 in
    let above = q.0 in
    let a : eqb c char.backspace ≡ false = grind (arith, nat_tests) in
    let b : eqb c char.tab ≡ false = grind (arith, nat_tests) in
    let d : eqb c char.line_feed ≡ false = grind (arith, nat_tests) in
    let e : eqb c char.form_feed ≡ false = grind (arith, nat_tests) in
    let f : eqb c char.carriage_return ≡ false = grind (arith, nat_tests) in
    rw (a, b, d, e, f, q.1, p.1, above) refl

-- and what is so is its spelling
pub spelling_is : (c : ℕ) (w : List ℕ) → Spelled c w → spelling char.single_quote c ≡ w
spelling_is c w (by_letter e l m is) = ap (spelling char.single_quote) m ∙ letter e l ∙ sym is
spelling_is c w (by_number low none is) = numbered c low none ∙ sym is
spelling_is c w (by_itself plain is) = itself c plain ∙ sym is

-- ---- hexadecimal digits

pub low-hex : (d : ℕ) → is_low_digit d ≡ true → is_hex_digit d ≡ true
unfolding is_low_digit is_hex_digit
low-hex d h = grind (arith, nat_tests)

pub hex_digit_is : (n : ℕ) → n < 16
    → (is_hex_digit (hex_digit n) ≡ true) × (hex_value (hex_digit n) ≡ n)
unfolding is_hex_digit hex_value
hex_digit_is n small =
    elim (cases_Bool (nat_lt n 10)) [
      | inl e ↦ rw e (grind (arith, nat_tests), grind (arith, nat_tests))
      | inr e ↦ rw e (grind (arith, nat_tests), grind (arith, nat_tests))
    ]
