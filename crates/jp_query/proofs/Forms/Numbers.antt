-- The rules of numbers, literals and operators take exactly the texts that the grammar says.
use Rattle.std.proofs.Common.{◌≡◌, ℕ, ◌+◌, ◌==◌, Bool, true, false, [], ◌∷◌, ◌++◌, refl, sym, ap}
use Rattle.std.proofs.Common.{subst, ◌∙◌, arith}
use Rattle.std.proofs.lemmas.Bool.Decides.{nat_tests}
use Rattle.std.specs.Prelude.{codes}
use Rattle.jp_reading.specs.Characters as char
use Rattle.jp_reading.specs.Texts.{Spans, Text, bytes}
use Rattle.jp_reading.specs.Forms.{Each, Form, One, ◌⌢◌, word}
use Rattle.jp_reading.specs.Numbers.{is_digit, is_leading_digit, value_from}
use Rattle.jp_reading.proofs.States.Between.{Within, joined-both}
use Rattle.jp_reading.proofs.Forms.Levels.{Only, Made, joined-lifts}
use Rattle.jp_reading.proofs.Forms.Same.{Same, same, ways, ◌⨾◌, after, joined, either, only, made}
use Rattle.jp_reading.proofs.Forms.Same.{then}
use Rattle.jp_reading.proofs.Forms.Same.{words, after-either, after-made, after-only}
use Rattle.jp_reading.proofs.Forms.Same.{after-value, made-made, then-made}
use Rattle.jp_reading.proofs.Rules.Form.{Either, left, right, Inside, form}
use Rattle.jp_tree.specs.declared.tree.Numeral.{Numeral}
use Rattle.jp_tree.specs.declared.tree.Op.{Op}
use Rattle.jp_tree.specs.declared.tree.Op.TheVariants.{Equal, Unequal, Less, LessEqual, Greater}
use Rattle.jp_tree.specs.declared.tree.Op.TheVariants.{GreaterEqual}
use Rattle.jp_tree.specs.Tree.{LiteralTree, text, number as number_literal}
use Rattle.jp_reading.specs.Characters.{double_quote, single_quote}
use Rattle.jp_query.specs.Strings.{Quoted, in_double, in_single}
use Rattle.jp_query.specs.Ints.{Unsigned, Int, whole_of, zero_int, positive_int, negative_int}
use Rattle.jp_query.specs.Literals.{Optional, left_out, written, DigitSequence, Decimals, decimals}
use Rattle.jp_query.specs.Literals.{Exponent, unsigned, signed, Mantissa, whole, minus_zero, Number}
use Rattle.jp_query.specs.Literals.{is_e, is_sign, number, number_in, numeral, spelling}
use Rattle.jp_query.specs.Private.Rules.{nesting}
use Rattle.jp_query.specs.Private.Rules as rule
use Rattle.jp_query.proofs.Forms.Strings.{quoted-same}

-- ---- the text of a form

-- each text of the form is w
abbrev HasText : Form → Text → Type 0
HasText P w = (s : Spans) (o : ℕ) (t : Text) → P s o t → t ≡ w

pub word-text : (w : Text) → HasText (word w) w
word-text w s o t h = h.is

one-text : (ok : ℕ → Bool) (c : ℕ) → HasText (One ok c) (c ∷ [])
one-text ok c s o t h = h.is

pub joined-text : {P Q : Form} {v w : Text} → HasText P v → HasText Q w → HasText (P ⌢ Q) (v ++ w)
joined-text f g s o t h =
    h.is ∙ (λ i. f h.first_spans o h.first h.one i ++ g h.second_spans (o + bytes h.first) h.second h.two i)

each-text : (ok : ℕ → Bool) (cs : Text) → HasText (Each (One ok) cs) cs
each-text ok [] = word-text []
each-text ok (c ∷ cs) = joined-text (one-text ok c) (each-text ok cs)

pub unsigned-text : (c : ℕ) (more : Text) → HasText (Unsigned c more) (c ∷ more)
unsigned-text c more = joined-text (one-text is_leading_digit c) (each-text is_digit more)

sequence-text : (c : ℕ) (more : Text) → HasText (DigitSequence c more) (c ∷ more)
sequence-text c more = joined-text (one-text is_digit c) (each-text is_digit more)

-- the text w, which has the form
pub record Exactly (w : Text) (P : Form) (s : Spans) (o : ℕ) (t : Text) : Type 0 where
  pub text : t ≡ w
  pub is : P s o t

exactly-text : (w : Text) {P : Form} → HasText (Exactly w P) w
exactly-text w s o t h = h.text

exactly-is : (w : Text) {P : Form} → Within (Exactly w P) P
exactly-is w s o t h = h.is

-- ---- what the text of a part tells

pub leading-integer : (c : ℕ) (more : Text) → is_leading_digit c ≡ true
    → rule.integer_of (c ∷ more) ≡ whole_of (value_from 0 (c ∷ more))
leading-integer c more is =
    let other : (c == char.minus) ≡ false = grind (arith, nat_tests) in
    rw other refl

mantissa-value : (y : Numeral) (s : Spans) (o : ℕ) (t : Text) → Mantissa y s o t
    → y ≡ rule.integer_of t
mantissa-value y s o t (minus_zero e h) = e ∙ ap rule.integer_of (sym h.is)
mantissa-value y s o t (whole (zero_int e h)) = e ∙ ap rule.integer_of (sym h.is)
mantissa-value y s o t (whole (positive_int c more e h)) =
    e ∙ sym (leading-integer c more h.one.passes)
    ∙ ap rule.integer_of (sym (unsigned-text c more s o t h))
mantissa-value y s o t (whole (negative_int c more e h)) =
    e ∙ ap rule.integer_of (sym (joined-text (word-text (codes "-")) (unsigned-text c more) s o t h))

-- a text of the form has a character
abbrev IsSomeText : Form → Type 0
IsSomeText P = (s : Spans) (o : ℕ) (t : Text) → P s o t → rule.is_some t ≡ true

decimals-some : IsSomeText Decimals
decimals-some s o t (decimals c more h) =
    ap rule.is_some (joined-text (word-text (codes ".")) (sequence-text c more) s o t h)

exponent-some : IsSomeText Exponent
exponent-some s o t (unsigned e c more h) =
    ap rule.is_some (joined-text (one-text is_e e) (sequence-text c more) s o t h)
exponent-some s o t (signed e sign c more h) =
    ap rule.is_some (joined-text (one-text is_e e)
    (joined-text (one-text is_sign sign) (sequence-text c more)) s o t h)

optional-value : (P : Form) → IsSomeText P → (there : Bool) (s : Spans) (o : ℕ) (t : Text)
    → Optional P there s o t
    → there ≡ rule.is_some t
optional-value P some there s o t (left_out e h) = e ∙ ap rule.is_some (sym h.is)
optional-value P some there s o t (written e h) = e ∙ sym (some s o t h)

module _ (F : Inside nesting) where
  -- ---- whole numbers

  -- digits without a leading zero, and the number that they write
  abbrev Sized : ℕ → Form
  Sized = Made (λ (p : ℕ × Text). value_from 0 (p.0 ∷ p.1)) (λ p. Unsigned p.0 p.1)

  size-same : (n : ℕ) → Same (form F rule.size n) (Sized n)
  unfolding rule.size
  size-same n = then-made

  pub int-same : (x : Numeral) → Same (form F rule.int x) (Int x)
  unfolding rule.int rule.unsigned
  int-same x =
      either (after (made size-same ⨾ made-made) ⨾ after-made)
      (either after-value (made size-same ⨾ made-made))
      ⨾ record {
        to = ways (λ s o t h. negative_int h.part.0 h.part.1 h.same h.is)
            (ways (λ s o t h. zero_int h.same h.is)
            (λ s o t h. positive_int h.part.0 h.part.1 h.same h.is));
        from = λ s o t h. elim h [
          | negative_int c more e g ↦ left (record { part = (c, more); same = e; is = g })
          | zero_int e g ↦ right (left (record { same = e; is = g }))
          | positive_int c more e g ↦ right (right (record { part = (c, more); same = e; is = g }))
        ];
      }

  -- ---- numbers

  -- a zero, or digits without a leading one
  abbrev IntDigits : Text → Form
  IntDigits ds =
      Either (Only (char.digit_zero ∷ []) (word (codes "0")) ds)
      (Made (λ (p : ℕ × Text). p.0 ∷ p.1) (λ p. Unsigned p.0 p.1) ds)

  int_digits-same : (ds : Text) → Same (form F rule.int_digits ds) (IntDigits ds)
  unfolding rule.int_digits
  int_digits-same ds = either after-value then-made

  pub mantissa-same : (a : Text)
      → Same (form F rule.mantissa a) (Exactly a (Mantissa (rule.integer_of a)))
  unfolding rule.mantissa
  mantissa-same a =
      either (after (made int_digits-same) ⨾ after-made) (int_digits-same a)
      ⨾ record { to = ways signed unsigned_to; from = λ s o t h. mantissa-from a s o t h.text h.is }
    where
      signed-zero : (ds : Text) → a ≡ char.minus ∷ ds → (s : Spans) (o : ℕ) (t : Text)
          → Only (char.digit_zero ∷ []) (word (codes "-") ⌢ word (codes "0")) ds s o t
          → Exactly a (Mantissa (rule.integer_of a)) s o t
      signed-zero ds e s o t h =
          let all : a ≡ codes "-0" = e ∙ ap (λ w. char.minus ∷ w) h.same in
          let w = (words (codes "-") (codes "0")).to s o t h.is in
          record { text = w.is ∙ sym all; is = minus_zero (ap rule.integer_of all) w }

      signed-digits : (ds : Text) → a ≡ char.minus ∷ ds → (s : Spans) (o : ℕ) (t : Text)
          → Made (λ (p : ℕ × Text). p.0 ∷ p.1) (λ p. word (codes "-") ⌢ Unsigned p.0 p.1) ds s o t
          → Exactly a (Mantissa (rule.integer_of a)) s o t
      signed-digits ds e s o t h =
          let all : a ≡ char.minus ∷ h.part.0 ∷ h.part.1 = e ∙ ap (λ w. char.minus ∷ w) h.same in
          record {
            text = joined-text (word-text (codes "-")) (unsigned-text h.part.0 h.part.1) s o t h.is
                ∙ sym all;
            is = whole (negative_int h.part.0 h.part.1 (ap rule.integer_of all) h.is);
          }

      signed : Within (Made (λ ds. char.minus ∷ ds) (λ ds. word (codes "-") ⌢ IntDigits ds) a)
          (Exactly a (Mantissa (rule.integer_of a)))
      signed s o t h =
          elim (after-either.to s o t h.is) [
            | left g ↦ signed-zero h.part h.same s o t (after-only.to s o t g)
            | right g ↦ signed-digits h.part h.same s o t (after-made.to s o t g)
          ]

      unsigned_to : Within (IntDigits a) (Exactly a (Mantissa (rule.integer_of a)))
      unsigned_to = ways
          (λ s o t h. record {
            text = h.is.is ∙ sym h.same;
            is = whole (zero_int (ap rule.integer_of h.same) h.is);
          })
          (λ s o t h. record {
            text = unsigned-text h.part.0 h.part.1 s o t h.is ∙ sym h.same;
            is = whole (positive_int h.part.0 h.part.1
                (ap rule.integer_of h.same ∙ leading-integer h.part.0 h.part.1 h.is.one.passes) h.is);
          })

      mantissa-from : (w : Text) (s : Spans) (o : ℕ) (t : Text) → t ≡ w
          → Mantissa (rule.integer_of w) s o t
          → Either (Made (λ ds. char.minus ∷ ds) (λ ds. word (codes "-") ⌢ IntDigits ds) w)
          (IntDigits w) s o t
      mantissa-from w s o t e (minus_zero g h) =
          left (record {
            part = codes "0";
            same = sym e ∙ h.is;
            is = after-either.from s o t (left (after-only.from s o t
                (record { same = refl; is = (words (codes "-") (codes "0")).from s o t h })));
          })
      mantissa-from w s o t e (whole (zero_int g h)) = right (left (record { same = sym e ∙ h.is; is = h }))
      mantissa-from w s o t e (whole (positive_int c more g h)) =
          right (right (record {
            part = (c, more);
            same = sym e ∙ unsigned-text c more s o t h;
            is = h;
          }))
      mantissa-from w s o t e (whole (negative_int c more g h)) =
          left (record {
            part = c ∷ more;
            same = sym e ∙ joined-text (word-text (codes "-")) (unsigned-text c more) s o t h;
            is = after-either.from s o t (right (after-made.from s o t
                (record { part = (c, more); same = refl; is = h })));
          })

  -- digits, at least one
  abbrev SomeDigits : Text → Form
  SomeDigits = Made (λ (p : ℕ × Text). p.0 ∷ p.1) (λ p. DigitSequence p.0 p.1)

  digits-same : (ds : Text) → Same (form F rule.digits ds) (SomeDigits ds)
  unfolding rule.digits
  digits-same ds = then-made

  decimals-same : (b : Text)
      → Same (form F rule.decimals b) (Exactly b (Optional Decimals (rule.is_some b)))
  unfolding rule.decimals
  decimals-same b =
      either (after (made digits-same ⨾ made-made) ⨾ after-made) same
      ⨾ record {
        to = ways
            (λ s o t h. record {
              text = joined-text (word-text (codes ".")) (sequence-text h.part.0 h.part.1) s o t h.is
                  ∙ sym h.same;
              is = written (ap rule.is_some h.same) (decimals h.part.0 h.part.1 h.is);
            })
            (λ s o t h. record {
              text = h.is.is ∙ sym h.same;
              is = left_out (ap rule.is_some h.same) h.is;
            });
        from = λ s o t h. elim h.is [
          | left_out e g ↦ right (record { same = sym h.text ∙ g.is; is = g })
          | written e g ↦ elim g [
            | decimals c more k ↦ left (record {
              part = (c, more);
              same = sym h.text
                  ∙ joined-text (word-text (codes ".")) (sequence-text c more) s o t k;
              is = k;
            })
          ]
        ];
      }

  exponent-same : (c : Text)
      → Same (form F rule.exponent c) (Exactly c (Optional Exponent (rule.is_some c)))
  unfolding rule.exponent rule.power
  exponent-same w =
      either (then
      (λ e z. after (made (λ v. either (then (λ sign u. after (made digits-same ⨾ made-made)) ⨾ then-made)
      (digits-same v))))
      ⨾ then-made) same
      ⨾ record { to = ways exponent-to left_out-to; from = exponent-from }
    where
      Signed : Text → Form
      Signed = Made (λ (p : ℕ × (ℕ × Text)). p.0 ∷ p.1.0 ∷ p.1.1)
          (λ p. One is_sign p.0 ⌢ DigitSequence p.1.0 p.1.1)

      Powers : Form
      Powers = Made (λ (p : ℕ × Text). p.0 ∷ p.1)
          (λ p. One is_e p.0 ⌢ Either (Signed p.1) (SomeDigits p.1)) w

      Target : Form
      Target = Exactly w (Optional Exponent (rule.is_some w))

      exponent-to : Within Powers Target
      exponent-to s o t h = elim (after-either.to s o t h.is) [
        | left g ↦
            let k = after-made.to s o t g in
            let all : w ≡ h.part.0 ∷ k.part.0 ∷ k.part.1.0 ∷ k.part.1.1 =
            h.same ∙ ap (λ u. h.part.0 ∷ u) k.same in
            record {
              text = joined-text (one-text is_e h.part.0) (joined-text (one-text is_sign k.part.0)
                  (sequence-text k.part.1.0 k.part.1.1)) s o t k.is ∙ sym all;
              is = written (ap rule.is_some all) (signed h.part.0 k.part.0 k.part.1.0 k.part.1.1 k.is);
            }
        | right g ↦
            let k = after-made.to s o t g in
            let all : w ≡ h.part.0 ∷ k.part.0 ∷ k.part.1 = h.same ∙ ap (λ u. h.part.0 ∷ u) k.same in
            record {
              text = joined-text (one-text is_e h.part.0) (sequence-text k.part.0 k.part.1) s o t k.is
                  ∙ sym all;
              is = written (ap rule.is_some all) (unsigned h.part.0 k.part.0 k.part.1 k.is);
            }
      ]

      left_out-to : Within (Only [] (word []) w) Target
      left_out-to s o t h =
          record { text = h.is.is ∙ sym h.same; is = left_out (ap rule.is_some h.same) h.is }

      exponent-from : Within Target (Either Powers (Only [] (word []) w))
      exponent-from s o t h = elim h.is [
        | left_out e g ↦ right (record { same = sym h.text ∙ g.is; is = g })
        | written e g ↦ elim g [
          | signed e_of sign c more k ↦ left (record {
            part = (e_of, sign ∷ c ∷ more);
            same = sym h.text
                ∙ joined-text (one-text is_e e_of) (joined-text (one-text is_sign sign)
                (sequence-text c more)) s o t k;
            is = after-either.from s o t (left (after-made.from s o t
                (record { part = (sign, (c, more)); same = refl; is = k })));
          })
          | unsigned e_of c more k ↦ left (record {
            part = (e_of, c ∷ more);
            same = sym h.text
                ∙ joined-text (one-text is_e e_of) (sequence-text c more) s o t k;
            is = after-either.from s o t (right (after-made.from s o t
                (record { part = (c, more); same = refl; is = k })));
          })
        ]
      ]

  number-same : (x : Numeral) → Same (form F rule.number x) (Number x)
  unfolding rule.number
  number-same x =
      then (λ a z. joined (mantissa-same a)
      (then (λ b w. joined (decimals-same b) (made exponent-same)) ⨾ then-made))
      ⨾ then-made
      ⨾ record { to = number-to; from = number-from }
    where
      Parts : Text → Text → Text → Form
      Parts a b c =
          Exactly a (Mantissa (rule.integer_of a)) ⌢ Exactly b (Optional Decimals (rule.is_some b))
          ⌢ Exactly c (Optional Exponent (rule.is_some c))

      OfParts : Form
      OfParts = Made (λ (p : Text × (Text × Text)). rule.numeral_of p.0 p.1.0 p.1.1)
          (λ p. Parts p.0 p.1.0 p.1.1) x

      number-to : Within OfParts (Number x)
      number-to s o t h =
          let a = h.part.0 in
          let b = h.part.1.0 in
          let c = h.part.1.1 in
          let all : t ≡ a ++ (b ++ c) =
          joined-text (exactly-text a) (joined-text (exactly-text b) (exactly-text c)) s o t h.is in
          number (rule.integer_of a) (rule.is_some b) (rule.is_some c)
          (h.same
          ∙ ap (λ w. numeral (rule.integer_of a) (rule.is_some b) (rule.is_some c) (number_in w))
          (sym all))
          (joined-lifts (Exactly a (Mantissa (rule.integer_of a))) (Mantissa (rule.integer_of a))
          (Exactly b (Optional Decimals (rule.is_some b)) ⌢ Exactly c (Optional Exponent (rule.is_some c)))
          (Optional Decimals (rule.is_some b) ⌢ Optional Exponent (rule.is_some c)) (exactly-is a)
          (joined-lifts (Exactly b (Optional Decimals (rule.is_some b)))
          (Optional Decimals (rule.is_some b)) (Exactly c (Optional Exponent (rule.is_some c)))
          (Optional Exponent (rule.is_some c)) (exactly-is b) (exactly-is c)) s o t h.is)

      number-from : Within (Number x) OfParts
      number-from s o t (number y d e equal h) =
          let a = h.first in
          let b = h.two.first in
          let c = h.two.second in
          let ya : y ≡ rule.integer_of a = mantissa-value y h.first_spans o a h.one in
          let db : d ≡ rule.is_some b =
          optional-value Decimals decimals-some d h.two.first_spans (o + bytes a) b h.two.one in
          let ec : e ≡ rule.is_some c =
          optional-value Exponent exponent-some e h.two.second_spans (o + bytes a + bytes b) c h.two.two in
          let all : t ≡ a ++ (b ++ c) = h.is ∙ ap (λ w. a ++ w) h.two.is in
          record {
            part = (a, (b, c));
            same = equal ∙ (λ i. numeral (ya i) (db i) (ec i) (number_in (all i)));
            is = joined-both (Mantissa y) (Exactly a (Mantissa (rule.integer_of a)))
                (Optional Decimals d ⌢ Optional Exponent e)
                (Exactly b (Optional Decimals (rule.is_some b))
                ⌢ Exactly c (Optional Exponent (rule.is_some c)))
                s o t h
                (record { text = refl; is = subst (λ v. Mantissa v h.first_spans o a) ya h.one })
                (joined-both (Optional Decimals d) (Exactly b (Optional Decimals (rule.is_some b)))
                (Optional Exponent e) (Exactly c (Optional Exponent (rule.is_some c)))
                h.second_spans (o + bytes a) h.second h.two
                (record {
                  text = refl;
                  is = subst (λ v. Optional Decimals v h.two.first_spans (o + bytes a) b) db h.two.one;
                })
                (record {
                  text = refl;
                  is = subst (λ v. Optional Exponent v h.two.second_spans (o + bytes a + bytes b) c) ec
                      h.two.two;
                }));
          }

  -- ---- literals and operators

  -- a literal that is no word
  pub plain_literal-same : (x : LiteralTree) → Same (form F rule.plain_literal x)
      (Either (Made text Quoted x) (Made number_literal Number x))
  unfolding rule.plain_literal
  plain_literal-same x =
      either (made (quoted-same F double_quote))
      (either (made (quoted-same F single_quote)) (made number-same))
      ⨾ record {
        to = ways (λ s o t h. left (record { part = h.part; same = h.same; is = in_double h.is }))
            (ways (λ s o t h. left (record { part = h.part; same = h.same; is = in_single h.is }))
            (λ s o t. right));
        from = ways (λ s o t h. elim h.is [
          | in_double g ↦ left (record { part = h.part; same = h.same; is = g })
          | in_single g ↦ right (left (record { part = h.part; same = h.same; is = g }))
        ]) (λ s o t h. right (right h));
      }

  -- a second character, and the operator of both
  two-same : (c d : ℕ) (op x : Op)
      → Same (word (c ∷ []) ⌢ word (d ∷ []) ⌢ Only op (word []) x) (Only op (word (c ∷ d ∷ [])) x)
  two-same c d op x = after after-value ⨾ after-only ⨾ only (words (c ∷ []) (d ∷ []))

  -- an operator as it is spelt
  abbrev Spelt : Op → Op → Form
  Spelt op = Only op (word (spelling op))

  spelt : (op x : Op) → Within (Spelt op x) (word (spelling x))
  spelt op x s o t h = rw h.same h.is

  abbrev Operators : Op → Form
  Operators x =
      Either (Spelt Equal x) (Either (Spelt Unequal x)
      (Either (Either (Spelt LessEqual x) (Spelt Less x))
      (Either (Spelt GreaterEqual x) (Spelt Greater x))))

  operator-is : (x : Op) → Within (word (spelling x)) (Operators x)
  operator-is Equal s o t h = left (record { same = refl; is = h })
  operator-is Unequal s o t h = right (left (record { same = refl; is = h }))
  operator-is LessEqual s o t h = right (right (left (left (record { same = refl; is = h }))))
  operator-is Less s o t h = right (right (left (right (record { same = refl; is = h }))))
  operator-is GreaterEqual s o t h = right (right (right (left (record { same = refl; is = h }))))
  operator-is Greater s o t h = right (right (right (right (record { same = refl; is = h }))))

  pub operator-same : (x : Op) → Same (form F rule.operator x) (word (spelling x))
  unfolding rule.operator
  operator-same x =
      either (two-same _ _ Equal x) (either (two-same _ _ Unequal x)
      (either (after-either ⨾ either (two-same _ _ LessEqual x) after-value)
      (after-either ⨾ either (two-same _ _ GreaterEqual x) after-value)))
      ⨾ record {
        to = ways (spelt Equal x) (ways (spelt Unequal x)
            (ways (ways (spelt LessEqual x) (spelt Less x))
            (ways (spelt GreaterEqual x) (spelt Greater x))));
        from = operator-is x;
      }
