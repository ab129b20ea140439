-- The rules of functions' names, and of the words that are told from them, take exactly the texts
-- that the grammar says.
use Rattle.std.proofs.Common.{◌≡◌, ℕ, Bool, true, false, ◌||◌, ◌&&◌, not, ◌⊎◌, Option, Some, None}
use Rattle.std.proofs.Common.{List, [], ◌∷◌, ◌++◌, inl, inr, refl, sym, ap, ◌∙◌, append_assoc}
use Rattle.std.proofs.Common.{arith, codes}
use Rattle.std.proofs.lemmas.Bool.{cases_Bool, eqb-true}
use Rattle.std.proofs.lemmas.Bool.Decides.{nat_tests}
use Rattle.jp_reading.specs.Texts.{Text, Spans}
use Rattle.jp_reading.specs.Forms.{Form, ◌⌢◌, word, AllPassing}
use Rattle.jp_reading.specs.Outcome.{is, passes}
use Rattle.jp_reading.specs.Texts.{first_of}
use Rattle.jp_reading.specs.Numbers.{is_digit}
use Rattle.jp_reading.proofs.States.Between.{Within, joined-both}
use Rattle.jp_reading.proofs.Forms.Levels.{Only, Made}
use Rattle.jp_reading.proofs.Forms.Same.{Same, same, back, ways, ◌⨾◌, after, before, either, only}
use Rattle.jp_reading.proofs.Forms.Same.{made}
use Rattle.jp_reading.proofs.Forms.Same.{assoc, words, after-either, either-assoc, either-flip}
use Rattle.jp_reading.proofs.Forms.Same.{either-swap, either-pull, after-only, after-made}
use Rattle.jp_reading.proofs.Forms.Same.{made-before}
use Rattle.jp_reading.proofs.Forms.Same.{made-only, made-either, then-value, Given, word-on}
use Rattle.jp_reading.proofs.Forms.Same.{passing-word}
use Rattle.jp_reading.proofs.Rules.Form.{Either, left, right, form}
use Rattle.jp_tree.specs.Tree.{OperandTree, literal, call_value, call, ArgumentTree, arguments}
use Rattle.jp_tree.specs.Tree.{LiteralTree, true_literal, false_literal, null_literal}
use Rattle.jp_reading.specs.Characters.{opening_parenthesis, letter_t, letter_f, letter_n}
use Rattle.jp_query.specs.Names.{is_function_first, is_function_char, FunctionName, function_name}
use Rattle.jp_query.specs.Grammar.{Nested}
use Rattle.jp_query.specs.Private.Rules.{opens, CallRest}
use Rattle.jp_reading.specs.Texts.{is_among}
use Rattle.jp_reading.proofs.Conjunctions.{and-left}
use Rattle.jp_query.specs.Private.Rules as rule
use Rattle.jp_query.proofs.Forms.Selectors.{opening_form, CallFrom, Parentheses}

-- ---- letters

-- a character that passes
pub passed : (ok : ℕ → Bool) (o : Option ℕ) → passes ok o ≡ true
    → (c : ℕ) × (o ≡ Some c) × (ok c ≡ true)
passed ok None h = absurd cc
passed ok (Some c) h = (c, refl, h)

-- a first letter may go on with a name
pub from-letter : (others : Text) (c : ℕ) → opens (rule.name_from others) c ≡ true
    → is_function_char c ≡ true
unfolding is_digit
from-letter others c h = let first = and-left (is_function_first c) _ h in grind (arith, nat_tests)

-- what ends a name, or goes on with it
abbrev names_on : ℕ → Bool
names_on = opens (rule.name_on None)

names_on-next : (rest : Text) → AllPassing is_function_char rest
    → passes names_on (first_of (rest ++ codes "(")) ≡ true
unfolding is_digit
names_on-next [] all = refl
names_on-next (c ∷ rest) all = let first = all.0 in grind (arith, nat_tests)

one-less : (a b m : Bool) → (a && not (b || m)) ≡ true → (a && not m) ≡ true
one-less a false m h = h
one-less true true m h = absurd cc
one-less false true m h = h

module _ (I : Nested → Form) where
  -- ---- names

  -- a whole name, and arguments in parentheses
  abbrev pub Whole : CallRest → Form
  Whole r = FunctionName r.rest ⌢ Parentheses I r.arguments

  name-ways : (name : Text) (P : Form) → Same (FunctionName name ⌢ P)
      (Made (λ (p : ℕ × Text). p.0 ∷ p.1)
      (λ p. Given ((is_function_first p.0 ≡ true) × AllPassing is_function_char p.1)
      (word (p.0 ∷ p.1) ⌢ P)) name)
  name-ways name P =
      before (record {
        to = λ s o t h. elim h [
          | function_name c more e g ↦ record { part = (c, more); same = e; is = g }
        ];
        from = λ s o t h. function_name h.part.0 h.part.1 h.same h.is;
      })
      ⨾ made-before
      ⨾ made (λ p. assoc ⨾ word-on (passing-word is_function_char p.1 P))

  pub whole-same : (r : CallRest) → Same (CallFrom (opens (rule.name_from [])) I r) (Whole r)
  unfolding is_digit
  whole-same r = record {
    to = λ s o t h. to s o t r.rest refl h;
    from = from;
  } ⨾ back (name-ways r.rest P)
    where
      P : Form
      P = Parentheses I r.arguments

      Lettered : Text → Form
      Lettered =
          Made (λ (p : ℕ × Text). p.0 ∷ p.1)
          (λ p. Given ((is_function_first p.0 ≡ true) × AllPassing is_function_char p.1)
          (word (p.0 ∷ p.1) ⌢ P))

      to : (s : Spans) (o : ℕ) (t : Text) (w : Text) → r.rest ≡ w
          → CallFrom (opens (rule.name_from [])) I r s o t → Lettered r.rest s o t
      to s o t [] e h =
          let no : passes (opens (rule.name_from [])) (first_of (codes "(")) ≡ true =
          rw e at h.first in
          absurd cc
      to s o t (c ∷ w) e h =
          let first : opens (rule.name_from []) c ≡ true = rw e at h.first in
          let letters : AllPassing is_function_char (c ∷ w) = rw e at h.letters in
          record {
            part = (c, w);
            same = e;
            is = record {
              holds = (and-left (is_function_first c) _ first, letters.1);
              is = rw e at h.is;
            };
          }

      from : Within (Lettered r.rest) (CallFrom (opens (rule.name_from [])) I r)
      from s o t h =
          let first = h.is.holds.0 in
          let letter : is_function_char h.part.0 ≡ true = grind (arith, nat_tests) in
          record {
            letters = rw h.same (letter, h.is.holds.1);
            first = rw h.same (rw first refl);
            is = rw h.same h.is.is;
          }

  -- ---- functions by the next letter

  -- a function whose name begins so, where the next character passes
  abbrev Calls : (ℕ → Bool) → Text → OperandTree → Form
  Calls ok w = Made (λ r. call_value (rule.call_with w r)) (λ r. CallFrom ok I r)

  -- the letter c goes on, or another character
  split-letter : (ok other : ℕ → Bool) (w : Text) (c : ℕ) → ((d : ℕ) → other d ≡ true → ok d ≡ true)
      → ((d : ℕ) → ok d ≡ true → is c d ≡ false → other d ≡ true) → ok c ≡ true
      → is_function_char c ≡ true → (x : OperandTree)
      → Same (Either (Calls other w x) (word (c ∷ []) ⌢ Calls names_on (w ++ c ∷ []) x))
      (Calls ok w x)
  unfolding is_digit
  split-letter ok other w c wider narrower on letter x = record {
    to = ways (λ s o t h. record {
      part = h.part;
      same = h.same;
      is = record {
        letters = h.is.letters;
        first = widened (first_of (h.part.rest ++ codes "(")) h.is.first;
        is = h.is.is;
      };
    }) (λ s o t h. (let g = after-made.to s o t h in record {
      part = record { rest = c ∷ g.part.rest; arguments = g.part.arguments };
      same = g.same ∙ ap (λ v. call_value (call v (arguments g.part.arguments)))
          (append_assoc w (c ∷ []) g.part.rest);
      is = record {
        letters = (letter, g.is.two.letters);
        first = on;
        is = (back assoc ⨾ before (words (c ∷ []) g.part.rest)).to s o t
            (joined-both _ (word (c ∷ [])) _ (word g.part.rest ⌢ Parentheses I g.part.arguments)
            s o t g.is g.is.one g.is.two.is);
      };
    }));
    from = λ s o t h. rw h.same (from s o t h.part.rest h.part.arguments h.is);
  }
    where
      widened : (d : Option ℕ) → passes other d ≡ true → passes ok d ≡ true
      widened None e = e
      widened (Some d) e = wider d e

      from : (s : Spans) (o : ℕ) (t rest : Text) (xs : List ArgumentTree)
          → CallFrom ok I (rule.call_rest rest xs) s o t
          → Either (Calls other w (call_value (call (w ++ rest) (arguments xs))))
          (word (c ∷ []) ⌢ Calls names_on (w ++ c ∷ [])
          (call_value (call (w ++ rest) (arguments xs)))) s
          o t
      from s o t [] xs h = left (record {
        part = rule.call_rest [] xs;
        same = refl;
        is = record {
          letters = tt;
          first = narrower opening_parenthesis h.first (grind (arith, nat_tests));
          is = h.is;
        };
      })
      from s o t (d ∷ rest) xs h = way (cases_Bool (is c d))
        where
          way : (is c d ≡ true) ⊎ (is c d ≡ false)
              → Either (Calls other w (call_value (call (w ++ d ∷ rest) (arguments xs))))
              (word (c ∷ []) ⌢ Calls names_on (w ++ c ∷ [])
              (call_value (call (w ++ d ∷ rest) (arguments xs)))) s o t
          way (inl e) =
              let eq = eqb-true d c e in
              let g : (word (c ∷ []) ⌢ word rest ⌢ Parentheses I xs) s o t =
              (before (back (words (c ∷ []) rest)) ⨾ assoc).to s o t (rw eq at h.is) in
              right (after-made.from s o t (record {
                part = rule.call_rest rest xs;
                same = rw eq (ap (λ v. call_value (call v (arguments xs)))
                    (sym (append_assoc w (c ∷ []) rest)));
                is = joined-both _ (word (c ∷ [])) _ (CallFrom names_on I (rule.call_rest rest xs))
                    s o t
                    g g.one (record {
                      letters = h.letters.1;
                      first = names_on-next rest h.letters.1;
                      is = g.two;
                    });
              }))
          way (inr e) = left (record {
            part = rule.call_rest (d ∷ rest) xs;
            same = refl;
            is = record { letters = h.letters; first = narrower d h.first e; is = h.is };
          })

  -- ---- words

  not_this : (c d : ℕ) → names_on d ≡ true → is c d ≡ false → opens (rule.name_on (Some c)) d ≡ true
  unfolding is_digit
  not_this c d h e = rw e (grind (arith, nat_tests))

  names_on-wider : (c d : ℕ) → opens (rule.name_on (Some c)) d ≡ true → names_on d ≡ true
  unfolding is_digit
  names_on-wider c d h = grind (arith, nat_tests)

  names_on-letter : (c : ℕ) → is_function_char c ≡ true → names_on c ≡ true
  unfolding is_digit
  names_on-letter c h = grind (arith, nat_tests)

  -- a letter before a word, or before what else may come
  letter-before : {A : Type 0} {l x : A} {c : ℕ} {more : Text} {P Q : Form}
      → Same P (Either (Only l (word more) x) Q)
      → Same (word (c ∷ []) ⌢ P) (Either (Only l (word (c ∷ more)) x) (word (c ∷ []) ⌢ Q))
  letter-before {c} {more} f =
      after f ⨾ after-either ⨾ either (after-only ⨾ only (words (c ∷ []) more)) same

  -- the rest of a word, or a function whose name begins like it
  word_from-same : (l : LiteralTree) (w more : Text) → AllPassing is_function_char more
      → (x : OperandTree) → Same (form (opening_form I) (rule.word_from l w more) x)
      (Either (Only (literal l) (word more) x) (Calls names_on w x))
  word_from-same l w [] all x = either-flip ⨾ either same then-value
  word_from-same l w (c ∷ more) all x =
      either then-value (letter-before (word_from-same l (w ++ c ∷ []) more all.1 x))
      ⨾ either-swap
      ⨾ either same
      (split-letter names_on (opens (rule.name_on (Some c))) w c (names_on-wider c) (not_this c)
      (names_on-letter c all.0) all.0 x)

  -- the letter of a word is one of those that are told from others
  split-first : (c : ℕ) (others : Text) → opens (rule.name_from others) c ≡ true → (x : OperandTree)
      → Same (Either (Calls (opens (rule.name_from (c ∷ others))) [] x)
      (word (c ∷ []) ⌢ Calls names_on (c ∷ []) x)) (Calls (opens (rule.name_from others)) [] x)
  split-first c others on =
      split-letter (opens (rule.name_from others)) (opens (rule.name_from (c ∷ others))) [] c
      (λ d. one-less (is_function_first d) (is c d) (is_among others d)) (λ d h e. rw e h) on
      (from-letter others c on)

  -- one of three words, without a span
  abbrev pub Word : LiteralTree → Form
  Word l =
      Either (Only true_literal (word (codes "true")) l)
      (Either (Only false_literal (word (codes "false")) l)
      (Only null_literal (word (codes "null")) l))

  pub word-same : (x : OperandTree) → Same (form (opening_form I) rule.word x)
      (Either (Made literal Word x) (Made (λ r. call_value (rule.call_with [] r)) Whole x))
  unfolding rule.word
  word-same x =
      either then-value (either (letter-before
      (word_from-same true_literal (codes "t") (codes "rue") (refl, (refl, (refl, tt))) x)) (either
      (letter-before (word_from-same false_literal (codes "f") (codes "alse")
      (refl, (refl, (refl, (refl, tt)))) x)) (letter-before
      (word_from-same null_literal (codes "n") (codes "ull") (refl, (refl, (refl, tt))) x))))
      ⨾ either-pull
      ⨾ either same (either (split-first letter_t (codes "fn") refl x) same
      ⨾ either-pull
      ⨾ either same (either (split-first letter_f (codes "n") refl x) same
      ⨾ either-swap
      ⨾ either same (split-first letter_n [] refl x))
      ⨾ back either-assoc)
      ⨾ back either-assoc
      ⨾ either (back (made-either ⨾ either made-only (made-either ⨾ either made-only made-only)))
      (made whole-same)
