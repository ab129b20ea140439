-- A function expression reads the same from each opening that it has; and what begins with a name.
use Rattle.std.proofs.Common.{◌≡◌, ℕ, zero, suc, ◌-◌, ◌&&◌, not, ◌⊎◌, Bool, true, false, Option}
use Rattle.std.proofs.Common.{Some, None, [], ◌∷◌, ◌++◌, inl, inr, refl, sym, ap, ◌∙◌, arith}
use Rattle.std.specs.Prelude.{codes}
use Rattle.std.proofs.lemmas.Bool.{cases_Bool}
use Rattle.jp_reading.specs.Texts.{Text}
use Rattle.jp_reading.specs.declared.reader.Stop.{Stop}
use Rattle.jp_reading.specs.Outcome.{State, Outcome, took, stuck, deep, ◌>>=◌, head, past}
use Rattle.jp_reading.specs.Texts.{first_of}
use Rattle.jp_reading.specs.Outcome.{passes, is, is_at, take_passing, take_if, expect}
use Rattle.jp_reading.specs.Numbers.{is_digit}
use Rattle.jp_reading.specs.Views.{Fails, outcome_map}
use Rattle.jp_reading.specs.RuleReading.{InnerReader, read}
use Rattle.jp_reading.proofs.States.Loops.{each-on, each-off, round}
use Rattle.jp_reading.proofs.States.Folds.{fails-then}
use Rattle.jp_reading.proofs.States.Progress.{moves-take_if}
use Rattle.jp_reading.proofs.States.Steps.{take_if-takes, head-is}
use Rattle.jp_reading.proofs.Conjunctions.{and-left}
use Rattle.jp_tree.specs.Tree.{exists, call_test, literal, call_value, call, arguments}
use Rattle.jp_tree.specs.Tree.{LiteralTree, true_literal, false_literal, null_literal}
use Rattle.jp_reading.specs.Characters.{opening_parenthesis, letter_t, letter_f, letter_n}
use Rattle.jp_query.specs.Names.{is_function_first, is_function_char}
use Rattle.jp_query.specs.Private.Rules.{nesting, name_from, name_on, opens, only_this}
use Rattle.jp_reading.specs.Texts.{is_among}
use Rattle.jp_query.specs.Private.Rules.{CallRest, call_rest, call_with, run, after_parenthesis}
use Rattle.jp_query.specs.Private.Rules.{any_call, named_call, opened, word, word_of, word_from}
use Rattle.jp_query.specs.Private.Rules.{subject, query_within}
use Rattle.jp_query.specs.Private.Parts.{rest_of_call}
use Rattle.jp_query.specs.Private.Reading.{inside, call_inside, read_flat, read_inside}
use Rattle.jp_query.proofs.Forms.FunctionNames.{passed, from-letter}
use Rattle.jp_query.proofs.Levels.{or-second}
use Rattle.jp_query.proofs.Readers.Rounds.{along, outcome_map-twice}

-- ---- openings

-- what comes after a function's name
abbrev after_name : InnerReader nesting → Text → State → Outcome CallRest
after_name inner w p =
    expect opening_parenthesis p >>= λ d q. outcome_map (call_rest w) (read inner after_parenthesis q)

module _ (inner : InnerReader nesting) where
  -- from a character of the name on
  named-any : (ok : ℕ → Bool) (p : State) (c : ℕ) → head p ≡ Some c → ok c ≡ true
      → is_function_char c ≡ true → read inner (named_call ok) p ≡ read inner any_call p
  unfolding named_call any_call
  named-any ok p c e h l =
      let on : passes is_function_char (head p) ≡ true = ap (passes is_function_char) e ∙ l in
      ap (λ (o : Outcome ℕ). o >>= λ d q. read_flat (run is_function_char) q >>= λ w r. after_name
      inner (d ∷ w) r) (take_if-takes ok p c e h)
      ∙ sym (ap (λ (o : Outcome Text). o >>= λ w q. after_name inner w q)
      (each-on (λ q. passes is_function_char (head q)) (take_if is_function_char)
      (moves-take_if is_function_char) p on
      ∙ ap (λ (o : Outcome ℕ). round o (λ q. read_flat (run is_function_char) q))
      (take_if-takes is_function_char p c e l))
      ∙ along (read_flat (run is_function_char) (past p)) (λ w r. took (c ∷ w) r)
      (λ w q. after_name inner w q))

  -- from the parenthesis on
  ending-any : (p : State) → is_at opening_parenthesis p ≡ true
      → outcome_map (call_rest []) (read inner after_parenthesis (past p)) ≡ read inner any_call p
  unfolding any_call is_digit
  ending-any p on =
      let e : head p ≡ Some opening_parenthesis = head-is opening_parenthesis p on in
      let off : passes is_function_char (head p) ≡ false = ap (passes is_function_char) e in
      sym (ap (λ (o : Outcome Text). o >>= λ w q. after_name inner w q)
      (each-off (λ q. passes is_function_char (head q)) (take_if is_function_char) p off)
      ∙ ap (λ (o : Outcome ℕ). o >>= λ d q. outcome_map (call_rest []) (read inner after_parenthesis q))
      (take_if-takes (is opening_parenthesis) p opening_parenthesis e refl))

  from-any : (others : Text) (p : State) → passes (opens (name_from others)) (head p) ≡ true
      → read inner (opened (name_from others)) p ≡ read inner any_call p
  from-any others p on =
      let h = passed (opens (name_from others)) (head p) on in
      named-any (opens (name_from others)) p h.0 h.1 h.2 (from-letter others h.0 h.2)

  on-any : (other : Option ℕ) (p : State) → passes (opens (name_on other)) (head p) ≡ true
      → read inner (opened (name_on other)) p ≡ read inner any_call p
  on-any other p on = way (cases_Bool (is_at opening_parenthesis p))
    where
      way : (is_at opening_parenthesis p ≡ true) ⊎ (is_at opening_parenthesis p ≡ false)
          → read inner (opened (name_on other)) p ≡ read inner any_call p
      way (inl at) = rw at (ending-any p at)
      way (inr off) =
          let h = passed (opens (name_on other)) (head p) on in
          let going = or-second (is opening_parenthesis h.0)
          (is_function_char h.0 && not (is_among (only_this other) h.0))
          (sym (ap (passes (is opening_parenthesis)) h.1) ∙ off) h.2 in
          rw off (named-any (λ d. is_function_char d && not (is_among
          (only_this other) d)) p h.0 h.1
          going (and-left (is_function_char h.0) (not (is_among (only_this other) h.0)) going))

-- a function expression from the first letter of its name on, inside n levels
pub called-from : (n : ℕ) (others : Text) (p : State)
    → passes (opens (name_from others)) (head p) ≡ true
    → inside n (name_from others) p ≡ call_inside n p
called-from zero others p on = refl
called-from (suc n) others p on = from-any (inside n) others p on

-- and from somewhere within its name on
pub called-on : (n : ℕ) (other : Option ℕ) (p : State)
    → passes (opens (name_on other)) (head p) ≡ true → inside n (name_on other) p ≡ call_inside n p
called-on zero other p on = refl
called-on (suc n) other p on = on-any (inside n) other p on

-- ---- function expressions

respelt : (n : ℕ) (w : Text) (o : Outcome Text)
    → outcome_map (call_with w) (o >>= λ u q. after_name (inside n) u q)
    ≡ outcome_map (λ u. w ++ u) o >>= λ name q. expect opening_parenthesis q
    >>= λ d r. outcome_map (λ xs. call name (arguments xs)) (read_inside n after_parenthesis r)
respelt n w (took u q) = marked (expect opening_parenthesis q)
  where
    marked : (o : Outcome ℕ)
        → outcome_map (call_with w) (o >>= λ d r. outcome_map (call_rest u) (read_inside n after_parenthesis r))
        ≡ o >>= λ d r. outcome_map (λ xs. call (w ++ u) (arguments xs)) (read_inside n after_parenthesis r)
    marked (took d r) = outcome_map-twice (call_with w) (call_rest u) (read_inside n after_parenthesis r)
    marked (stuck r) = refl
    marked (deep r) = refl
respelt n w (stuck q) = refl
respelt n w (deep q) = refl

pub call-entered : (n : ℕ) (w : Text) (p : State) → (n ≡ 0 → ⊥)
    → outcome_map (call_with w) (call_inside n p) ≡ rest_of_call (n - 1) w p
unfolding any_call
call-entered zero w p some = absurd (some refl)
call-entered (suc n) w p some =
    let one : suc n - 1 ≡ n = omega arith in
    rw one (respelt n w (read_flat (run is_function_char) p))

-- ---- words and functions

module _ (n : ℕ) (l : LiteralTree) (w : Text) where
  -- another name
  pub word-called : (more : Text) (p : State)
      → passes (opens (name_on (first_of more))) (head p) ≡ true
      → read_inside n (word_from l w more) p ≡ outcome_map call_value (outcome_map (call_with w) (call_inside n p))
  word-called [] p on =
      rw on (ap (λ (o : Outcome CallRest). o >>= λ r q. took (call_value (call_with w r)) q)
      (called-on n None p on) ∙ sym (outcome_map-twice call_value (call_with w) (call_inside n p)))
  word-called (c ∷ more) p on =
      rw on (ap (λ (o : Outcome CallRest). o >>= λ r q. took (call_value (call_with w r)) q)
      (called-on n (Some c) p on) ∙ sym (outcome_map-twice call_value (call_with w) (call_inside n p)))

  -- a letter of the word
  word-letter : (c : ℕ) (more : Text) (p : State)
      → passes (opens (name_on (Some c))) (head p) ≡ false
      → read_inside n (word_from l w (c ∷ more)) p
      ≡ expect c p >>= λ d q. read_inside n (word_from l (w ++ c ∷ []) more) q
  word-letter c more p off = rw off refl

  pub word-goes_on : (c : ℕ) (more : Text) (p q : State)
      → passes (opens (name_on (Some c))) (head p) ≡ false → expect c p ≡ took c q
      → read_inside n (word_from l w (c ∷ more)) p ≡ read_inside n (word_from l (w ++ c ∷ []) more)
      q
  word-goes_on c more p q off e =
      word-letter c more p off
      ∙ ap (λ (o : Outcome ℕ). o >>= λ d r. read_inside n (word_from l (w ++ c ∷ []) more) r) e

  pub word-fails : (c : ℕ) (more : Text) (p : State) (e : Stop)
      → passes (opens (name_on (Some c))) (head p) ≡ false
      → Fails e (expect c p) → Fails e (read_inside n (word_from l w (c ∷ more)) p)
  word-fails c more p e off h =
      rw (word-letter c more p off)
      (fails-then e (expect c p) (λ d r. read_inside n (word_from l (w ++ c ∷ []) more) r) h)

  -- the word's end
  pub word-ends : (p : State) → passes (opens (name_on None)) (head p) ≡ false
      → read_inside n (word_from l w []) p ≡ took (literal l) p
  word-ends p off = rw off refl

-- the first letter of one of the words
module _ (n : ℕ) (p : State) where
  pub word-t : is_at letter_t p ≡ true
      → read_inside n word p ≡ read_inside n (word_of true_literal letter_t (codes "rue")) p
  unfolding word
  word-t at = rw (head-is letter_t p at) refl

  pub word-f : is_at letter_f p ≡ true
      → read_inside n word p ≡ read_inside n (word_of false_literal letter_f (codes "alse")) p
  unfolding word
  word-f at = rw (head-is letter_f p at) refl

  pub word-n : is_at letter_n p ≡ true
      → read_inside n word p ≡ read_inside n (word_of null_literal letter_n (codes "ull")) p
  unfolding word
  word-n at = rw (head-is letter_n p at) refl

opens-other : (o : Option ℕ) → passes is_function_first o ≡ true → passes (is letter_t) o ≡ false
    → passes (is letter_f) o ≡ false → passes (is letter_n) o ≡ false
    → passes (opens (name_from (codes "tfn"))) o ≡ true
opens-other None h t f l = h
opens-other (Some c) h t f l = rw (h, t, f, l) refl

opens-none : (others : Text) (o : Option ℕ) → passes is_function_first o ≡ false
    → passes (opens (name_from others)) o ≡ false
opens-none others None h = refl
opens-none others (Some c) h = rw h refl

-- any other first letter
pub word-other : (n : ℕ) (p : State) → passes is_function_first (head p) ≡ true
    → is_at letter_t p ≡ false → is_at letter_f p ≡ false → is_at letter_n p ≡ false
    → read_inside n word p ≡ outcome_map call_value (outcome_map (call_with []) (call_inside n p))
unfolding word
word-other n p h t f l =
    let on : passes (opens (name_from (codes "tfn"))) (head p) ≡ true =
    opens-other (head p) h t f l in
    rw on (ap (λ (o : Outcome CallRest). o >>= λ r q. took (call_value (call_with [] r)) q)
    (called-from n (codes "tfn") p on) ∙ sym (outcome_map-twice call_value (call_with []) (call_inside n p)))

not-taken : (ok : ℕ → Bool) (p : State) (o : Option ℕ) → passes ok o ≡ false
    → take_passing ok p o ≡ stuck p
not-taken ok p None h = refl
not-taken ok p (Some c) h = rw h refl

-- no name
pub word-none : (n : ℕ) (p : State) → passes is_function_first (head p) ≡ false
    → is_at letter_t p ≡ false
    → is_at letter_f p ≡ false → is_at letter_n p ≡ false → read_inside n word p ≡ stuck p
unfolding word
word-none n p h t f l =
    let off : passes (opens (name_from (codes "tfn"))) (head p) ≡ false =
    opens-none (codes "tfn") (head p) h in
    rw (off, t, f) (ap (λ (o : Outcome ℕ). o >>= λ d q. read_inside n
    (word_from null_literal (letter_n ∷ []) (codes "ull")) q)
    (not-taken (is letter_n) p (head p) l))

-- ---- tests

opens-first : (o : Option ℕ) → passes is_function_first o ≡ true
    → passes (opens (name_from [])) o ≡ true
opens-first None h = h
opens-first (Some c) h = rw h refl

pub subject-called : (n : ℕ) (p : State) → passes is_function_first (head p) ≡ true
    → read_inside n subject p ≡ outcome_map call_test (outcome_map (call_with []) (call_inside n p))
unfolding subject
subject-called n p h =
    let on : passes (opens (name_from [])) (head p) ≡ true = opens-first (head p) h in
    rw on (ap (λ (o : Outcome CallRest). o >>= λ r q. took (call_test (call_with [] r)) q)
    (called-from n [] p on) ∙ sym (outcome_map-twice call_test (call_with []) (call_inside n p)))

pub subject-query : (n : ℕ) (p : State) → passes is_function_first (head p) ≡ false
    → read_inside n subject p ≡ outcome_map exists (read_inside n query_within p)
unfolding subject
subject-query n p h =
    let off : passes (opens (name_from [])) (head p) ≡ false = opens-none [] (head p) h in
    rw off refl
