-- What is inside a number of levels.
use Rattle.std.proofs.Common.{◌≡◌, ℕ, zero, suc, ◌+◌, ◌-◌, ◌||◌, ◌⊎◌, Bool, true, [], ◌∷◌, false}
use Rattle.std.proofs.Common.{Option, Some, None, inl, inr, refl, ap, subst, ◌∙◌, arith, codes}
use Rattle.jp_reading.specs.Texts.{Text, Spans}
use Rattle.jp_reading.specs.Forms.{Form, ◌⌢◌, word, Blank}
use Rattle.jp_reading.specs.Outcome.{State, Outcome, took, ◌>>=◌, head, past, skip, passes, is}
use Rattle.jp_reading.specs.Outcome.{expect}
use Rattle.jp_reading.proofs.States.Between.{Reads, Within, Has, Stops, prefix-as, prefix-then}
use Rattle.jp_reading.proofs.States.Between.{reads-is}
use Rattle.jp_reading.proofs.States.Between.{prefix-none, reads-as, has-as}
use Rattle.jp_reading.proofs.Forms.Joining.{after-within, nothing-before, word-joined}
use Rattle.jp_reading.proofs.States.Again.{split, at-word}
use Rattle.jp_reading.proofs.Forms.Levels.{word-has, blank-has, joined-has}
use Rattle.jp_reading.proofs.States.Fits.{reads-word}
use Rattle.jp_reading.proofs.States.Progress.{Progress}
use Rattle.jp_reading.proofs.Rules.Progress.{goes}
use Rattle.jp_reading.proofs.Rules.Form.{form, lifts, least, has}
use Rattle.jp_reading.proofs.Rules.Soundness.{InnerIsSound, none_left, some_left, sound}
use Rattle.jp_reading.proofs.Rules.Soundness.{sound-as}
use Rattle.jp_reading.proofs.Rules.Completeness.{InnerIsComplete, done}
use Rattle.jp_reading.proofs.Conjunctions.{and-left}
use Rattle.jp_tree.specs.Tree.{ExprTree, QueryTree}
use Rattle.jp_reading.specs.Characters.{opening_parenthesis}
use Rattle.jp_query.specs.Laws.{LevelsOnlyAdd}
use Rattle.jp_query.specs.Names.{is_function_char}
use Rattle.jp_query.specs.Grammar.{nested_expr, nested_arguments, without, Inside, Segments, Spells}
use Rattle.jp_query.specs.Private.Rules.{nesting, opens, opened, inside_expression, expression}
use Rattle.jp_query.specs.Private.Rules.{segments}
use Rattle.jp_query.specs.Private.Rules as rule
use Rattle.jp_query.specs.Private.Reading.{inside, read_inside}
use Rattle.std.proofs.lemmas.Bool.{cases_Bool, eqb-true}
use Rattle.jp_query.proofs.Rules.Conditions.{expression-alive}
use Rattle.jp_query.proofs.Rules.Conditions.{starts, starts-covers, closes, opened-alive}
use Rattle.jp_query.proofs.Rules.Conditions.{opened-apart}
use Rattle.jp_query.proofs.Forms.Selectors.{opening_form, CallFrom, Parentheses, segments-same}
use Rattle.jp_query.proofs.Forms.FunctionNames.{passed, from-letter}
use Rattle.jp_query.proofs.Forms.Expressions.{expression-same}
use Rattle.jp_query.proofs.Forms.Arguments.{opened-same}

-- they leave shorter texts
pub inside-progress : (n : ℕ) (o : rule.QueryOpening) → Progress (inside n o)
inside-progress zero o p = tt
inside-progress (suc n) o p = goes (inside n) (inside-progress n) (opened o) p

-- where a level is left the character leads to an expression
pub inside-entered : (n opening : ℕ) (p q : State) → (n ≡ 0 → ⊥) → expect opening p ≡ took opening q
    → inside n (rule.expression_after opening) p ≡ read_inside (n - 1) expression (skip q)
unfolding inside_expression
inside-entered zero opening p q some e = absurd (some refl)
inside-entered (suc n) opening p q some e =
    let one : suc n - 1 ≡ n = omega arith in
    rw one (ap (λ (o : Outcome ℕ). o >>= λ d r. read_inside n expression (skip r)) e)

-- ---- one level more

pub opening_form-more : (n : ℕ) (o : rule.QueryOpening) (x : rule.Opened o)
    → Within (opening_form (Inside n) o x) (opening_form (Inside (suc n)) o x)
opening_form-more zero (rule.expression_after m) e s o t h = absurd h.two.two
opening_form-more zero (rule.name_from others) r s o t h = absurd h.is.two.two.two.one
opening_form-more zero (rule.name_on other) r s o t h = absurd h.is.two.two.two.one
opening_form-more (suc n) o x s i t h =
    (opened-same (Inside (suc n)) o x).to s i t
    (lifts (opening_form (Inside n)) (opening_form (Inside (suc n))) (opening_form-more n) (opened o) x s i t
    ((opened-same (Inside n) o x).from s i t h))

spells-lifts : (n : ℕ) (q : QueryTree) (s : Spans) (text : Text) → Spells n q s text
    → Spells (suc n) q s text
spells-lifts n q s text h =
    let I = Inside n in
    let K = Inside (suc n) in
    record {
      parts = h.parts;
      tree = h.tree;
      is = after-within (word (codes "$")) (Segments I h.parts) (Segments K h.parts)
          (λ v o t g. (segments-same K h.parts).to v o t
          (lifts (opening_form I) (opening_form K) (opening_form-more n) segments h.parts v o t
          ((segments-same I h.parts).from v o t g))) s 0 text h.is;
    }

pub spells-more : (k n : ℕ) (q : QueryTree) (s : Spans) (text : Text) → Spells n q s text
    → Spells (k + n) q s text
spells-more zero n q s text h = let e : zero + n ≡ n = omega arith in rw e h
spells-more (suc k) n q s text h =
    let e : suc k + n ≡ suc (k + n) = omega arith in
    rw e (spells-lifts (k + n) q s text (spells-more k n q s text h))

pub levels-only_add : LevelsOnlyAdd
levels-only_add n m q s text few h =
    let all : m - n + n ≡ m = omega (arith, few) in
    subst (λ k. Spells k q s text) all (spells-more (m - n) n q s text h)

-- ---- soundness

-- a function without arguments, after its parenthesis, and from there on
abbrev Empty : Form
Empty = Blank ⌢ Inside (suc zero) (nested_arguments []) ⌢ Blank ⌢ word (codes ")")

empty-has : Has Empty
empty-has =
    joined-has Blank _ blank-has (joined-has (Inside (suc zero) (nested_arguments [])) _
    (λ o. ([], [], without refl (record { none = refl; is = refl })))
    (joined-has Blank (word (codes ")")) blank-has (word-has (codes ")"))))

parentheses-has : Has (Parentheses (Inside (suc zero)) [])
parentheses-has = joined-has (word (codes "(")) Empty (word-has (codes "(")) empty-has

-- a function whose name is that letter alone, or ends with it
named-deeper : (ok : ℕ → Bool) (c : ℕ) (p : State) → head p ≡ Some c → is_function_char c ≡ true
    → ok c ≡ true → Stops (λ r. CallFrom ok (Inside (suc zero)) r) p (past p)
named-deeper ok c p e letter first = record {
  value = record { rest = c ∷ []; arguments = [] };
  prefix = prefix-as (word (c ∷ []) ⌢ Parentheses (Inside (suc zero)) []) _ p (past p)
      (λ s i t g. record { letters = (letter, tt); first = first; is = g })
      (prefix-then (word (c ∷ [])) (Parentheses (Inside (suc zero)) []) p (past p) (past p)
      (reads-word p c e)
      (prefix-none (Parentheses (Inside (suc zero)) []) (past p) parentheses-has));
}

pub or-second : (a b : Bool) → a ≡ false → (a || b) ≡ true → b ≡ true
or-second true b e h = absurd cc
or-second false b e h = h

-- where no level is left, one level deeper the next character goes on
opened-deeper : (o : rule.QueryOpening) (c : ℕ) (p : State) → head p ≡ Some c → opens o c ≡ true
    → Stops (opening_form (Inside (suc zero)) o) p (past p)
opened-deeper (rule.expression_after m) c p e h = record {
  value = x;
  prefix = prefix-then (word (m ∷ [])) (Blank ⌢ Inside (suc zero) (nested_expr x)) p (past p)
      (past p)
      (reads-word p m (e ∙ ap Some (eqb-true c m h)))
      (prefix-none (Blank ⌢ Inside (suc zero) (nested_expr x)) (past p)
      (joined-has Blank (Inside (suc zero) (nested_expr x)) blank-has
      (has-as (form (opening_form (Inside zero)) expression x) (Inside (suc zero) (nested_expr x))
      (expression-same (Inside zero) x).to
      (has (opening_form (Inside zero)) expression expression-alive))));
}
  where
    x : ExprTree
    x = least expression expression-alive
opened-deeper (rule.name_from others) c p e h =
    named-deeper (opens (rule.name_from others)) c p e (from-letter others c h) h
opened-deeper (rule.name_on other) c p e h = way (cases_Bool (is opening_parenthesis c))
  where
    ok : ℕ → Bool
    ok = opens (rule.name_on other)

    letter-of : is opening_parenthesis c ≡ false → ok c ≡ true → is_function_char c ≡ true
    letter-of other_one h =
        and-left (is_function_char c) _ (or-second (is opening_parenthesis c) _ other_one h)

    way : (is opening_parenthesis c ≡ true) ⊎ (is opening_parenthesis c ≡ false)
        → Stops (λ r. CallFrom ok (Inside (suc zero)) r) p (past p)
    way (inl same) = record {
      value = record { rest = []; arguments = [] };
      prefix = prefix-as (Parentheses (Inside (suc zero)) []) _ p (past p) (λ s i t g. record {
        letters = tt;
        first = refl;
        is = nothing-before (Parentheses (Inside (suc zero)) []) s i t g;
      }) (prefix-then (word (codes "(")) Empty p (past p) (past p)
          (reads-word p opening_parenthesis (e ∙ ap Some (eqb-true c opening_parenthesis same)))
          (prefix-none Empty (past p) empty-has));
    }
    way (inr letter) = named-deeper ok c p e (letter-of letter h) h

pub inside-sound : (n : ℕ) → InnerIsSound nesting (opening_form (Inside n)) (opening_form (Inside (suc n)))
    (inside n)
inside-sound zero o p on =
    let h = passed (opens o) (head p) on in none_left refl (opened-deeper o h.0 p h.1 h.2)
inside-sound (suc n) o p on =
    let h = passed (opens o) (head p) on in
    some_left
    (sound-as (form (opening_form (Inside n)) (opened o)) (form (opening_form (Inside (suc n))) (opened o))
    (opening_form (Inside (suc n)) o) (opening_form (Inside (suc (suc n))) o) p (inside (suc n) o p)
    (λ x. (opened-same (Inside n) o x).to) (λ x. (opened-same (Inside (suc n)) o x).to)
    (sound (opening_form (Inside n)) (opening_form (Inside (suc n))) (opening_form-more n) (inside n) (inside-sound n)
    (opened o) (opened-alive o h.0 h.2) p))

-- ---- completeness

-- where that character is next, a test that it passes does
passes-next : (ok : ℕ → Bool) (c : ℕ) (p : State) → passes (is c) (head p) ≡ true → ok c ≡ true
    → passes ok (head p) ≡ true
passes-next ok c p next h = way (head p) next
  where
    way : (d : Option ℕ) → passes (is c) d ≡ true → passes ok d ≡ true
    way None e = absurd cc
    way (Some d) e = rw (eqb-true d c e) h

call-first : (ok : ℕ → Bool) (n : ℕ) (r : rule.CallRest) (p q : State)
    → Reads (CallFrom ok (Inside n) r) p q → passes ok (head p) ≡ true
call-first ok n r p q h = way r.rest refl
  where
    tail : Form
    tail = Blank ⌢ Inside n (nested_arguments r.arguments) ⌢ Blank ⌢ word (codes ")")

    from : Form
    from = word (codes "(") ⌢ tail

    read : Reads (word r.rest ⌢ from) p q
    read = reads-is (CallFrom ok (Inside n) r) (word r.rest ⌢ from) p q h h.is.is

    way : (w : Text) → r.rest ≡ w → passes ok (head p) ≡ true
    way [] e =
        let two = split (word (codes "(")) tail p q
        (reads-as (word [] ⌢ from) from p q (word-joined from) (rw e at read)) in
        let first : ok opening_parenthesis ≡ true = rw e at h.is.first in
        passes-next ok opening_parenthesis p (at-word opening_parenthesis [] p two.middle two.one)
        first
    way (c ∷ w) e =
        let parts = split (word (c ∷ w)) from p q (rw e at read) in
        let first : ok c ≡ true = rw e at h.is.first in
        passes-next ok c p (at-word c w p parts.middle parts.one) first

-- what is opened begins with a character of its opening
opened-first : (n : ℕ) (o : rule.QueryOpening) (x : rule.Opened o) (p q : State)
    → Reads (opening_form (Inside n) o x) p q → passes (opens o) (head p) ≡ true
opened-first n (rule.expression_after m) x p q h =
    let parts = split (word (m ∷ [])) (Blank ⌢ Inside n (nested_expr x)) p q h in at-word m [] p
    parts.middle parts.one
opened-first n (rule.name_from others) r p q h =
    call-first (opens (rule.name_from others)) n r p q h
opened-first n (rule.name_on other) r p q h = call-first (opens (rule.name_on other)) n r p q h

pub inside-complete : (n : ℕ) → InnerIsComplete nesting (opening_form (Inside n)) starts closes (inside n)
inside-complete zero = record {
  covers = starts-covers;
  progress = inside-progress zero;
  again = λ o x p q h follow. absurd (nothing o x h.spans p.at h.text h.is);
  first = λ o x p q h. opened-first zero o x p q h;
}
  where
    nothing : (o : rule.QueryOpening) (x : rule.Opened o) (s : Spans) (i : ℕ) (t : Text)
        → opening_form (Inside zero) o x s i t → ⊥
    nothing (rule.expression_after m) e s i t h = h.two.two
    nothing (rule.name_from others) r s i t h = h.is.two.two.two.one
    nothing (rule.name_on other) r s i t h = h.is.two.two.two.one
inside-complete (suc n) = record {
  covers = starts-covers;
  progress = inside-progress (suc n);
  again = λ o x p q h follow. (let c =
      passed (opens o) (head p) (opened-first (suc n) o x p q h) in
      (done (opening_form (Inside n)) starts closes (inside n) (inside-complete n) (opened o)
      (opened-alive o c.0 c.2) (closes o) (opened-apart o c.0 c.2) x p q
      (reads-as (opening_form (Inside (suc n)) o x) (form (opening_form (Inside n)) (opened o) x) p q
      (opened-same (Inside n) o x).from h) follow).reads);
  first = λ o x p q h. opened-first (suc n) o x p q h;
}
