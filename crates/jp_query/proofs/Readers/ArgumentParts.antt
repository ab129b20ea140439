-- Where another part comes, an argument goes on as a logical expression; and what goes on from the
-- first side.
use Rattle.std.proofs.Common.{◌≡◌, ℕ, ◌||◌, ◌⊎◌, Bool, true, false, List, Option, Some, None, []}
use Rattle.std.proofs.Common.{◌∷◌, inl, inr, refl, sym, ap, ◌∙◌, subst}
use Rattle.std.proofs.lemmas.Bool.{cases_Bool}
use Rattle.jp_reading.specs.Outcome.{State, Outcome, took, stuck, deep, ◌>>=◌, skip, after_blank}
use Rattle.jp_reading.specs.Outcome.{passes, is, expect}
use Rattle.jp_reading.specs.Views.{outcome_map}
use Rattle.jp_reading.specs.Rule.{here, beyond, some}
use Rattle.jp_reading.specs.RuleReading.{InnerReader, read, spanned, spanned_if}
use Rattle.jp_reading.proofs.States.Loops.{each-on, round}
use Rattle.jp_reading.proofs.States.Progress.{Progress}
use Rattle.jp_reading.proofs.Rules.Progress.{goes}
use Rattle.jp_tree.specs.Tree.{ExprTree, any_of, all_of, exists, call_test, OperandTree, literal}
use Rattle.jp_tree.specs.Tree.{node_value, call_value, ArgumentTree, literal_argument}
use Rattle.jp_tree.specs.Tree.{query_argument, call_argument, logical_argument}
use Rattle.jp_reading.specs.Characters.{ampersand, bar, comma, closing_parenthesis}
use Rattle.jp_query.specs.Grammar.{joined}
use Rattle.jp_query.specs.Private.Rules.{nesting, QueryRule, QueryOpening, basic, conjunction, part}
use Rattle.jp_query.specs.Private.Rules.{other_parts, argument_start, argument_on}
use Rattle.jp_query.specs.Private.Rules.{argument_of_parts, other_argument_parts, argument}
use Rattle.jp_query.specs.Private.Rules.{next_argument, some_arguments, is_logical, begins_operator}
use Rattle.jp_query.specs.Private.Rules.{comparison_with, compared_or_test, argument_alone}
use Rattle.jp_query.specs.Private.Parts.{begins_part, test, uncompared}
use Rattle.jp_query.proofs.Levels.{or-second}
use Rattle.jp_query.proofs.Readers.Rounds.{along, outcome_map-twice, listed, parts-none}

-- ---- tests of a character

or-neither : (a b : Bool) → (a || b) ≡ false → (a ≡ false) × (b ≡ false)
or-neither true b h = absurd cc
or-neither false b h = (refl, h)

no-part : (o : Option ℕ) → passes begins_part o ≡ false
    → (passes (is ampersand) o ≡ false) × (passes (is bar) o ≡ false)
no-part None h = (refl, refl)
no-part (Some c) h = or-neither (is ampersand c) (is bar c) h

second-part : (o : Option ℕ) → passes begins_part o ≡ true → passes (is ampersand) o ≡ false
    → passes (is bar) o ≡ true
second-part None h off = h
second-part (Some c) h off = or-second (is ampersand c) (is bar c) off h

module _ (inner : InnerReader nesting) (moves : (o : QueryOpening) → Progress (inner o)) where
  -- ---- parts

  -- a logical expression from its first part on
  abbrev pub logical_parts : ExprTree → State → Outcome ArgumentTree
  logical_parts e p =
      outcome_map (λ es. joined all_of (e ∷ es)) (read inner (other_parts ampersand basic) p)
      >>= λ a q. outcome_map logical_argument
      (outcome_map (λ es. joined any_of (a ∷ es)) (read inner (other_parts bar conjunction) q))

  alone : (x : ArgumentTree) (e : ExprTree) (p : State)
      → passes (is ampersand) (after_blank p) ≡ false
      → passes (is bar) (after_blank p) ≡ false → read inner (other_argument_parts x e) p ≡ took x p
  alone x e p a b =
      ap (λ (o : Outcome (List ExprTree)). o >>= λ es q. outcome_map (argument_of_parts x e es)
      (read inner (other_parts bar conjunction) q)) (parts-none inner ampersand basic p a)
      ∙ ap (λ (o : Outcome (List ExprTree)). outcome_map (argument_of_parts x e []) o)
      (parts-none inner bar conjunction p b)

  -- no empty list
  abbrev Filled : {A : Type 0} → Outcome (List A) → Type 0
  Filled (took [] q) = ⊥
  Filled (took (x ∷ xs) q) = Unit {0}
  Filled (stuck q) = Unit {0}
  Filled (deep q) = Unit {0}

  filled : {A : Type 0} (c : ℕ) (r : QueryRule true here beyond A) (p : State)
      → passes (is c) (after_blank p) ≡ true → Filled (read inner (other_parts c r) p)
  filled {A} c r p on =
      subst (λ (o : Outcome (List A)). Filled o)
      (sym (each-on (λ q. passes (is c) (after_blank q)) (λ q. read inner (part c r) q)
      (λ q. goes inner moves (part c r) q) p on)) (one (read inner (part c r) p))
    where
      rest : (x : A) (o : Outcome (List A)) → Filled (o >>= λ xs q. took (x ∷ xs) q)
      rest x (took xs q) = tt
      rest x (stuck q) = tt
      rest x (deep q) = tt

      one : (o : Outcome A) → Filled (round o (λ q. read inner (other_parts c r) q))
      one (took x q) = rest x (read inner (other_parts c r) q)
      one (stuck q) = tt
      one (deep q) = tt

  with-and : (x : ArgumentTree) (e : ExprTree) (o : Outcome (List ExprTree)) → Filled o
      → (o >>= λ es q. outcome_map (argument_of_parts x e es) (read inner (other_parts bar conjunction) q))
      ≡ outcome_map (λ es. joined all_of (e ∷ es)) o >>= λ a q. outcome_map logical_argument
      (outcome_map (λ es. joined any_of (a ∷ es)) (read inner (other_parts bar conjunction) q))
  with-and x e (took [] q) full = absurd full
  with-and x e (took (b ∷ bs) q) full =
      sym (outcome_map-twice logical_argument (λ fs. joined any_of (joined all_of (e ∷ b ∷ bs) ∷ fs))
      (read inner (other_parts bar conjunction) q))
  with-and x e (stuck q) full = refl
  with-and x e (deep q) full = refl

  with-or : (x : ArgumentTree) (e : ExprTree) (o : Outcome (List ExprTree)) → Filled o
      → outcome_map (argument_of_parts x e []) o
      ≡ outcome_map logical_argument (outcome_map (λ es. joined any_of (e ∷ es)) o)
  with-or x e (took [] q) full = absurd full
  with-or x e (took (f ∷ fs) q) full = refl
  with-or x e (stuck q) full = refl
  with-or x e (deep q) full = refl

  pub parts-logical : (x : ArgumentTree) (e : ExprTree) (p : State)
      → passes begins_part (after_blank p) ≡ true
      → read inner (other_argument_parts x e) p ≡ logical_parts e p
  parts-logical x e p on = way (cases_Bool (passes (is ampersand) (after_blank p)))
    where
      way : (passes (is ampersand) (after_blank p) ≡ true) ⊎
          (passes (is ampersand) (after_blank p) ≡ false)
          → read inner (other_argument_parts x e) p ≡ logical_parts e p
      way (inl and) =
          with-and x e (read inner (other_parts ampersand basic) p) (filled ampersand basic p and)
      way (inr off) =
          let none = parts-none inner ampersand basic p off in
          ap (λ (o : Outcome (List ExprTree)). o >>= λ es q. outcome_map (argument_of_parts x e es)
          (read inner (other_parts bar conjunction) q)) none
          ∙ with-or x e (read inner (other_parts bar conjunction) p)
          (filled bar conjunction p (second-part (after_blank p) on off))
          ∙ sym (ap (λ (o : Outcome (List ExprTree)). outcome_map (λ es. joined all_of (e ∷ es)) o
          >>= λ a q. outcome_map logical_argument
          (outcome_map (λ es. joined any_of (a ∷ es)) (read inner (other_parts bar conjunction) q))) none)

  -- no other part
  pub argument-alone : (x : ArgumentTree) (p : State) → passes begins_part (after_blank p) ≡ false
      → read inner (argument_on x) p ≡ took x p
  argument-alone (literal_argument l) p off = refl
  argument-alone (query_argument q) p off = let no =
      no-part (after_blank p) off in alone (query_argument q) (exists q) p no.0 no.1
  argument-alone (call_argument c) p off = let no =
      no-part (after_blank p) off in alone (call_argument c) (call_test c) p no.0 no.1
  argument-alone (logical_argument e) p off = let no =
      no-part (after_blank p) off in alone (logical_argument e) e p no.0 no.1

  -- a side that is a test, as the first of several parts
  pub argument-of-test : (x : OperandTree) (e : ExprTree) (p : State) → test e ≡ uncompared x
      → passes begins_part (after_blank p) ≡ true
      → read inner (argument_on (argument_alone x)) p ≡ logical_parts e p
  argument-of-test (literal l) e p is on = absurd cc
  argument-of-test (node_value q) e p is on =
      let same : exists q ≡ e = cc in
      parts-logical (query_argument q) (exists q) p on ∙ ap (λ z. logical_parts z p) same
  argument-of-test (call_value c) e p is on =
      let same : call_test c ≡ e = cc in
      parts-logical (call_argument c) (call_test c) p on ∙ ap (λ z. logical_parts z p) same

module _ (inner : InnerReader nesting) where
  -- ---- arguments

  pub argument-took : (p q r : State) (x y : ArgumentTree) → read inner argument_start p ≡ took x q
      → read inner (argument_on x) q ≡ took y r
      → read inner argument p ≡ took y (spanned_if (is_logical y) p r)
  unfolding argument
  argument-took p q r x y e f =
      ap (λ (o : Outcome ArgumentTree). spanned is_logical p
      (o >>= λ z s. read inner (argument_on z) s)) e
      ∙ ap (λ (o : Outcome ArgumentTree). spanned is_logical p o) f

  -- arguments, and the parenthesis after them
  pub arguments-closed : (p : State) → read inner some_arguments p
      ≡ read inner listed p >>= λ xs q. expect closing_parenthesis (skip q) >>= λ d r. took xs r
  unfolding some_arguments
  arguments-closed p = closing (read inner argument p)
    where
      closing : (o : Outcome ArgumentTree)
          → (o >>= λ x q. read inner (some beyond (is comma) next_argument) q >>= λ xs r. expect
          closing_parenthesis (skip r) >>= λ d s. took (x ∷ xs) s)
          ≡ (o >>= λ x q. outcome_map (λ xs. x ∷ xs) (read inner (some beyond (is comma) next_argument) q))
          >>= λ xs q. expect closing_parenthesis (skip q) >>= λ d r. took xs r
      closing (took x q) =
          sym (along (read inner (some beyond (is comma) next_argument) q) (λ xs r. took (x ∷ xs) r)
          (λ xs w. expect closing_parenthesis (skip w) >>= λ d r. took xs r))
      closing (stuck q) = refl
      closing (deep q) = refl

  -- ---- sides

  -- what an operator follows is compared
  pub compared-on : (x : OperandTree) (p : State) → passes begins_operator (after_blank p) ≡ true
      → read inner (compared_or_test x) p ≡ read inner (comparison_with x) (skip p)
  compared-on (literal l) p on = refl
  compared-on (node_value q) p on = rw on refl
  compared-on (call_value c) p on = rw on refl
