-- The loops over selectors, and over the parts of an expression.
use Rattle.std.proofs.Common.{◌≡◌, ℕ, ◌<◌, ◌≤◌, true, false, List, [], ◌∷◌, ◌++◌, length, map}
use Rattle.std.proofs.Common.{refl, sym, ap, ◌∙◌, arith}
use Rattle.std.proofs.lemmas.List.{map-append}
use Rattle.jp_reading.specs.declared.reader.Stop.{Stop}
use Rattle.jp_reading.specs.Outcome.{State, Outcome, took, stuck, deep, ◌>>=◌, skip}
use Rattle.jp_reading.specs.Outcome.{after_blank, passes, is, expect}
use Rattle.jp_reading.specs.Views.{Fails, outcome_map, with_prefix}
use Rattle.jp_reading.specs.Rule.{here, beyond, some, made, seq}
use Rattle.jp_reading.specs.RuleReading.{InnerReader, read}
use Rattle.jp_reading.proofs.States.Loops.{each-off}
use Rattle.jp_reading.proofs.States.Folds.{fails-then}
use Rattle.jp_reading.proofs.Rules.Rounds as loops
use Rattle.jp_tree.specs.Tree.{SelectorTree, ExprTree, ExprTrees, exprs}
use Rattle.jp_tree.specs.Tree.{ArgumentTree}
use Rattle.jp_reading.specs.Characters.{comma}
use Rattle.jp_query.specs.Grammar.{joined}
use Rattle.jp_query.specs.Private.Rules.{nesting, QueryRule}
use Rattle.jp_query.specs.Private.Rules.{joint, part, other_parts, argument, next_argument}
use Rattle.jp_query.specs.declared.expressions.Connective.{Connective}
use Rattle.jp_query.specs.Private.Parts.{next_entry, character_of, part_of, several}
use Rattle.jp_query.specs.Private.Reading.{inside, read_flat, read_inside}
use Rattle.jp_query.proofs.Levels.{inside-progress}

-- ---- selectors in brackets

-- those after the first, each with its comma
abbrev pub other_entries : QueryRule false here here (List SelectorTree)
other_entries = some here (is comma) next_entry

-- ---- parts of an expression

-- a rule after one that follows another
pub along : {A B C : Type 0} (o : Outcome A) (f : A → State → Outcome B) (g : B → State → Outcome C)
    → (o >>= f) >>= g ≡ o >>= λ x q. f x q >>= g
along (took x q) f g = refl
along (stuck q) f g = refl
along (deep q) f g = refl

module _ {A : Type 0} (inner : InnerReader nesting) (c : ℕ) (r : QueryRule true here beyond A) where
  -- a part comes after its character
  part-joint : (p : State)
      → read inner (part c r) p ≡ read_flat (joint c) p >>= λ d q. read inner r q
  unfolding joint
  part-joint p =
      sym (along (expect c (skip p)) _ _ ∙ ap (λ f. expect c (skip p) >>= f)
      (λ i d q. along (expect c q) (λ x w. took c (skip w)) (λ x w. read inner r w) i))

  pub part-is : (p q : State) (d : ℕ) → read_flat (joint c) p ≡ took d q
      → read inner (part c r) p ≡ read inner r q
  part-is p q d e = part-joint p ∙ ap (λ (o : Outcome ℕ). o >>= λ x w. read inner r w) e

  pub part-took : (p q w : State) (d : ℕ) (x : A) → read_flat (joint c) p ≡ took d q
      → read inner r q ≡ took x w → read inner (part c r) p ≡ took x w
  part-took p q w d x e f = part-is p q d e ∙ f

  -- a joint that is not there whole, or a part that fails after it
  pub joint-fails : (p : State) (e : Stop) → Fails e (read_flat (joint c) p)
      → Fails e (read inner (part c r) p)
  joint-fails p e h =
      rw (part-joint p) (fails-then e (read_flat (joint c) p) (λ d q. read inner r q) h)

  pub part-fails : (p q : State) (d : ℕ) (e : Stop) → read_flat (joint c) p ≡ took d q
      → Fails e (read inner r q) → Fails e (read inner (part c r) p)
  part-fails p q d e f h = rw (part-is p q d f) h

  -- no further part
  pub parts-none : (p : State) → passes (is c) (after_blank p) ≡ false
      → read inner (other_parts c r) p ≡ took [] p
  parts-none p off = each-off (λ w. passes (is c) (after_blank w)) (λ w. read inner (part c r) w) p
      off

-- a value made into another, twice
pub outcome_map-twice : {A B C : Type 0} (f : B → C) (g : A → B) (o : Outcome A)
    → outcome_map f (outcome_map g o) ≡ outcome_map (λ x. f (g x)) o
outcome_map-twice f g (took x q) = refl
outcome_map-twice f g (stuck q) = refl
outcome_map-twice f g (deep q) = refl

-- arguments without the parenthesis after them
abbrev pub listed : QueryRule true here beyond (List ArgumentTree)
listed = seq argument (λ x. made (λ xs. x ∷ xs) (some beyond (is comma) next_argument))

-- two parts or more are several
pub joined-several : (several : ExprTrees → ExprTree) (es : List ExprTree) → 2 ≤ length es
    → joined several es ≡ several (exprs es)
joined-several several [] h = absurd (omega arith)
joined-several several (e ∷ []) h = absurd (omega arith)
joined-several several (e ∷ f ∷ es) h = refl

-- what was pushed, each as its tree
pub map-pushed : {A B : Type 0} (f : A → B) {ys : List A} (xs : List A) (x : A) → ys ≡ xs ++ x ∷ []
    → map f ys ≡ map f xs ++ f x ∷ []
map-pushed f xs x e = ap (map f) e ∙ map-append f xs (x ∷ [])

pub map-first : {A B : Type 0} (f : A → B) {ys xs : List A} {x : A} → ys ≡ xs ++ x ∷ [] → xs ≡ []
    → map f ys ≡ f x ∷ []
map-first f {x} e none = ap (map f) (e ∙ ap (λ zs. zs ++ x ∷ []) none)

-- ---- several parts with a character twice between them, once the first is read

module _ (n : ℕ) (j : Connective) (first : ExprTree) (from : State) where
  abbrev others : QueryRule false beyond beyond (List ExprTree)
  others = other_parts (character_of j) (part_of j)

  -- the loop goes on from p with these parts
  abbrev pub StillMakes : List ExprTree → State → Type 0
  StillMakes xs p =
      with_prefix xs (read_inside n others p)
      ≡ outcome_map (λ es. first ∷ es) (read_inside n others from)

  -- a part that fails
  pub parts-fail : (e : Stop) (xs : List ExprTree) (p : State)
      → StillMakes xs p
      → passes (is (character_of j)) (after_blank p) ≡ true → Fails e (read_inside n (part (character_of j)
      (part_of j)) p)
      → Fails e (outcome_map (λ es. joined (several j) (first ∷ es)) (read_inside n others from))
  parts-fail e xs p total on failed =
      let o = outcome_map (λ es. first ∷ es) (read_inside n others from) in
      let made : Fails e o = rw (← total)
      (loops.some_fail (inside n) (inside-progress n) beyond (is (character_of j)) (part (character_of j)
      (part_of j)) p xs e on failed) in
      rw (← outcome_map-twice (joined (several j)) (λ es. first ∷ es) (read_inside n others from))
      (fails-then e o _ made)

  -- another part
  pub parts-on : (xs : List ExprTree) (p q w : State) (x : ExprTree) → StillMakes xs p
      → passes (is (character_of j)) (after_blank p) ≡ true → read_flat (joint (character_of j)) p
      ≡ took (character_of j) q
      → read_inside n (part_of j) q ≡ took x w → StillMakes (xs ++ x ∷ []) w
  parts-on xs p q w x total on joint one =
      sym (loops.some_on (inside n) (inside-progress n) beyond (is (character_of j)) (part (character_of j)
      (part_of j)) p w xs x on
      (part-took (inside n) (character_of j) (part_of j) p q w (character_of j) x joint one)) ∙ total

  pub parts-smaller : (p q w : State) (x : ExprTree) → read_flat (joint (character_of j)) p
      ≡ took (character_of j) q
      → read_inside n (part_of j) q ≡ took x w → length w.rest < length p.rest
  parts-smaller p q w x joint one =
      loops.some-smaller (inside n) (inside-progress n) beyond (is (character_of j)) (part (character_of j)
      (part_of j)) p w x
      (part-took (inside n) (character_of j) (part_of j) p q w (character_of j) x joint one)

  -- no part more
  pub parts-end : (xs : List ExprTree) (p : State)
      → StillMakes xs p
      → passes (is (character_of j)) (after_blank p) ≡ false → 2 ≤ length xs
      → outcome_map (λ es. joined (several j) (first ∷ es)) (read_inside n others from)
      ≡ took (several j (exprs xs)) p
  parts-end xs p total off many =
      sym (outcome_map-twice (joined (several j)) (λ es. first ∷ es) (read_inside n others from))
      ∙ ap (outcome_map (joined (several j)))
      (sym total ∙ loops.some_end (inside n) (inside-progress n) beyond (is (character_of j)) (part
      (character_of j) (part_of j)) p xs off)
      ∙ ap (λ e. took e p) (joined-several (several j) xs many)
