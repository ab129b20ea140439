-- The rules of patterns leave shorter texts: for the loops over pieces, branches and elements.
use Rattle.std.proofs.Common.{◌≡◌, ℕ, zero, suc, ◌<◌, ◌≤◌, true, false}
use Rattle.std.proofs.Common.{[], ◌∷◌, length, Option, Some, None, arith}
use Rattle.jp_reading.specs.Characters as char
use Rattle.jp_reading.specs.Outcome.{State, Outcome, took, stuck, deep, ◌>>=◌}
use Rattle.jp_reading.specs.Outcome.{past, is, is_at, take_if, expect, each}
use Rattle.jp_reading.specs.Views.{outcome_map, with_prefix}
use Rattle.jp_reading.specs.NumberReading.{digits_at, digit_at, is_at_digit, capped}
use Rattle.jp_reading.proofs.Texts.Chars.{past-shorter}
use Rattle.jp_reading.proofs.Texts.Digits.{digit_at-progress}
use Rattle.jp_reading.proofs.States.Progress.{Moves, Keeps, Progress, keeps-from_moves}
use Rattle.jp_reading.proofs.States.Progress.{keeps-then, moves-then, moves-after, keeps-after}
use Rattle.jp_reading.proofs.States.Progress.{moves-take_if, moves-map, keeps-each, past-keeps}
use Rattle.jp_reading.proofs.States.Progress.{moves-if, keeps-if, keeps-map, keeps-take_if}
use Rattle.jp_iregexp.specs.Private.CodeReading.{code_of}
use Rattle.jp_iregexp.specs.Characters.{is_plain, is_escaped, is_normal, meant}
use Rattle.jp_iregexp.specs.Tree.{Tree}
use Rattle.jp_iregexp.specs.Grammar.{dot}
use Rattle.jp_iregexp.specs.Private.Reading.{there, escaped_at, character_at, is_category_sign}
use Rattle.jp_iregexp.specs.Private.Reading.{second_at, code_at, category_at, is_at_category}
use Rattle.jp_iregexp.specs.Private.Reading.{range_at, element_at, elements_at, hyphen_at}
use Rattle.jp_iregexp.specs.Private.Reading.{first_at, all_elements_at, negation_at, class_at}
use Rattle.jp_iregexp.specs.Private.Reading.{number_at, most_at, braces_at, quantifier_at}
use Rattle.jp_iregexp.specs.Private.Reading.{escape_at, group_at, atom_at, piece_at, pieces_at}
use Rattle.jp_iregexp.specs.Private.Reading.{branch_at, next_branch_at, branches_at, inside_at}

keeps-there : {A : Type 0} (o : Option A) (p : State) → Keeps p (there o p)
keeps-there None p = tt
keeps-there (Some x) p = omega arith

moves-escaped : Progress escaped_at
unfolding escaped_at
moves-escaped p = moves-map meant p (take_if is_escaped p) (moves-take_if is_escaped p)

moves-character : Progress character_at
unfolding character_at
moves-character p =
    moves-if (is_at char.backslash p) p (escaped_at (past p)) (take_if is_plain p)
    (λ h. moves-after p (past p) (escaped_at (past p)) (past-keeps p) (moves-escaped (past p)))
    (λ h. moves-take_if is_plain p)

keeps-second : (p : State) → Keeps p (second_at p)
keeps-second p =
    keeps-if (is_at char.closing_brace p) p (took None p) (outcome_map Some (take_if _ p)) (omega arith)
    (keeps-map Some p (take_if _ p) (keeps-take_if _ p))

keeps-code : (p : State) → Keeps p (code_at p)
unfolding code_at
keeps-code p =
    keeps-then p (take_if _ p) _ (keeps-take_if _ p)
    (λ a q. keeps-then q (second_at q) _ (keeps-second q) (λ b r. keeps-there (code_of a b) r))

moves-category : Progress category_at
unfolding category_at
moves-category p =
    moves-then p (take_if is_category_sign p) _ (moves-take_if is_category_sign p)
    (λ c q. keeps-then q (expect char.opening_brace q) _ (keeps-take_if (is char.opening_brace) q)
    (λ x q. keeps-then q (code_at q) _ (keeps-code q)
    (λ k q. keeps-then q (expect char.closing_brace q) _ (keeps-take_if (is char.closing_brace) q)
    (λ y q. omega arith))))

keeps-range : (c : ℕ) (p : State) → Keeps p (range_at c p)
unfolding range_at
keeps-range c p =
    keeps-if _ p (character_at (past p) >>= _) (took _ p)
    (keeps-after p (past p) (character_at (past p) >>= _) (past-keeps p)
    (keeps-then (past p) (character_at (past p)) _
    (keeps-from_moves (past p) (character_at (past p)) (moves-character (past p)))
    (λ d q. keeps-if _ q (stuck q) (took _ q) tt (omega arith))))
    (omega arith)

-- an element of a class moves
pub moves-element : Progress element_at
unfolding element_at
moves-element p =
    moves-if (is_at_category p) p (category_at (past p)) (character_at p >>= λ c q. range_at c q)
    (λ h. moves-after p (past p) (category_at (past p)) (past-keeps p) (moves-category (past p)))
    (λ h. moves-then p (character_at p) (λ c q. range_at c q) (moves-character p)
    (λ c q. keeps-range c q))

keeps-hyphen : (p : State) → Keeps p (hyphen_at p)
keeps-hyphen p = keeps-then p (expect char.hyphen p) _ (keeps-take_if (is char.hyphen) p)
    (λ x q. omega arith)

keeps-element : (p : State) → Keeps p (element_at p)
keeps-element p = keeps-from_moves p (element_at p) (moves-element p)

keeps-all_elements : (p : State) → Keeps p (all_elements_at p)
unfolding all_elements_at
keeps-all_elements p =
    keeps-then p (first_at p) _
    (keeps-if (is_at char.hyphen p) p (hyphen_at p) (element_at p) (keeps-hyphen p)
    (keeps-element p))
    (λ x q. keeps-then q (with_prefix (x ∷ []) (elements_at q)) _
    (keeps-map _ q (elements_at q) (keeps-each _ element_at moves-element q))
    (λ xs q. keeps-if (is_at char.hyphen q) q (outcome_map _ (hyphen_at q)) (took xs q)
    (keeps-map _ q (hyphen_at q) (keeps-hyphen q)) (omega arith)))

moves-class : Progress class_at
unfolding class_at
moves-class p =
    moves-then p (expect char.opening_bracket p) _ (moves-take_if (is char.opening_bracket) p)
    (λ x q. keeps-then q (negation_at q) _
    (keeps-if (is_at char.caret q) q (took true (past q)) (took false q) (past-keeps q)
    (omega arith))
    (λ b q. keeps-then q (all_elements_at q) _ (keeps-all_elements q)
    (λ xs q. keeps-then q (expect char.closing_bracket q) _
    (keeps-take_if (is char.closing_bracket) q) (λ y q. omega arith))))

keeps-number : (p : State) → Keeps p (number_at p)
unfolding number_at digits_at
keeps-number p =
    keeps-then p (outcome_map (capped 1000000000 0) (digits_at p)) _
    (keeps-map _ p (digits_at p)
    (keeps-then p (digit_at p) _ (keeps-from_moves p (digit_at p) (digit_at-progress p))
    (λ d q. keeps-then q (each is_at_digit digit_at q) _
    (keeps-each is_at_digit digit_at digit_at-progress q) (λ ds r. omega arith))))
    (λ n q. keeps-if _ q (stuck q) (took n q) tt (omega arith))

keeps-most : (n : ℕ) (p : State) → Keeps p (most_at n p)
unfolding most_at
keeps-most n p =
    keeps-if (is_at char.closing_brace p) p (took (Some n) p) (expect char.comma p >>= _)
    (omega arith)
    (keeps-then p (expect char.comma p) _ (keeps-take_if (is char.comma) p)
    (λ x q. keeps-if (is_at char.closing_brace q) q (took None q) (number_at q >>= _) (omega arith)
    (keeps-then q (number_at q) _ (keeps-number q)
    (λ m r. keeps-if _ r (stuck r) (took (Some m) r) tt (omega arith)))))

keeps-quantifier : (p : State) → Keeps p (quantifier_at p)
unfolding quantifier_at braces_at
keeps-quantifier p =
    keeps-if (is_at char.star p) p _ _ (past-keeps p)
    (keeps-if (is_at char.plus p) p _ _ (past-keeps p)
    (keeps-if (is_at char.question_mark p) p _ _ (past-keeps p)
    (keeps-then p (expect char.opening_brace p) _ (keeps-take_if (is char.opening_brace) p)
    (λ x q. keeps-then q (number_at q) _ (keeps-number q)
    (λ n q. keeps-then q (most_at n q) _ (keeps-most n q)
    (λ m q. keeps-then q (expect char.closing_brace q) _ (keeps-take_if (is char.closing_brace) q)
    (λ y q. omega arith)))))))

keeps-escape : (p : State) → Keeps p (escape_at p)
unfolding escape_at
keeps-escape p =
    keeps-if _ p (outcome_map _ (category_at p)) (outcome_map _ (escaped_at p))
    (keeps-map _ p (category_at p) (keeps-from_moves p (category_at p) (moves-category p)))
    (keeps-map _ p (escaped_at p) (keeps-from_moves p (escaped_at p) (moves-escaped p)))

module _ (inside : State → Outcome Tree) (keeps : (p : State) → Keeps p (inside p)) where
  moves-group : Progress (group_at inside)
  unfolding group_at
  moves-group p =
      moves-then p (expect char.opening_parenthesis p) _
      (moves-take_if (is char.opening_parenthesis) p)
      (λ x q. keeps-then q (inside q) _ (keeps q)
      (λ y q. keeps-then q (expect char.closing_parenthesis q) _
      (keeps-take_if (is char.closing_parenthesis) q) (λ z q. omega arith)))

  moves-past : {A : Type 0} (c : ℕ) (p : State) (o : Outcome A) → is_at c p ≡ true
      → Keeps (past p) o → Moves p o
  moves-past c p o at h = moves-beyond p (past p) o (past-shorter (is c) p at) h
    where
      moves-beyond : {A : Type 0} (p q : State) (o : Outcome A) → length q.rest < length p.rest
          → Keeps q o → Moves p o
      moves-beyond p q (took x r) less h = omega arith
      moves-beyond p q (stuck r) less h = tt
      moves-beyond p q (deep r) less h = tt

  moves-atom : Progress (atom_at inside)
  unfolding atom_at
  moves-atom p =
      moves-if (is_at char.opening_parenthesis p) p (group_at inside p) _ (λ h. moves-group p)
      (λ h. moves-if (is_at char.opening_bracket p) p (class_at p) _ (λ h. moves-class p)
      (λ h. moves-if (is_at char.dot p) p (took dot (past p)) _
      (λ at. moves-past char.dot p (took dot (past p)) at
      (let still : length (past p).rest ≤ length (past p).rest = omega arith in still))
      (λ h. moves-if (is_at char.backslash p) p (escape_at (past p)) _
      (λ at. moves-past char.backslash p (escape_at (past p)) at (keeps-escape (past p)))
      (λ h. moves-map _ p (take_if is_normal p) (moves-take_if is_normal p)))))

  -- a piece moves
  pub moves-piece : Progress (piece_at inside)
  unfolding piece_at
  moves-piece p =
      moves-then p (atom_at inside p) _ (moves-atom p)
      (λ a q. keeps-if _ q (outcome_map _ (quantifier_at q)) (took a q)
      (keeps-map _ q (quantifier_at q) (keeps-quantifier q)) (omega arith))

  keeps-branch : (p : State) → Keeps p (branch_at inside p)
  unfolding branch_at
  keeps-branch p = keeps-map _ p (pieces_at inside p) (keeps-each _ (piece_at inside) moves-piece p)

  -- a `|` and a branch move
  pub moves-next_branch : Progress (next_branch_at inside)
  unfolding next_branch_at
  moves-next_branch p =
      moves-then p (expect char.bar p) _ (moves-take_if (is char.bar) p) (λ x q. keeps-branch q)

  keeps-branches : (p : State) → Keeps p (branches_at inside p)
  unfolding branches_at
  keeps-branches p =
      keeps-then p (branch_at inside p) _ (keeps-branch p)
      (λ x q. keeps-map _ q (each (is_at char.bar) (next_branch_at inside) q)
      (keeps-each (is_at char.bar) (next_branch_at inside) moves-next_branch q))

-- what stands in a group leaves no longer text
pub keeps-inside : (n : ℕ) (p : State) → Keeps p (inside_at n p)
unfolding inside_at
keeps-inside zero p = tt
keeps-inside (suc n) p = keeps-branches (inside_at n) (keeps-inside n) p
