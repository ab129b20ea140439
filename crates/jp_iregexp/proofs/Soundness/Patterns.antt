-- The patterns that the reader takes have the forms of their trees: for whole texts.
use Rattle.std.proofs.Common.{◌≡◌, ℕ, zero, suc, true, false, cond, ◌==◌}
use Rattle.std.proofs.Common.{[], ◌∷◌, length, inl, inr, refl, subst, arith}
use Rattle.std.specs.Prelude.{codes}
use Rattle.std.proofs.lemmas.Bool.{cases_Bool, eqb-true}
use Rattle.jp_reading.specs.Characters as char
use Rattle.jp_reading.specs.Texts.{Text}
use Rattle.jp_reading.specs.Forms.{Form, ◌⌢◌, word, One, Each, Separated}
use Rattle.jp_reading.specs.Outcome.{State, Outcome, took, stuck, deep, ◌>>=◌, head}
use Rattle.jp_reading.specs.Outcome.{past, passes, is_at, is_end, take_if, expect, each}
use Rattle.jp_reading.proofs.States.Between.{Reads, reads-then, reads-as}
use Rattle.jp_reading.proofs.States.Fits.{reads-next, Fits, fits-then, fits-if, fits-map}
use Rattle.jp_reading.proofs.States.Fits.{fits-as, fits-take_if, fits-expect, fits-each}
use Rattle.jp_iregexp.specs.Characters.{PatternCharacter, itself, is_normal}
use Rattle.jp_iregexp.specs.Tree.{Tree, class, repeat, branches, pieces}
use Rattle.jp_iregexp.specs.Grammar as grammar
use Rattle.jp_iregexp.specs.Grammar.{ClassEscape}
use Rattle.jp_iregexp.specs.Grammar.{Class, Quantifier, one, dot}
use Rattle.jp_iregexp.specs.Grammar.{Atom, Piece, Branch, Branches, Grouped}
use Rattle.jp_iregexp.specs.Private.Reading.{escaped_at, is_category_sign, category_at, class_at}
use Rattle.jp_iregexp.specs.Private.Reading.{quantifier_at, escape_at, group_at, atom_at, piece_at}
use Rattle.jp_iregexp.specs.Private.Reading.{pieces_at, branch_at, next_branch_at, branches_at}
use Rattle.jp_iregexp.specs.Private.Reading.{inside_at, pattern_at, begins_piece, begins_quantifier}
use Rattle.jp_iregexp.proofs.Soundness.Characters.{fits-escaped, fits-category}
use Rattle.jp_iregexp.proofs.Soundness.Classes.{fits-class}
use Rattle.jp_iregexp.proofs.Soundness.Quantifiers.{fits-quantifier, Counted}

module _ (Group : Tree → Form) (inside : State → Outcome Tree)
    (fits : (p : State) → Fits Group p (inside p)) where
  fits-escape : (p q : State) → Reads (word (codes "\\")) p q → Fits (Atom Group) p (escape_at q)
  unfolding escape_at
  fits-escape p q beyond =
      fits-if (Atom Group) (passes is_category_sign (head q)) p _ _
      (λ h. fits-map (λ i. class false (i ∷ [])) ClassEscape (Atom Group) p p (category_at q)
      (fits-category p q beyond)
      (λ i r g. reads-as (ClassEscape i) (Atom Group (class false (i ∷ []))) p r
      (λ s o t k. grammar.category i refl k) g))
      (λ h. fits-map one (PatternCharacter is_normal) (Atom Group) p p (escaped_at q)
      (fits-escaped is_normal p q beyond)
      (λ c r g. reads-as (PatternCharacter is_normal c) (Atom Group (one c)) p r
      (λ s o t k. grammar.character c refl k) g))

  fits-group : (p : State) → Fits (Atom Group) p (group_at inside p)
  unfolding group_at
  fits-group p =
      fits-then (λ x. word (codes "(")) (Atom Group) p p (expect char.opening_parenthesis p) _
      (fits-expect char.opening_parenthesis p)
      (λ x q opening. fits-then Group (Atom Group) p q (inside q) _ (fits q)
      (λ a r group. fits-then (λ x. word (codes ")")) (Atom Group) p r
      (expect char.closing_parenthesis r) _
      (fits-expect char.closing_parenthesis r)
      (λ y u closing. reads-as (word (codes "(") ⌢ Group a ⌢ word (codes ")")) (Atom Group a) p u
      (λ s o t g. grammar.group g)
      (reads-then (word (codes "(")) (Group a ⌢ word (codes ")")) p q u opening
      (reads-then (Group a) (word (codes ")")) q r u group closing)))))

  fits-atom : (p : State) → Fits (Atom Group) p (atom_at inside p)
  unfolding atom_at
  fits-atom p =
      fits-if (Atom Group) (is_at char.opening_parenthesis p) p (group_at inside p) _
      (λ h. fits-group p)
      (λ h. fits-if (Atom Group) (is_at char.opening_bracket p) p (class_at p) _
      (λ h. fits-as Class (Atom Group) p (class_at p) (λ x s o t g. grammar.brackets g)
      (fits-class p))
      (λ h. fits-if (Atom Group) (is_at char.dot p) p (took dot (past p)) _
      (λ h. reads-as (word (codes ".")) (Atom Group dot) p (past p)
      (λ s o t g. grammar.anything refl g) (reads-next char.dot p h))
      (λ h. fits-if (Atom Group) (is_at char.backslash p) p (escape_at (past p)) _
      (λ h. fits-escape p (past p) (reads-next char.backslash p h))
      (λ h. fits-map one (One is_normal) (Atom Group) p p (take_if is_normal p)
      (fits-take_if is_normal p)
      (λ c q g. reads-as (One is_normal c) (Atom Group (one c)) p q
      (λ s o t k. grammar.character c refl (itself k)) g)))))

  fits-piece : (p : State) → Fits (Piece Group) p (piece_at inside p)
  unfolding piece_at
  fits-piece p =
      fits-then (Atom Group) (Piece Group) p p (atom_at inside p) _ (fits-atom p)
      (λ a q atom. fits-if (Piece Group) (passes begins_quantifier (head q)) p _ (took a q)
      (λ h. fits-map (λ k. repeat a k.least k.most) Counted (Piece Group) p q (quantifier_at q)
      (fits-quantifier q)
      (λ k r count. reads-as (Atom Group a ⌢ Quantifier k.least k.most)
      (Piece Group (repeat a k.least k.most)) p r
      (λ s o t g. grammar.repeated a k.least k.most refl g)
      (reads-then (Atom Group a) (Quantifier k.least k.most) p q r atom count)))
      (λ h. reads-as (Atom Group a) (Piece Group a) p q (λ s o t g. grammar.once g) atom))

  fits-branch : (p : State) → Fits (Branch Group) p (branch_at inside p)
  unfolding branch_at
  fits-branch p =
      fits-map pieces (Each (Piece Group)) (Branch Group) p p (pieces_at inside p)
      (fits-each (Piece Group) (λ m. passes begins_piece (head m)) (piece_at inside) fits-piece p)
      (λ xs q h. reads-as (Each (Piece Group) xs) (Branch Group (pieces xs)) p q
      (λ s o t g. record {
        parts = xs;
        tree = refl;
        is = g;
      }) h)

  fits-next_branch : (p : State)
      → Fits (λ x. word (codes "|") ⌢ Branch Group x) p (next_branch_at inside p)
  unfolding next_branch_at
  fits-next_branch p =
      fits-then (λ x. word (codes "|")) (λ x. word (codes "|") ⌢ Branch Group x) p p
      (expect char.bar p)
      (λ y q. branch_at inside q) (fits-expect char.bar p)
      (λ y q bar. along p q (branch_at inside q) bar (fits-branch q))
    where
      along : (p q : State) (o : Outcome Tree) → Reads (word (codes "|")) p q
          → Fits (Branch Group) q o → Fits (λ x. word (codes "|") ⌢ Branch Group x) p o
      along p q (took x r) bar h = reads-then (word (codes "|")) (Branch Group x) p q r bar h
      along p q (stuck r) bar h = tt
      along p q (deep r) bar h = tt

  pub fits-branches : (p : State) → Fits (Branches Group) p (branches_at inside p)
  unfolding branches_at
  fits-branches p =
      fits-then (Branch Group) (Branches Group) p p (branch_at inside p) _ (fits-branch p)
      (λ x q first. fits-map (λ xs. branches (x ∷ xs))
      (Each (λ y. word (codes "|") ⌢ Branch Group y)) (Branches Group) p q
      (each (is_at char.bar) (next_branch_at inside) q)
      (fits-each (λ y. word (codes "|") ⌢ Branch Group y) (is_at char.bar)
      (next_branch_at inside) fits-next_branch q)
      (λ xs r more. reads-as (Separated (word (codes "|")) (Branch Group) (x ∷ xs))
      (Branches Group (branches (x ∷ xs))) p r (λ s o t g. record {
        parts = x ∷ xs;
        tree = refl;
        is = g;
      })
      (reads-then (Branch Group x) (Each (λ y. word (codes "|") ⌢ Branch Group y) xs) p q r
      first more)))

fits-inside : (n : ℕ) (p : State) → Fits (Grouped n) p (inside_at n p)
unfolding inside_at
fits-inside zero p = tt
fits-inside (suc n) p = fits-branches (Grouped n) (inside_at n) (fits-inside n) p

-- a whole pattern
pub fits-pattern : (n : ℕ) (p : State) → Fits (Branches (Grouped n)) p (pattern_at n p)
unfolding pattern_at
fits-pattern n p =
    fits-then (Branches (Grouped n)) (Branches (Grouped n)) p p (branches_at (inside_at n) p) _
    (fits-branches (Grouped n) (inside_at n) (fits-inside n) p)
    (λ x q h. fits-if (Branches (Grouped n)) (is_end q) p (took x q) (stuck q) (λ e. h) (λ e. tt))

-- where a whole pattern was read the text is at its end
pub pattern-ends : (n : ℕ) (p : State) (x : Tree) (q : State) → pattern_at n p ≡ took x q
    → q.rest ≡ []
unfolding pattern_at
pattern-ends n p x q e = ends (branches_at (inside_at n) p) e
  where
    empty : (t : Text) → (length t == 0) ≡ true → t ≡ []
    empty [] h = refl
    empty (c ∷ t) h = absurd (let none = eqb-true (length (c ∷ t)) 0 h in omega arith)

    ends : (o : Outcome Tree) → (o >>= λ y r. cond (is_end r) (took y r) (stuck r)) ≡ took x q
        → q.rest ≡ []
    ends (took y r) h = elim (cases_Bool (is_end r)) [
      | inl on ↦
          (let same : took y r ≡ took x q = rw on at h in
          let whole : r ≡ q = cc in subst (λ (u : State). u.rest ≡ []) whole (empty r.rest on))
      | inr off ↦ (let differ : stuck r ≡ took x q = rw off at h in cc)
    ]
    ends (stuck r) h = cc
    ends (deep r) h = cc
