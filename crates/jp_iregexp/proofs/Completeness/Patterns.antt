-- What spells a pattern, before what may follow it, is read as it: for whole texts.
use Rattle.std.proofs.Common.{◌≡◌, ℕ, zero, suc, true, false, ◌==◌, List, [], ◌∷◌, length}
use Rattle.std.proofs.Common.{Option, Some, None, inl, inr, refl, sym, ap, ◌∙◌, subst}
use Rattle.std.specs.Prelude.{codes}
use Rattle.std.proofs.lemmas.Bool.{cases_Bool, eqb-true}
use Rattle.jp_reading.specs.Characters as char
use Rattle.jp_reading.specs.Texts.{Text}
use Rattle.jp_reading.specs.Forms.{Form, ◌⌢◌, word, One, Each, Separated}
use Rattle.jp_reading.specs.Outcome.{State, Outcome, took, stuck, deep, ◌>>=◌}
use Rattle.jp_reading.specs.Outcome.{head, past, passes, is, is_at, each}
use Rattle.jp_reading.specs.Texts.{first_of}
use Rattle.jp_reading.specs.Views.{outcome_map}
use Rattle.jp_reading.proofs.States.Steps.{head-is, is-other, is_at-other}
use Rattle.jp_reading.proofs.States.Between.{Reads, reads-is}
use Rattle.jp_reading.proofs.States.Again.{Again, Starts, split, word-first, one-first}
use Rattle.jp_reading.proofs.States.Again.{again-take_if}
use Rattle.jp_reading.proofs.States.Again.{again-expect, again-each, again-separated, at-word}
use Rattle.jp_reading.proofs.States.Again.{past-word}
use Rattle.jp_reading.proofs.States.Loops.{round}
use Rattle.jp_reading.proofs.States.Progress.{Keeps}
use Rattle.jp_iregexp.specs.declared.class.ClassElement.{ClassElement}
use Rattle.jp_iregexp.specs.Characters.{PatternCharacter, itself, escaped, is_normal, is_escaped}
use Rattle.jp_iregexp.specs.Characters.{meant}
use Rattle.jp_iregexp.specs.Tree.{Tree, class, repeat, branches}
use Rattle.jp_iregexp.specs.Grammar as grammar
use Rattle.jp_iregexp.specs.Grammar.{ClassEscape, Elements}
use Rattle.jp_iregexp.specs.Grammar.{NotAtCaret, Class, Quantifier, one, dot}
use Rattle.jp_iregexp.specs.Grammar.{Atom, Piece, Branch, Branches, Grouped}
use Rattle.jp_iregexp.specs.Private.Reading.{is_category_sign, escape_at, group_at, atom_at}
use Rattle.jp_iregexp.specs.Private.Reading.{piece_at, branch_at, next_branch_at, branches_at}
use Rattle.jp_iregexp.specs.Private.Reading.{inside_at, pattern_at, begins_piece, begins_quantifier}
use Rattle.jp_iregexp.proofs.Progress.{moves-piece, moves-next_branch, keeps-inside}
use Rattle.jp_iregexp.proofs.Completeness.Characters.{escaped-no-sign, again-escaped}
use Rattle.jp_iregexp.proofs.Completeness.Characters.{again-escape, Escaped}
use Rattle.jp_iregexp.proofs.Completeness.Classes.{again-class}
use Rattle.jp_iregexp.proofs.Completeness.Quantifiers.{again-quantifier, QuantifierRead}

-- a character that stands for itself begins a piece and no quantifier
normal-piece : (c : ℕ) → is_normal c ≡ true → begins_piece c ≡ true
unfolding is_normal
normal-piece c h = rw (
  is-other is_normal c char.bar h refl,
  is-other is_normal c
      char.closing_parenthesis h refl,
) refl

normal-quantifier : (c : ℕ) → is_normal c ≡ true → begins_quantifier c ≡ false
unfolding is_normal
normal-quantifier c h =
    rw (
      is-other is_normal c char.star h refl,
      is-other is_normal c char.plus h refl,
      is-other is_normal c char.question_mark h refl,
      is-other is_normal c char.opening_brace h refl,
    ) refl

-- what may follow a piece, a branch and branches
record AfterPiece (t : Text) : Type 0 where
  none : passes begins_quantifier (first_of t) ≡ false

record AfterBranch (t : Text) : Type 0 where
  none : passes begins_piece (first_of t) ≡ false

record AfterBranches (t : Text) : Type 0 where
  branch : AfterBranch t
  bar : passes (is char.bar) (first_of t) ≡ false

branch-quantifier : (o : Option ℕ) → passes begins_piece o ≡ false
    → passes begins_quantifier o ≡ false
branch-quantifier None h = refl
branch-quantifier (Some c) h =
    elim (cases_Bool (is char.bar c)) [
      | inl bar ↦ rw (eqb-true c char.bar bar) refl
      | inr none ↦ elim (cases_Bool (is char.closing_parenthesis c)) [
        | inl paren ↦ rw (eqb-true c char.closing_parenthesis paren) refl
        | inr nor ↦ absurd (let e : begins_piece c ≡ true = rw (none, nor) refl in cc)
      ]
    ]

-- a class begins with `[`
class-first : (x : Tree) (p q : State) → Reads (Class x) p q → head p ≡ Some char.opening_bracket
class-first x p q h = elim h.is [
  | grammar.plain xs e g ↦
      (let parts =
      split (word (codes "[")) (NotAtCaret xs ⌢ word (codes "]")) p q
      (reads-is (Class x) (word (codes "[") ⌢ NotAtCaret xs ⌢ word (codes "]")) p q h g) in
      word-first char.opening_bracket [] p parts.middle parts.one)
  | grammar.negated xs e g ↦
      (let parts =
      split (word (codes "[^")) (Elements xs ⌢ word (codes "]")) p q
      (reads-is (Class x) (word (codes "[^") ⌢ Elements xs ⌢ word (codes "]")) p q h g) in
      word-first char.opening_bracket (codes "^") p parts.middle parts.one)
]

-- branches as a list of one or more
branches-round : (o : Outcome Tree) (f : State → Outcome (List Tree))
    → (o >>= λ x q. outcome_map (λ xs. branches (x ∷ xs)) (f q)) ≡ outcome_map branches (round o f)
branches-round (took x q) f = along (f q)
  where
    along : (r : Outcome (List Tree))
        → outcome_map (λ xs. branches (x ∷ xs)) r ≡ outcome_map branches (r >>= λ xs q. took (x ∷ xs) q)
    along (took xs q) = refl
    along (stuck q) = refl
    along (deep q) = refl
branches-round (stuck q) f = refl
branches-round (deep q) f = refl

module _ (Group : Tree → Form) (inside : State → Outcome Tree)
    (again : (x : Tree) (p q : State) → Reads (Group x) p q → is_at char.closing_parenthesis q
    ≡ true
    → inside p ≡ took x q)
    (keeps : (p : State) → Keeps p (inside p)) where
  -- an atom is read where it begins
  record AtomRead (x : Tree) (p q : State) : Type 0 where
    first : ℕ
    at : head p ≡ Some first
    piece : begins_piece first ≡ true
    none : begins_quantifier first ≡ false
    is : atom_at inside p ≡ took x q

  atom-normal : (c : ℕ) (p q : State) → Reads (One is_normal c) p q → AtomRead (one c) p q
  unfolding atom_at is_normal
  atom-normal c p q h =
      let e = one-first is_normal c p q h in
      let passing = h.is.passes in
      record {
        first = c;
        at = e;
        piece = normal-piece c passing;
        none = normal-quantifier c passing;
        is = rw (
          is_at-other is_normal c char.opening_parenthesis p e passing refl,
          is_at-other is_normal c char.opening_bracket p e passing refl,
          is_at-other is_normal c char.dot p e passing refl,
          is_at-other is_normal c char.backslash p e passing refl,
          again-take_if is_normal c p q h,
        ) refl;
      }

  -- an atom that begins with a sign: neither a plain character nor a quantifier does
  atom-sign : (sign : ℕ) (x : Tree) (p q : State) → head p ≡ Some sign
      → begins_piece sign ≡ true → begins_quantifier sign ≡ false → atom_at inside p ≡ took x q
      → AtomRead x p q
  atom-sign sign x p q at piece none is =
      record { first = sign; at = at; piece = piece; none = none; is = is }

  -- after a `\`
  atom-after_backslash : (x : Tree) (p q : State) → is_at char.backslash p ≡ true
      → escape_at (past p)
      ≡ took x q
      → AtomRead x p q
  unfolding atom_at
  atom-after_backslash x p q at read =
      let e = head-is char.backslash p at in
      atom-sign char.backslash x p q e refl refl
      (rw (
        ap (passes (is char.opening_parenthesis)) e,
        ap (passes (is char.opening_bracket)) e,
        ap (passes (is char.dot)) e,
        at,
      ) read)

  atom-escaped : (c e : ℕ) (p q : State) → c ≡ meant e
      → Reads (word (codes "\\") ⌢ One is_escaped e) p q → AtomRead (one c) p q
  unfolding escape_at
  atom-escaped c e p q is_meant h =
      let parts = split (word (codes "\\")) (One is_escaped e) p q h in
      let m = parts.middle in
      atom-after_backslash (one c) p q (at-word char.backslash [] p m parts.one)
      (rw (
        past-word char.backslash p m parts.one,
        ap (passes is_category_sign) (one-first is_escaped e m q parts.two)
            ∙ escaped-no-sign e parts.two.is.passes,
        again-escaped e m q parts.two,
        is_meant,
      ) refl)

  atom-category : (i : ClassElement) (p q : State) → Escaped i p q
      → AtomRead (class false (i ∷ [])) p q
  unfolding escape_at
  atom-category i p q h = atom-after_backslash (class false (i ∷ [])) p q h.at
      (rw (h.sign, h.is) refl)

  atom-dot : (p q : State) → Reads (word (codes ".")) p q → AtomRead dot p q
  unfolding atom_at
  atom-dot p q h =
      let e = word-first char.dot [] p q h in
      atom-sign char.dot dot p q e refl refl
      (rw (
        ap (passes (is char.opening_parenthesis)) e,
        ap (passes (is char.opening_bracket)) e,
        ap (passes (is char.dot)) e,
        past-word char.dot p q h,
      ) refl)

  atom-class : (x : Tree) (p q : State) → head p ≡ Some char.opening_bracket → Reads (Class x) p q
      → AtomRead x p q
  unfolding atom_at
  atom-class x p q e h = atom-sign char.opening_bracket x p q e refl refl
      (rw (ap (passes (is char.opening_parenthesis)) e, ap (passes (is char.opening_bracket)) e)
      (again-class x p q h))

  atom-group : (x : Tree) (p q : State)
      → Reads (word (codes "(") ⌢ Group x ⌢ word (codes ")")) p q → AtomRead x p q
  unfolding atom_at group_at
  atom-group x p q h =
      let parts = split (word (codes "(")) (Group x ⌢ word (codes ")")) p q h in
      let m = parts.middle in
      let tail = split (Group x) (word (codes ")")) m q parts.two in
      let r = tail.middle in
      atom-sign char.opening_parenthesis x p q
      (word-first char.opening_parenthesis [] p m parts.one) refl refl
      (rw (
        at-word char.opening_parenthesis [] p m parts.one,
        again-expect char.opening_parenthesis p m parts.one,
        again x m r tail.one (at-word char.closing_parenthesis [] r q tail.two),
        again-expect char.closing_parenthesis r q tail.two,
      ) refl)

  again-atom : (x : Tree) (p q : State) → Reads (Atom Group x) p q → AtomRead x p q
  again-atom x p q h = elim h.is [
    | grammar.character c e g ↦
        subst (λ y. AtomRead y p q) (sym e)
        (character-read c (reads-is (Atom Group x) (PatternCharacter is_normal c) p q h g))
    | grammar.anything e g ↦
        subst (λ y. AtomRead y p q) (sym e)
        (atom-dot p q (reads-is (Atom Group x) (word (codes ".")) p q h g))
    | grammar.category i e g ↦
        subst (λ y. AtomRead y p q) (sym e)
        (atom-category i p q
        (again-escape i p q (reads-is (Atom Group x) (ClassEscape i) p q h g)))
    | grammar.brackets g ↦
        (let read = reads-is (Atom Group x) (Class x) p q h g in
        atom-class x p q (class-first x p q read) read)
    | grammar.group g ↦
        atom-group x p q
        (reads-is (Atom Group x) (word (codes "(") ⌢ Group x ⌢ word (codes ")")) p q h g)
  ]
    where
      character-read : (c : ℕ) → Reads (PatternCharacter is_normal c) p q → AtomRead (one c) p q
      character-read c g = elim g.is [
        | itself k ↦ atom-normal c p q (reads-is (PatternCharacter is_normal c) (One is_normal c) p q g k)
        | escaped e is k ↦
            atom-escaped c e p q is
            (reads-is (PatternCharacter is_normal c) (word (codes "\\") ⌢ One is_escaped e) p q g k)
      ]

  piece-once : (x : Tree) (p q : State) → AtomRead x p q → AfterPiece q.rest
      → piece_at inside p ≡ took x q
  unfolding piece_at
  piece-once x p q h after = rw (h.is, after.none) refl

  piece-repeated : (a : Tree) (least : ℕ) (most : Option ℕ) (p m q : State) → AtomRead a p m
      → QuantifierRead least most m q → piece_at inside p ≡ took (repeat a least most) q
  unfolding piece_at
  piece-repeated a least most p m q h k = rw (h.is, k.begins, k.is) refl

  again-piece : Again (Piece Group) AfterPiece (piece_at inside)
  again-piece x p q h after = elim h.is [
    | grammar.once g ↦
        piece-once x p q (again-atom x p q (reads-is (Piece Group x) (Atom Group x) p q h g)) after
    | grammar.repeated a least most e g ↦
        (let parts =
        split (Atom Group a) (Quantifier least most) p q
        (reads-is (Piece Group x) (Atom Group a ⌢ Quantifier least most) p q h g) in
        piece-repeated a least most p parts.middle q (again-atom a p parts.middle parts.one)
        (again-quantifier least most parts.middle q parts.two)
        ∙ ap (λ y. took y q) (sym e))
  ]

  atom-starts : (x : Tree) (p q : State) → AtomRead x p q
      → (passes begins_piece (head p) ≡ true) × AfterPiece p.rest
  atom-starts x p q h = (
    ap (passes begins_piece) h.at ∙ h.piece,
    record { none = ap (passes begins_quantifier) h.at ∙ h.none },
  )

  starts-piece : Starts (Piece Group) AfterPiece (λ q. passes begins_piece (head q))
  starts-piece x p q h = elim h.is [
    | grammar.once g ↦
        atom-starts x p q (again-atom x p q (reads-is (Piece Group x) (Atom Group x) p q h g))
    | grammar.repeated a least most e g ↦
        (let parts =
        split (Atom Group a) (Quantifier least most) p q
        (reads-is (Piece Group x) (Atom Group a ⌢ Quantifier least most) p q h g) in
        atom-starts a p parts.middle (again-atom a p parts.middle parts.one))
  ]

  again-branch : Again (Branch Group) AfterBranch (branch_at inside)
  unfolding branch_at
  again-branch x p q h after =
      let parts = h.is.parts in
      rw (
        again-each (Piece Group) AfterPiece (λ r. passes begins_piece (head r)) (piece_at inside)
            (moves-piece inside keeps) again-piece starts-piece
            parts p q (reads-is (Branch Group x) (Each (Piece Group) parts) p q h h.is.is)
            after.none
            (record { none = branch-quantifier (head q) after.none }),
        h.is.tree,
      ) refl

  again-next_branch : Again (λ x. word (codes "|") ⌢ Branch Group x) AfterBranch
      (next_branch_at inside)
  unfolding next_branch_at
  again-next_branch x p q h after =
      let parts = split (word (codes "|")) (Branch Group x) p q h in
      rw (again-expect char.bar p parts.middle parts.one)
      (again-branch x parts.middle q parts.two after)

  starts-next_branch : Starts (λ x. word (codes "|") ⌢ Branch Group x) AfterBranch (is_at char.bar)
  starts-next_branch x p q h =
      let parts = split (word (codes "|")) (Branch Group x) p q h in
      let e = word-first char.bar [] p parts.middle parts.one in
      (ap (passes (is char.bar)) e, record { none = ap (passes begins_piece) e })

  again-branches : Again (Branches Group) AfterBranches (branches_at inside)
  unfolding branches_at
  again-branches x p q h after =
      let parts = h.is.parts in
      branches-round (branch_at inside p) (each (is_at char.bar) (next_branch_at inside))
      ∙ ap (outcome_map branches)
      (again-separated (word (codes "|")) (Branch Group) AfterBranch (is_at char.bar)
      (branch_at inside) (next_branch_at inside) (moves-next_branch inside keeps) again-branch
      again-next_branch starts-next_branch parts p q
      (reads-is (Branches Group x) (Separated (word (codes "|")) (Branch Group) parts) p q h
      h.is.is) after.bar after.branch)
      ∙ ap (λ y. took y q) (sym h.is.tree)

again-inside : (n : ℕ) (x : Tree) (p q : State) → Reads (Grouped n x) p q
    → is_at char.closing_parenthesis q ≡ true
    → inside_at n p ≡ took x q
unfolding inside_at
again-inside zero x p q h at = elim h.is [ ]
again-inside (suc n) x p q h at =
    let e = head-is char.closing_parenthesis q at in
    again-branches (Grouped n) (inside_at n) (again-inside n) (keeps-inside n) x p q h
    (record {
      branch = record { none = ap (passes begins_piece) e };
      bar = ap (passes (is char.bar)) e;
    })

-- a whole pattern
pub again-pattern : (n : ℕ) (x : Tree) (p q : State) → Reads (Branches (Grouped n) x) p q
    → q.rest ≡ [] → pattern_at n p ≡ took x q
unfolding pattern_at
again-pattern n x p q h e =
    let after : AfterBranches q.rest = record {
      branch = record { none = ap (λ t. passes begins_piece (first_of t)) e };
      bar = ap (λ t. passes (is char.bar) (first_of t)) e;
    } in
    rw (
      again-branches (Grouped n) (inside_at n) (again-inside n) (keeps-inside n) x p q h after,
      ap (λ (t : Text). length t == 0) e,
    ) refl
