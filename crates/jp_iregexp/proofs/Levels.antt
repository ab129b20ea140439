-- A text that spells a pattern with so many groups inside one another spells it also where more are
-- allowed: for the law `one_pattern`.
use Rattle.std.proofs.Common.{[], ℕ, zero, suc, ◌≤◌, arith}
use Rattle.std.specs.Prelude.{codes}
use Rattle.jp_reading.specs.Texts.{Text}
use Rattle.jp_reading.specs.Forms.{Form, ◌⌢◌, word}
use Rattle.jp_reading.proofs.States.Between.{Within}
use Rattle.jp_reading.proofs.Forms.Levels.{joined-lifts, each-lifts, separated-lifts}
use Rattle.jp_iregexp.specs.Tree.{Tree}
use Rattle.jp_iregexp.specs.Grammar as grammar
use Rattle.jp_iregexp.specs.Grammar.{Quantifier, Atom, Piece, Branch}
use Rattle.jp_iregexp.specs.Grammar.{Branches, Grouped, SpellsPattern}

module _ (G H : Tree → Form) (lift : (x : Tree) → Within (G x) (H x)) where
  lift-atom : (x : Tree) → Within (Atom G x) (Atom H x)
  lift-atom x s o t (grammar.character c e h) = grammar.character c e h
  lift-atom x s o t (grammar.anything e h) = grammar.anything e h
  lift-atom x s o t (grammar.category i e h) = grammar.category i e h
  lift-atom x s o t (grammar.brackets h) = grammar.brackets h
  lift-atom x s o t (grammar.group h) =
      grammar.group
      (joined-lifts (word (codes "(")) (word (codes "(")) (G x ⌢ word (codes ")"))
      (H x ⌢ word (codes ")")) (λ s o t h. h)
      (joined-lifts (G x) (H x) (word (codes ")")) (word (codes ")")) (lift x) (λ s o t h. h))
      s o t h)

  lift-piece : (x : Tree) → Within (Piece G x) (Piece H x)
  lift-piece x s o t (grammar.once h) = grammar.once (lift-atom x s o t h)
  lift-piece x s o t (grammar.repeated a least most e h) =
      grammar.repeated a least most e
      (joined-lifts (Atom G a) (Atom H a) (Quantifier least most) (Quantifier least most)
      (lift-atom a) (λ s o t h. h) s o t h)

  lift-branch : (x : Tree) → Within (Branch G x) (Branch H x)
  lift-branch x s o t h = record {
    parts = h.parts;
    tree = h.tree;
    is = each-lifts (Piece G) (Piece H) lift-piece h.parts s o t h.is;
  }

  pub lift-branches : (x : Tree) → Within (Branches G x) (Branches H x)
  lift-branches x s o t h = record {
    parts = h.parts;
    tree = h.tree;
    is = separated-lifts (word (codes "|")) (Branch G) (Branch H) lift-branch h.parts s o t h.is;
  }

lift-inside : (n m : ℕ) → n ≤ m → (x : Tree) → Within (Grouped n x) (Grouped m x)
lift-inside zero m h x s o t g = elim g [ ]
lift-inside (suc n) zero h x s o t g = absurd (omega arith)
lift-inside (suc n) (suc m) h x s o t g =
    lift-branches (Grouped n) (Grouped m) (lift-inside n m (omega arith)) x s o t g

-- more groups may stand inside one another
pub deeper : (n m : ℕ) → n ≤ m → (x : Tree) (t : Text) → SpellsPattern n x t → SpellsPattern m x t
deeper n m h x t g =
    record { is = lift-branches (Grouped n) (Grouped m) (lift-inside n m h) x [] 0 t g.is }
