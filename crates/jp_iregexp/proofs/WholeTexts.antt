-- Whole texts: what is read is spelt, and nothing else is: for `read_pattern`, and for the law
-- `one_pattern`.
use Rattle.std.proofs.Common.{[], ◌≡◌, ℕ, ◌+◌, refl, subst, arith}
use Rattle.jp_reading.specs.declared.reader.Stop.TheVariants.{Syntax, TooDeep}
use Rattle.jp_reading.specs.Texts.{Text, Spans}
use Rattle.jp_reading.specs.Outcome.{State, took}
use Rattle.jp_reading.specs.Views.{Fails}
use Rattle.jp_reading.proofs.States.Fits.{Fits}
use Rattle.jp_reading.proofs.States.Again.{start, finish, reads-whole, whole-reads}
use Rattle.jp_iregexp.specs.Tree.{Tree}
use Rattle.jp_iregexp.specs.Grammar.{Branches, Grouped, SpellsPattern}
use Rattle.jp_iregexp.specs.Spelled.{SpellsNone, OnePattern}
use Rattle.jp_iregexp.specs.Private.Reading.{pattern_at}
use Rattle.jp_iregexp.proofs.Soundness.Patterns.{fits-pattern, pattern-ends}
use Rattle.jp_iregexp.proofs.NoSpans.{no-spans}
use Rattle.jp_iregexp.proofs.Completeness.Patterns.{again-pattern}
use Rattle.jp_iregexp.proofs.Levels.{deeper}

-- what spells a pattern is read as it
spelt-read : (n : ℕ) (x : Tree) (t : Text) → SpellsPattern n x t
    → pattern_at n (start t) ≡ took x (finish t [])
spelt-read n x t h =
    again-pattern n x (start t) (finish t []) (reads-whole (Branches (Grouped n) x) [] t h.is) refl

-- what is read is spelt
pub read-spelt : (n : ℕ) (x : Tree) (t : Text) (q : State) → pattern_at n (start t) ≡ took x q
    → SpellsPattern n x t
read-spelt n x t q e =
    let whole =
    whole-reads (Branches (Grouped n) x) t q
    (subst (Fits (Branches (Grouped n)) (start t)) e (fits-pattern n (start t)))
    (pattern-ends n (start t) x q e) in
    record {
      is = subst (λ (s : Spans). Branches (Grouped n) x s 0 t)
          (no-spans n x q.found 0 t whole) whole;
    }

-- where reading fails nothing is spelt
pub fails-spelt : (n : ℕ) (t : Text) (place : ℕ) → Fails (Syntax place) (pattern_at n (start t))
    → SpellsNone n t
fails-spelt n t place h x s = subst (Fails (Syntax place)) (spelt-read n x t s) h

pub deep-spelt : (n : ℕ) (t : Text) (place : ℕ) → Fails (TooDeep place) (pattern_at n (start t))
    → SpellsNone n t
deep-spelt n t place h x s = subst (Fails (TooDeep place)) (spelt-read n x t s) h

-- two patterns that a text spells are what the reader takes
pub one_pattern : OnePattern
one_pattern n m x y t h g =
    let a = spelt-read (n + m) x t (deeper n (n + m) (omega arith) x t h) in
    let b = spelt-read (n + m) y t (deeper m (n + m) (omega arith) y t g) in
    cc
