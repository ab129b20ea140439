-- What a scan would still accept (RFC 9485 section 4).
use Rattle.std.specs.Prelude.{◌≡◌, ◌↔◌, ◌⊎◌, ℕ, ◌≤◌, ◌<◌, Bool, IsTrue}
use Rattle.std.specs.Prelude.{true, false, List, ◌++◌, Option, Some, None}
use Rattle.jp_iregexp.specs.Tree.{Tree, tree}
use Rattle.jp_iregexp.specs.Language.{Language}
use Rattle.jp_iregexp.specs.Positions.{positions_of}
use Rattle.jp_match.specs.declared.scan.Scan.{Scan}
use Rattle.jp_match.specs.Private.Plain.{unrolled}
use Rattle.jp_match.specs.Private.Marks.{Rest}

-- some suffix of the word is in the language, the word itself and the empty one included
pub record HasSuffix (L : List ℕ → Type 0) (word : List ℕ) : Type 0 where
  pub before : List ℕ
  pub suffix : List ℕ
  pub is : word ≡ before ++ suffix
  pub holds : L suffix

-- the words that a scan looks for: those of the pattern, or with `anywhere` those that end in one
abbrev pub Sought : Tree → Bool → List ℕ → Type 0
Sought t false word = Language t word
Sought t true word = HasSuffix (Language t) word

-- the pattern that is scanned for
abbrev pub tree_of : Scan → Tree
tree_of scan = tree scan.marking.pattern.now

-- the words that a scan would still accept: those that lead from a mark to the pattern's end, and
-- at the start those that are sought
abbrev pub Left : Scan → List ℕ → Type 0
Left scan word = Rest (unrolled (tree_of scan)) scan.marking.sweep.marks.items word ⊎ (IsTrue
    scan.at_start × Sought (tree_of scan) scan.anywhere word)

-- a scan that has taken no character
pub record IsNew (t : Tree) (anywhere : Bool) (scan : Scan) : Type 0 where
  pub of : tree_of scan ≡ t
  pub left : (word : List ℕ) → Left scan word ↔ Sought t anywhere word

-- there is a scan exactly for patterns of at most 4,096 positions
abbrev pub Begins : Tree → Bool → Option Scan → Type 0
Begins t anywhere None = 4096 < positions_of t
Begins t anywhere (Some scan) = (positions_of t ≤ 4096) × IsNew t anywhere scan
