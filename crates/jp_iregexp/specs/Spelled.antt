-- That a text spells no pattern, for `read_pattern`, and that none spells two, for the law
-- `one_pattern`.
use Rattle.std.specs.Prelude.{◌≡◌, ℕ}
use Rattle.jp_reading.specs.Texts.{Text}
use Rattle.jp_iregexp.specs.Tree.{Tree}
use Rattle.jp_iregexp.specs.Grammar.{SpellsPattern}

-- a text spells no pattern with at most n groups inside one another
abbrev pub SpellsNone : ℕ → Text → Type 0
SpellsNone n text = (x : Tree) → SpellsPattern n x text → ⊥

-- no text spells two patterns, however many groups may stand inside one another
abbrev pub OnePattern : Type 0
OnePattern =
    (n m : ℕ) (x y : Tree) (text : Text) → SpellsPattern n x text → SpellsPattern m y text → x ≡ y
