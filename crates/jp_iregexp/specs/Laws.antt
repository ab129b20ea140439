-- Laws on the words of branches, sequences and repeats, over lists of parts.
use Rattle.std.specs.Prelude.{◌≡◌, ◌↔◌, ℕ, ◌≤◌, List, Option, length, Any, All}
use Rattle.std.specs.List.{AllZip, concat}
use Rattle.jp_iregexp.specs.Tree.{Tree, branches, pieces, repeat}
use Rattle.jp_iregexp.specs.Language.{Language, IsAtMost}

-- a word is in the language of branches exactly if it is in that of one of them
abbrev pub BranchesUnite : Type 0
BranchesUnite =
    (bs : List Tree) (word : List ℕ) → Language (branches bs) word ↔ Any (λ b. Language b word) bs

-- a word is in the language of a sequence exactly if it can be cut into as many words as there are
-- pieces, each in the language of its piece
abbrev pub SequencesCut : Type 0
SequencesCut =
    (ps : List Tree) (word : List ℕ)
    → Language (pieces ps) word
    ↔ ((words : List (List ℕ)) × (word ≡ concat words) × AllZip Language ps words)

-- a word is in the language of a repeat exactly if it can be cut into words of the inner pattern,
-- at least the least and, where there is a most, at most the most of them
abbrev pub RepeatsCut : Type 0
RepeatsCut = (a : Tree) (least : ℕ) (most : Option ℕ) (word : List ℕ)
    → Language (repeat a least most) word
    ↔ ((words : List (List ℕ)) × (word ≡ concat words) × (least ≤ length words)
    × IsAtMost most (length words) × All (Language a) words)
