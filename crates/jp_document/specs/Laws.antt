-- Laws about the definitions.
use Rattle.std.specs.Prelude.{◌≡◌, ◌↔◌, ◌⊎◌, ℕ, List, true}
use Rattle.jp_document.specs.Document.{Defect, HasDefect, IsDocument}
use Rattle.jp_document.specs.Location.{Location}
use Rattle.jp_document.specs.Node.{Node, StandsIn}
use Rattle.jp_document.specs.Path.{path_of}
use Rattle.jp_document.specs.Value.{IsDocumentValue, NamesRise, Value, everywhere, is_no_decimal}

-- two lists of steps have one path exactly if they are equal (RFC 9535 section 2.7)
abbrev pub PathsDiffer : Type 0
PathsDiffer = (l m : Location) → (path_of l ≡ path_of m) ↔ (l ≡ m)

-- two nodes of a document have one path exactly if they are the same node
abbrev pub NodesDiffer : Type 0
NodesDiffer = (d : Value) (n m : Node) → StandsIn d n → StandsIn d m
    → (path_of n.location ≡ path_of m.location) ↔ (n ≡ m)

-- bytes are a document, and the document of one value, or have a defect, and one alone; and not
-- both
pub record IsDocumentOrDefect (bytes : List ℕ) : Type 0 where
  pub answered : ((v : Value) × IsDocument bytes v) ⊎ ((x : Defect) × HasDefect bytes x)
  pub one_value : (v w : Value) → IsDocument bytes v → IsDocument bytes w → v ≡ w
  pub one_defect : (x y : Defect) → HasDefect bytes x → HasDefect bytes y → x ≡ y
  pub not_both : (v : Value) (x : Defect) → IsDocument bytes v → HasDefect bytes x → ⊥

-- whatever the bytes
abbrev pub DocumentOrDefect : Type 0
DocumentOrDefect = (bytes : List ℕ) → IsDocumentOrDefect bytes

-- the numbers of a document are whole
abbrev pub NumbersAreWhole : Type 0
NumbersAreWhole = (bytes : List ℕ) (v : Value) → IsDocument bytes v → everywhere is_no_decimal v ≡ true

-- names rise in each document's value
abbrev pub DocumentNamesRise : Type 0
DocumentNamesRise = (v : Value) → IsDocumentValue v → NamesRise v
