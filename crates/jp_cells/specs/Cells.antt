-- What stands in a cell: the values that a query selects in a document.
use Rattle.std.specs.Prelude.{ℕ, Bool, true, false, List, [], ◌∷◌, map}
use Rattle.jp_document.specs.Node.{Node}
use Rattle.jp_document.specs.Text.{text_of}
use Rattle.jp_document.specs.Value.{Value, list, items_of}
use Rattle.jp_lent.specs.Raw.{raw_text}

-- the values of nodes
abbrev pub values_in : List Node → List Value
values_in ns = map (λ n. n.value) ns

-- a value that stands alone: raw, or its JSON text
abbrev pub text_alone : Bool → Value → List ℕ
text_alone true v = raw_text v
text_alone false v = text_of v

-- nothing where there is no value, a value alone, or a JSON list of several
abbrev pub cell_text : Bool → List Value → List ℕ
cell_text raw [] = []
cell_text raw (v ∷ []) = text_alone raw v
cell_text raw (v ∷ w ∷ vs) = text_of (list (items_of (v ∷ w ∷ vs)))
