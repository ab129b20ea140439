-- What is printed of the values one step inside another: for `push_parts` and `push_enclosed`.
use Rattle.std.specs.Prelude.{ℕ, List, [], ◌∷◌, ◌++◌, map}
use Rattle.std.specs.List.{join_with_byte}
use Rattle.jp_reading.specs.Characters.{colon, comma}
use Rattle.jp_document.specs.Location.{Step, entries, named, nth}
use Rattle.jp_document.specs.Text.{string_text, text_of}
use Rattle.jp_document.specs.Value.{Value}

-- a member's name and a colon; of an item nothing
abbrev pub name_text : Step → List ℕ
name_text (named n) = string_text n ++ colon ∷ []
name_text (nth i) = []

abbrev pub part_text : Step × Value → List ℕ
part_text e = name_text e.0 ++ text_of e.1

abbrev pub part_texts : List (Step × Value) → List (List ℕ)
part_texts = map part_text

-- the texts of the values one step inside, with `,` between them, between two marks
abbrev pub enclosed : ℕ → ℕ → Value → List ℕ
enclosed opening closing v =
    opening ∷ (join_with_byte comma (part_texts (entries v)) ++ closing ∷ [])
