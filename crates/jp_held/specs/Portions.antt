-- What is read of a document of which a portion is wanted.
use Rattle.std.specs.Prelude.{◌≡◌, ℕ, List, map}
use Rattle.jp_decimal.specs.declared.numbers.Numbers.{Numbers}
use Rattle.jp_document.specs.Exact.{IsDocumentIn}
use Rattle.jp_document.specs.Location.{owned_step}
use Rattle.jp_flat.specs.Asked.{IsReadFor}
use Rattle.jp_flat.specs.FlatValue.{IsValueAt, document_in, flat_found}
use Rattle.jp_held.specs.declared.portion.Excerpt.{Excerpt}
use Rattle.jp_held.specs.declared.portion.Excerpt.TheVariants as read
use Rattle.jp_held.specs.declared.portion.Portion.{Portion}
use Rattle.jp_held.specs.declared.portion.Portion.TheVariants.{Value, Members, Whole}

-- the bytes are a document with such numbers, and of it this was read: what it has at the location
-- that is wanted; or so much as is asked of it; or all of it
abbrev pub IsExcerpt : Numbers → Portion → List ℕ → Excerpt → Type 0
IsExcerpt numbers (Value l) bytes (read.Value k found) =
    (k.now ≡ l.items) × IsValueAt numbers bytes (map owned_step k.now) (flat_found found)
IsExcerpt numbers (Members asked) bytes (read.Document f) = IsReadFor numbers asked bytes f
IsExcerpt numbers Whole bytes (read.Document f) = IsDocumentIn numbers bytes (document_in f)
IsExcerpt numbers (Value l) bytes (read.Document f) = ⊥
IsExcerpt numbers (Members asked) bytes (read.Value k found) = ⊥
IsExcerpt numbers Whole bytes (read.Value k found) = ⊥
