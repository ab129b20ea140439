-- Laws of places.
use Rattle.std.specs.Prelude.{◌≡◌, ◌++◌}
use Rattle.jp_reading.specs.Texts.{Text, bytes}
use Rattle.jp_explain.specs.Place.{front_of, rest_of}

-- a text is cut after its first characters at the byte that is as many bytes in as they take
abbrev pub CutAtPlace : Type 0
CutAtPlace =
    (front rest : Text) → (front_of (bytes front) (front ++ rest) ≡ front)
    × (rest_of (bytes front) (front ++ rest) ≡ rest)
