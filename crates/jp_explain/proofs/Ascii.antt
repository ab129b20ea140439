-- Texts in ASCII.
use Rattle.std.proofs.Common.{◌≡◌, ℕ, true, List, [], ◌∷◌}
use Rattle.std.specs.Char.{is_ascii}
use Rattle.std.specs.List.{list_all}
use Rattle.std.specs.Str.{chars, IsAscii}
use Rattle.std.proofs.lemmas.Bool.{and_parts, ltb-true}
use Rattle.std.proofs.lemmas.Str.{chars-IsAscii}
use Rattle.std.proofs.lemmas.Str.Ascii.{IsAscii-cons, IsAscii-nil}

all-IsAscii : (cs : List ℕ) → list_all is_ascii cs ≡ true → IsAscii cs
all-IsAscii [] all = IsAscii-nil
all-IsAscii (c ∷ cs) all =
    let parts = and_parts (is_ascii c) (list_all is_ascii cs) all in
    IsAscii-cons c cs (ltb-true c 128 parts.0) (all-IsAscii cs parts.1)

-- its bytes are its characters
pub ascii_chars : (cs : List ℕ) → list_all is_ascii cs ≡ true → chars cs ≡ cs
ascii_chars cs all = chars-IsAscii cs (all-IsAscii cs all)
