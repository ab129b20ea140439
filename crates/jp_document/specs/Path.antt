-- Normalized paths (RFC 9535 section 2.7).
use Rattle.std.specs.Prelude.{ℕ, ◌+◌, ◌==◌, if◌then◌else◌, List, [], ◌∷◌, ◌++◌, map}
use Rattle.std.specs.Int.Digits.{digits_of}
use Rattle.std.specs.List.{flat_map}
use Rattle.jp_reading.specs.Characters.{closing_bracket, digit_zero, dollar, opening_bracket}
use Rattle.jp_reading.specs.Characters.{single_quote}
use Rattle.jp_document.specs.Location.{Step, named, nth, Location}
use Rattle.jp_document.specs.Spelling.{quoted_in}

-- a name between single quotes
abbrev pub quoted : List ℕ → List ℕ
quoted = quoted_in single_quote

-- `0`, or the decimal digits without a leading zero
unfoldable pub index_text : ℕ → List ℕ
index_text n = if n == 0 then digit_zero ∷ [] else map (λ d. digit_zero + d) (digits_of 10 n)

-- a step between brackets
abbrev pub step_text : Step → List ℕ
step_text (named s) = opening_bracket ∷ (quoted s ++ closing_bracket ∷ [])
step_text (nth i) = opening_bracket ∷ (index_text i ++ closing_bracket ∷ [])

-- `$`, then each step
abbrev pub path_of : Location → List ℕ
path_of l = dollar ∷ flat_map step_text l
