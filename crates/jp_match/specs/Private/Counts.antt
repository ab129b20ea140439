-- How many words of its inner pattern a repeat may take.
use Rattle.std.specs.Prelude.{◌≡◌, ℕ, ◌+◌, ◌<◌, List, Option, Some, None}
use Rattle.jp_iregexp.specs.Language.{Power, IsAtMost}

-- words of a language one after another, not more than the most
abbrev pub Times : (List ℕ → Type 0) → Option ℕ → List ℕ → Type 0
Times L most word = (k : ℕ) × IsAtMost most k × Power L k word

-- the most that may follow once some words are taken; none where so many may not be taken
abbrev pub IsMostAfter : Option ℕ → ℕ → Option (Option ℕ) → Type 0
IsMostAfter None taken after = after ≡ Some None
IsMostAfter (Some most) taken None = most < taken
IsMostAfter (Some most) taken (Some None) = ⊥
IsMostAfter (Some most) taken (Some (Some more)) = most ≡ taken + more
