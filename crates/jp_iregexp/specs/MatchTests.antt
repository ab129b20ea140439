-- Tests of matches, which compute. What they tell is a law: `MatchesAreTested` and
-- `PartMatchesAreTested` of the file `Matches`.
use Rattle.std.specs.Prelude.{Bool, false, Option, Some, None}
use Rattle.jp_reading.specs.Texts.{Text}
use Rattle.jp_iregexp.specs.Membership.{is_word, has_word}
use Rattle.jp_iregexp.specs.PatternOf.{pattern_of}
use Rattle.jp_iregexp.specs.Tree.{Tree}

-- whether there is a pattern, and it passes a test
abbrev pub is_passing : (Tree → Bool) → Option Tree → Bool
is_passing test None = false
is_passing test (Some a) = test a

-- whether a text matches a pattern, as a test
unfoldable pub is_match : Text → Text → Bool
is_match text pattern = is_passing (λ a. is_word a text) (pattern_of pattern)

-- whether some part of a text matches a pattern, as a test
unfoldable pub has_match : Text → Text → Bool
has_match text pattern = is_passing (λ a. has_word a text) (pattern_of pattern)
