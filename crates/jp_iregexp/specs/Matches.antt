-- Matching a text with a pattern that is a text too, and the laws that say that the tests tell it.
use Rattle.std.specs.Prelude.{◌↔◌, IsTrue}
use Rattle.jp_reading.specs.Texts.{Text}
use Rattle.jp_iregexp.specs.Grammar.{SpellsPattern}
use Rattle.jp_iregexp.specs.Groups.{group_limit}
use Rattle.jp_iregexp.specs.Language.{Language}
use Rattle.jp_iregexp.specs.Part.{HasPart}
use Rattle.jp_iregexp.specs.MatchTests.{is_match, has_match}
use Rattle.jp_iregexp.specs.Tree.{Tree}

-- a text matches a pattern: the pattern conforms, and the whole text is in its language (RFC 9535
-- section 2.4.6)
pub record Matches (text pattern : Text) : Type 0 where
  pub tree : Tree
  pub conforms : SpellsPattern group_limit tree pattern
  pub holds : Language tree text

-- some part of a text matches a pattern: the pattern conforms, and the part is in its language
-- (RFC 9535 section 2.4.7)
pub record HasMatch (text pattern : Text) : Type 0 where
  pub tree : Tree
  pub conforms : SpellsPattern group_limit tree pattern
  pub holds : HasPart (Language tree) text

-- the test of matches tells exactly the texts that match
abbrev pub MatchesAreTested : Type 0
MatchesAreTested = (text pattern : Text) → IsTrue (is_match text pattern) ↔ Matches text pattern

-- the test of parts tells exactly the texts of which some part matches
abbrev pub PartMatchesAreTested : Type 0
PartMatchesAreTested = (text pattern : Text)
    → IsTrue (has_match text pattern) ↔ HasMatch text pattern
