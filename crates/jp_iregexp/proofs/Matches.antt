-- The tests of membership tell exactly the matches of texts with patterns that are texts: for the
-- law `tested_matches`.
use Rattle.std.proofs.Common.{◌≡◌, ◌↔◌, Bool, true, Option, Some, None, refl, ap, ◌∙◌}
use Rattle.jp_reading.specs.Texts.{Text}
use Rattle.jp_iregexp.specs.Grammar.{SpellsPattern}
use Rattle.jp_iregexp.specs.Groups.{group_limit}
use Rattle.jp_iregexp.specs.MatchTests.{is_passing, is_match, has_match}
use Rattle.jp_iregexp.specs.Matches.{MatchesAreTested, PartMatchesAreTested}
use Rattle.jp_iregexp.specs.PatternOf.{pattern_of}
use Rattle.jp_iregexp.specs.Tree.{Tree}
use Rattle.jp_iregexp.proofs.Membership.{words_are_tested, parts_are_tested}
use Rattle.jp_iregexp.proofs.PatternOf.{spelt_is_found}

-- a pattern passes
passed_by : (test : Tree → Bool) (found : Option Tree) → is_passing test found ≡ true
    → (a : Tree) × (found ≡ Some a) × (test a ≡ true)
passed_by test None h = cc
passed_by test (Some a) h = (a, refl, h)

-- a pattern that a text spells, and of which a fact holds
abbrev HasPattern : (Tree → Type 0) → Text → Type 0
HasPattern Holds pattern = (a : Tree) × SpellsPattern group_limit a pattern × Holds a

module _ (test : Tree → Bool) (Holds : Tree → Type 0) (tells : (a : Tree) → test a ≡ true ↔ Holds a)
    (pattern : Text) where
  has_pattern : is_passing test (pattern_of pattern) ≡ true → HasPattern Holds pattern
  has_pattern h =
      let (a, found, passes) = passed_by test (pattern_of pattern) h in
      (a, (spelt_is_found pattern a).0 found, (tells a).0 passes)

  passes_pattern : HasPattern Holds pattern → is_passing test (pattern_of pattern) ≡ true
  passes_pattern (a, conforms, holds) =
      ap (is_passing test) ((spelt_is_found pattern a).1 conforms) ∙ (tells a).1 holds

  pattern_told : is_passing test (pattern_of pattern) ≡ true ↔ HasPattern Holds pattern
  pattern_told = (has_pattern, passes_pattern)

pub matches_are_tested : MatchesAreTested
unfolding is_match
matches_are_tested text pattern =
    let told = pattern_told _ _ (λ a. words_are_tested a text) pattern in (
      λ h. let (a, spelt, word) = told.0 h in record { tree = a; conforms = spelt; holds = word },
      λ m. told.1 (m.tree, m.conforms, m.holds),
    )

pub part_matches_are_tested : PartMatchesAreTested
unfolding has_match
part_matches_are_tested text pattern =
    let told = pattern_told _ _ (λ a. parts_are_tested a text) pattern in (
      λ h. let (a, spelt, part) = told.0 h in record { tree = a; conforms = spelt; holds = part },
      λ m. told.1 (m.tree, m.conforms, m.holds),
    )
