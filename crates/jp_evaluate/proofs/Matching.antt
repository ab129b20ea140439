-- What a matcher answers is what the tests of patterns tell.
use Rattle.std.proofs.Common.{◌≡◌, ◌↔◌, ℕ, List, Bool, true, false, IsTrue, Some, None}
use Rattle.std.proofs.Common.{refl, ap, sym, ◌∙◌}
use Rattle.std.specs.Str.{chars}
use Rattle.jp_document.specs.Value.{text}
use Rattle.jp_iregexp.proofs.Membership.{parts_are_tested, words_are_tested}
use Rattle.jp_iregexp.specs.Language.{Language}
use Rattle.jp_iregexp.specs.MatchTests.{has_match, is_match, is_passing}
use Rattle.jp_iregexp.specs.Membership.{has_word, is_word}
use Rattle.jp_iregexp.specs.Part.{HasPart}
use Rattle.jp_iregexp.specs.PatternOf.{pattern_of}
use Rattle.jp_iregexp.specs.Tree.{Tree}
use Rattle.jp_reading.specs.Texts.{Text}
use Rattle.jp_evaluate.specs.declared.evaluating.Extent.{Extent}
use Rattle.jp_evaluate.specs.declared.evaluating.Extent.TheVariants.{Part, Whole}
use Rattle.jp_evaluate.specs.Private.Meanings.{matched}

same_by_meaning : {P : Type 0} (a b : Bool) → IsTrue a ↔ P → IsTrue b ↔ P → a ≡ b
same_by_meaning true true by_a by_b = refl
same_by_meaning true false by_a by_b = sym (by_b.1 (by_a.0 refl))
same_by_meaning false true by_a by_b = by_a.1 (by_b.0 refl)
same_by_meaning false false by_a by_b = refl

pub whole_answer : (answer : Bool) (a : Tree) (string pattern : Text) → pattern_of pattern ≡ Some a
    → IsTrue answer ↔ Language a string → answer ≡ is_match string pattern
unfolding is_match
whole_answer answer a string pattern found exact =
    same_by_meaning answer (is_word a string) exact (words_are_tested a string)
    ∙ sym (ap (is_passing (λ x. is_word x string)) found)

pub part_answer : (answer : Bool) (a : Tree) (string pattern : Text) → pattern_of pattern ≡ Some a
    → IsTrue answer ↔ HasPart (Language a) string → answer ≡ has_match string pattern
unfolding has_match
part_answer answer a string pattern found exact =
    same_by_meaning answer (has_word a string) exact (parts_are_tested a string)
    ∙ sym (ap (is_passing (λ x. has_word x string)) found)

-- a text that spells no pattern has no match
pub no_answer : (e : Extent) (s p : List ℕ) → pattern_of (chars p) ≡ None
    → false ≡ matched e (Some (text s)) (Some (text p))
unfolding is_match has_match
no_answer Whole s p none = sym (ap (is_passing (λ x. is_word x (chars s))) none)
no_answer Part s p none = sym (ap (is_passing (λ x. has_word x (chars s))) none)
