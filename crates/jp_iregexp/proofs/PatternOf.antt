-- The pattern of a text is the one that the text spells: for the law `pattern_found`, and for the
-- calls of functions.
use Rattle.std.proofs.Common.{◌≡◌, ℕ, Option, Some, None, refl, sym, ap, ◌∙◌, subst}
use Rattle.jp_reading.specs.declared.reader.Stop.TheVariants.{Syntax, TooDeep}
use Rattle.jp_reading.specs.Texts.{Text}
use Rattle.jp_reading.specs.Outcome.{Outcome, took, stuck, deep}
use Rattle.jp_reading.specs.Views.{Fails}
use Rattle.jp_reading.proofs.States.Again.{start}
use Rattle.jp_iregexp.specs.Grammar.{SpellsPattern}
use Rattle.jp_iregexp.specs.Groups.{group_limit}
use Rattle.jp_iregexp.specs.PatternOf.{taken, pattern_of, SpeltIsFound, OthersHaveNone}
use Rattle.jp_iregexp.specs.Private.Reading.{pattern_at}
use Rattle.jp_iregexp.specs.Spelled.{SpellsNone}
use Rattle.jp_iregexp.specs.Tree.{Tree}
use Rattle.jp_iregexp.proofs.WholeTexts.{read-spelt, fails-spelt, deep-spelt, one_pattern}

-- what a reader of a text answers is spelt, or nothing is
pub data Answered (n : ℕ) (text : Text) (answer : Option Tree) : Type 0 where
  spelt : (a : Tree) → answer ≡ Some a → SpellsPattern n a text → Answered n text answer
  none_spelt : answer ≡ None → SpellsNone n text → Answered n text answer

outcome_answered : (n : ℕ) (text : Text) (o : Outcome Tree) → pattern_at n (start text) ≡ o
    → Answered n text (taken o)
outcome_answered n text (took a q) e = spelt a refl (read-spelt n a text q e)
outcome_answered n text (stuck p) e =
    none_spelt refl (fails-spelt n text p.at (subst (Fails (Syntax p.at)) (sym e) refl))
outcome_answered n text (deep p) e =
    none_spelt refl (deep-spelt n text p.at (subst (Fails (TooDeep p.at)) (sym e) refl))

-- the pattern of a text is spelt, or nothing is
pub pattern_answered : (text : Text) → Answered group_limit text (pattern_of text)
unfolding pattern_of
pattern_answered text = outcome_answered group_limit text (pattern_at group_limit (start text)) refl

to_spelt : (n : ℕ) (text : Text) (answer : Option Tree) (a : Tree) → Answered n text answer
    → answer ≡ Some a → SpellsPattern n a text
to_spelt n text answer a (spelt b is h) e =
    let same : b ≡ a = cc in
    subst (λ x. SpellsPattern n x text) same h
to_spelt n text answer a (none_spelt is h) e = absurd (cc)

of_spelt : (n : ℕ) (text : Text) (answer : Option Tree) (a : Tree) → Answered n text answer
    → SpellsPattern n a text → answer ≡ Some a
of_spelt n text answer a (spelt b is h) s = is ∙ ap Some (one_pattern n n b a text h s)
of_spelt n text answer a (none_spelt is h) s = absurd (h a s)

pub spelt_is_found : SpeltIsFound
spelt_is_found text a = (
  to_spelt group_limit text (pattern_of text) a (pattern_answered text),
  of_spelt group_limit text (pattern_of text) a (pattern_answered text),
)

to_none : (n : ℕ) (text : Text) (answer : Option Tree) → Answered n text answer
    → answer ≡ None → SpellsNone n text
to_none n text answer (spelt b is h) e = absurd (cc)
to_none n text answer (none_spelt is h) e = h

of_none : (n : ℕ) (text : Text) (answer : Option Tree) → Answered n text answer
    → SpellsNone n text → answer ≡ None
of_none n text answer (spelt b is h) s = absurd (s b h)
of_none n text answer (none_spelt is h) s = is

pub others_have_none : OthersHaveNone
others_have_none text = (
  to_none group_limit text (pattern_of text) (pattern_answered text),
  of_none group_limit text (pattern_of text) (pattern_answered text),
)
