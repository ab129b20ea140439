-- Whole texts: what spells a tree is read as it, so that no text spells two.
use Rattle.std.proofs.Common.{◌≡◌, ℕ, ◌+◌, true, refl, sym, ap, ◌∙◌, arith}
use Rattle.jp_reading.specs.Texts.{Text, Spans}
use Rattle.jp_reading.specs.Outcome.{State, Outcome, took, stuck, deep, past_blanks}
use Rattle.jp_reading.proofs.States.Again.{start, finish, reads-whole}
use Rattle.jp_reading.proofs.Rules.Form.{form}
use Rattle.jp_reading.proofs.Rules.Follow.{Meets, at_end}
use Rattle.jp_reading.proofs.Rules.Completeness.{done}
use Rattle.jp_query.specs.Grammar.{Inside}
use Rattle.jp_query.specs.Spelled.{Spelling, SpellsNone}
use Rattle.jp_query.specs.Laws.{OneReading}
use Rattle.jp_reading.specs.Rule.{here, beyond}
use Rattle.jp_query.specs.Private.Rules.{QueryRule}
use Rattle.jp_query.specs.Private.Reading.{whole_at, inside}
use Rattle.jp_query.proofs.Rules.Conditions.{starts, closes}
use Rattle.jp_query.proofs.Forms.Selectors.{opening_form}
use Rattle.jp_query.proofs.Levels.{inside-complete, spells-more}
use Rattle.jp_query.proofs.WholeRules.{WholeRule, queries}

ends-meet : (t : Text) (s : Spans) → Meets at_end (finish t s)
unfolding past_blanks
ends-meet t s = record { near = refl; far = refl }

module _ {A : Type 0} {Spelt : Spelling A} {R : QueryRule true here beyond A}
    (K : WholeRule Spelt R) where
  -- what spells a tree is read as it
  pub spelt-read : (n : ℕ) (x : A) (s : Spans) (text : Text) → Spelt n x s text
      → whole_at R n (start text) ≡ took x (finish text s)
  spelt-read n x s text h =
      let F = opening_form (Inside n) in
      rw (done F starts closes (inside n) (inside-complete n) R K.alive at_end K.apart x
      (start text) (finish text s)
      (reads-whole (form F R x) s text ((K.is_form n x).from s 0 text (K.spelt n x s text h)))
      (ends-meet text s)).reads refl

  -- where reading is stuck, or would need a level more, nothing spells the text
  pub stuck-spells_none : (n : ℕ) (text : Text) (r : State)
      → whole_at R n (start text) ≡ stuck r → SpellsNone Spelt n text
  stuck-spells_none n text r e x s h = let read = spelt-read n x s text h in cc

  pub deep-spells_none : (n : ℕ) (text : Text) (r : State)
      → whole_at R n (start text) ≡ deep r → SpellsNone Spelt n text
  deep-spells_none n text r e x s h = let read = spelt-read n x s text h in cc

  -- within as many levels no text spells two trees, or one tree with two lists of spans
  pub one-spelt : (n : ℕ) (x y : A) (s t : Spans) (text : Text) → Spelt n x s text
      → Spelt n y t text → (x ≡ y) × (s ≡ t)
  one-spelt n x y s t text h g =
      let same : ◌≡◌ {A = Outcome A} (took x (finish text s)) (took y (finish text t)) =
      sym (spelt-read n x s text h) ∙ spelt-read n y t text g in
      let ends : finish text s ≡ finish text t = cc in
      (cc, ap (λ (p : State). p.found) ends)

-- no text spells two queries, or one with two lists of spans
pub one-reading : OneReading
one-reading n m q u s t text h g =
    let levels : m + n ≡ n + m = omega arith in
    one-spelt queries (n + m) q u s t text
    (rw levels at (spells-more m n q s text h)) (spells-more n m u t text g)
