-- What is true of a text whose reading stopped.
use Rattle.std.proofs.Common.{◌≡◌, ◌⊎◌, ℕ, true, inl, inr, refl, sym, ap}
use Rattle.jp_reading.specs.declared.reader.Stop.{Stop}
use Rattle.jp_reading.specs.declared.reader.Stop.TheVariants as stop
use Rattle.jp_reading.specs.Texts.{Text}
use Rattle.jp_reading.specs.Outcome.{State, Outcome, took, stuck, deep}
use Rattle.jp_reading.specs.Views.{Fails}
use Rattle.jp_reading.proofs.States.Again.{start}
use Rattle.jp_query.specs.declared.refusal.RefusalKind.TheVariants.{Syntax, TooDeep, NoMemory}
use Rattle.jp_reading.specs.Rule.{here, beyond}
use Rattle.jp_query.specs.Private.Rules.{QueryRule}
use Rattle.jp_query.specs.Private.Reading.{whole_at}
use Rattle.jp_query.specs.Spelled.{Spelling, SpellsNone}
use Rattle.jp_query.specs.ViablePrefix.{StuckAt, TooDeepAt}
use Rattle.jp_query.specs.Private.Stops.{refusal_of}
use Rattle.jp_query.proofs.Unique.{stuck-spells_none, deep-spells_none}
use Rattle.jp_query.proofs.Refusals.Places.{stuck-place, deep-place}
use Rattle.jp_query.proofs.WholeRules.{WholeRule}

pub refused-kinds : (s : Stop) → ((refusal_of s).kind ≡ Syntax) ⊎ ((refusal_of s).kind ≡ TooDeep) ⊎
    (((refusal_of s).kind ≡ NoMemory) × ((refusal_of s).place ≡ 0))
refused-kinds stop.Memory = inr (inr (refl, refl))
refused-kinds (stop.Syntax place) = inl refl
refused-kinds (stop.TooDeep place) = inr (inl refl)

module _ {A : Type 0} {Spelt : Spelling A} {R : QueryRule true here beyond A}
    (K : WholeRule Spelt R) where
  -- what stops at a place reads nothing, and is stuck there
  record Stuck (n : ℕ) (text : Text) (place : ℕ) : Type 0 where
    nothing : SpellsNone Spelt n text
    stands : StuckAt Spelt n text place

  stuck-at : (n : ℕ) (text : Text) (place : ℕ) (o : Outcome A) → whole_at R n (start text) ≡ o
      → Fails (stop.Syntax place) o → Stuck n text place
  stuck-at n text place (took x q) e h = absurd h
  stuck-at n text place (stuck r) e h =
      record { nothing = stuck-spells_none K n text r e; stands = rw h (stuck-place K n text r e) }
  stuck-at n text place (deep r) e h = absurd h

  -- or needs a level more there
  record Deep (n : ℕ) (text : Text) (place : ℕ) : Type 0 where
    nothing : SpellsNone Spelt n text
    stands : TooDeepAt Spelt n text place

  deep-at : (n : ℕ) (text : Text) (place : ℕ) (o : Outcome A) → whole_at R n (start text) ≡ o
      → Fails (stop.TooDeep place) o → Deep n text place
  deep-at n text place (took x q) e h = absurd h
  deep-at n text place (stuck r) e h = absurd h
  deep-at n text place (deep r) e h =
      record { nothing = deep-spells_none K n text r e; stands = rw h (deep-place K n text r e) }

  -- each from the state of a reader at the text's start
  pub refused-only : (n : ℕ) (text : Text) (p : State) (s : Stop) → p ≡ start text
      → Fails s (whole_at R n p) → ((refusal_of s).kind ≡ NoMemory) ⊎ SpellsNone Spelt n text
  refused-only n text p stop.Memory e h = inl refl
  refused-only n text p (stop.Syntax place) e h =
      inr (stuck-at n text place (whole_at R n p) (ap (whole_at R n) (sym e)) h).nothing
  refused-only n text p (stop.TooDeep place) e h =
      inr (deep-at n text place (whole_at R n p) (ap (whole_at R n) (sym e)) h).nothing

  pub refused-syntax : (n : ℕ) (text : Text) (p : State) (s : Stop) → p ≡ start text
      → Fails s (whole_at R n p) → (refusal_of s).kind ≡ Syntax → StuckAt Spelt n text (refusal_of s).place
  refused-syntax n text p stop.Memory e h kind = cc
  refused-syntax n text p (stop.Syntax place) e h kind =
      (stuck-at n text place (whole_at R n p) (ap (whole_at R n) (sym e)) h).stands
  refused-syntax n text p (stop.TooDeep place) e h kind = cc

  pub refused-deep : (n : ℕ) (text : Text) (p : State) (s : Stop) → p ≡ start text
      → Fails s (whole_at R n p)
      → (refusal_of s).kind ≡ TooDeep → TooDeepAt Spelt n text (refusal_of s).place
  refused-deep n text p stop.Memory e h kind = cc
  refused-deep n text p (stop.Syntax place) e h kind = cc
  refused-deep n text p (stop.TooDeep place) e h kind =
      (deep-at n text place (whole_at R n p) (ap (whole_at R n) (sym e)) h).stands
