-- Reading a whole text with one level more does the same, but where a level is missing.
use Rattle.std.proofs.Common.{◌≡◌, ℕ, zero, suc, true, refl, ◌∙◌}
use Rattle.jp_reading.specs.Outcome.{State, stuck}
use Rattle.jp_reading.specs.RuleReading.{read}
use Rattle.jp_reading.proofs.Rules.LevelsMonotone.{Stays, stays, needs_more, stays-then, stays-rule}
use Rattle.jp_reading.specs.Rule.{here, beyond}
use Rattle.jp_query.specs.Private.Rules.{QueryOpening, QueryRule, opened}
use Rattle.jp_query.specs.Private.Reading.{inside, whole_at}

stays-inside : (n : ℕ) (o : QueryOpening) (p : State) → Stays (inside n o p) (inside (suc n) o p)
stays-inside zero o p = needs_more p refl
stays-inside (suc n) o p = stays-rule (inside n) (inside (suc n)) (stays-inside n) (opened o) p

stays-whole : {A : Type 0} (rule : QueryRule true here beyond A) (n : ℕ) (p : State)
    → Stays (whole_at rule n p) (whole_at rule (suc n) p)
stays-whole rule n p =
    stays-then (read (inside n) rule p) (read (inside (suc n)) rule p) _ _
    (stays-rule (inside n) (inside (suc n)) (stays-inside n) rule p) (λ x r. stays refl)

-- where reading is stuck, it is stuck there with one level more too
pub stuck-deeper : {A : Type 0} (rule : QueryRule true here beyond A) (n : ℕ) (p r : State)
    → whole_at rule n p ≡ stuck r → whole_at rule (suc n) p ≡ stuck r
stuck-deeper rule n p r e = either (stays-whole rule n p)
  where
    either : Stays (whole_at rule n p) (whole_at rule (suc n) p) → whole_at rule (suc n) p ≡ stuck r
    either (stays f) = f ∙ e
    either (needs_more w f) = cc
