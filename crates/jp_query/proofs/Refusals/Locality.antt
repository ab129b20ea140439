-- Reading a whole text looks at it from its beginning on, and what comes after the text that it
-- looks at changes nothing.
use Rattle.std.proofs.Common.{◌≡◌, ℕ, zero, suc, ◌≤◌, true, false, [], ◌∷◌, ◌++◌, ◌==◌}
use Rattle.std.proofs.Common.{length, inl, inr, arith}
use Rattle.std.proofs.lemmas.Bool.{cases_Bool, eqb-true}
use Rattle.jp_reading.specs.Texts.{Text, Spans}
use Rattle.jp_reading.specs.Outcome.{stuck}
use Rattle.jp_reading.specs.RuleReading.{read}
use Rattle.jp_reading.proofs.Texts.Chars.{skip-shorter}
use Rattle.jp_reading.proofs.States.Locality.{all, unblanked, Ends, Agrees, ended, Local}
use Rattle.jp_reading.proofs.States.Locality.{local-then}
use Rattle.jp_reading.proofs.States.Locality.{local-deep, local-stuck, local-skip, unblanked-skip}
use Rattle.jp_reading.proofs.Rules.Locality.{local-rule}
use Rattle.jp_reading.specs.Rule.{here, beyond}
use Rattle.jp_query.specs.Private.Rules.{QueryOpening, QueryRule, opened}
use Rattle.jp_query.specs.Private.Reading.{inside, at_text_end, whole_at}
use Rattle.jp_query.proofs.Levels.{inside-progress}

local-inside : (n : ℕ) (o : QueryOpening) → Local all unblanked (inside n o)
local-inside zero o = local-deep unblanked
local-inside (suc n) o = local-rule (inside n) (inside-progress n) (local-inside n) (opened o)

goes_on : (c : ℕ) (t : Text) → (length (c ∷ t) == 0) ≡ false
goes_on c t =
    elim (cases_Bool (length (c ∷ t) == 0)) [
      | inl none ↦ let e = eqb-true (length (c ∷ t)) 0 none in absurd (omega arith)
      | inr some ↦ some
    ]

local-text_end : {A : Type 0} (x : A) → Local unblanked all (at_text_end x)
local-text_end {A} x = record {
  ends = λ m p e. comes m p.at p.found p.rest e;
  agrees = λ u p. alike u p.at p.found p.rest;
}
  where
    comes : (m at : ℕ) (found : Spans) (t : Text) → unblanked t ≤ m
        → Ends all m (at_text_end x (record { at = at; rest = t; found = found }))
    comes m at found [] e = omega arith
    comes m at found (c ∷ t) e =
        rw (goes_on c t) (let f = unblanked-skip
        (record { at = at; rest = c ∷ t; found = found }) in omega arith)

    alike : (u : Text) (at : ℕ) (found : Spans) (t : Text)
        → Agrees all u (at_text_end x (record { at = at; rest = t; found = found }))
        (at_text_end x (record { at = at; rest = t ++ u; found = found }))
    alike u at found [] =
        ended (omega arith)
        (comes (length u) at found u (skip-shorter (record { at = 0; rest = u; found = [] })))
    alike u at found (c ∷ t) =
        rw (goes_on c t, goes_on c (t ++ u))
        ((local-skip {A = A} all stuck (local-stuck all)).agrees u
        (record { at = at; rest = c ∷ t; found = found }))

pub local-whole : {A : Type 0} (rule : QueryRule true here beyond A) (n : ℕ)
    → Local all all (whole_at rule n)
local-whole rule n =
    local-then all unblanked all (read (inside n) rule) _
    (local-rule (inside n) (inside-progress n) (local-inside n) rule) (λ x. local-text_end x)
