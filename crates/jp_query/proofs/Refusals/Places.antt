-- Where a text is refused it goes on to no tree, and nowhere before.
use Rattle.std.proofs.Common.{◌≡◌, ℕ, suc, true, ◌≤◌, [], ◌∷◌, ◌++◌, length, inl, inr, refl, sym, ap, ◌∙◌}
use Rattle.std.proofs.Common.{subst, append_assoc, append-nil, length-append, arith}
use Rattle.std.proofs.lemmas.List.{append_cancel_right}
use Rattle.jp_reading.specs.Texts.{Text, Spans, bytes}
use Rattle.jp_reading.specs.Outcome.{State, Outcome, took, stuck, deep, past}
use Rattle.jp_reading.proofs.States.Between.{Stops, Passes}
use Rattle.jp_reading.proofs.States.Again.{start}
use Rattle.jp_reading.proofs.States.Locality.{all, Agrees, same, ended, longer}
use Rattle.jp_query.specs.Spelled.{Spelling}
use Rattle.jp_query.specs.ViablePrefix.{Begins, BeginsNone, EndsAt, StuckAt, TooDeepAt}
use Rattle.jp_reading.specs.Rule.{here, beyond}
use Rattle.jp_query.specs.Private.Rules.{QueryRule}
use Rattle.jp_query.specs.Private.Reading.{whole_at}
use Rattle.jp_query.proofs.Refusals.Locality.{local-whole}
use Rattle.jp_query.proofs.Refusals.LevelsMonotone.{stuck-deeper}
use Rattle.jp_query.proofs.Unique.{spelt-read, stuck-spells_none}
use Rattle.jp_query.proofs.Soundness.Whole.{whole-sound}
use Rattle.jp_query.proofs.WholeRules.{WholeRule}

-- ---- no further

-- reading stops where the text t is left
abbrev StopsAt : {A : Type 0} → Text → Outcome A → Type 0
StopsAt t (took x q) = ⊥
StopsAt t (stuck q) = q.rest ≡ t
StopsAt t (deep q) = q.rest ≡ t

abbrev Takes : {A : Type 0} → Outcome A → Type 0
Takes (took x q) = Unit {0}
Takes (stuck q) = ⊥
Takes (deep q) = ⊥

-- what is left before the character at the end of the text, is not left after it
too-long : (c : ℕ) (u t : Text) → t ≡ c ∷ u → length t ≤ length u → ⊥
too-long c u t e h = let f : length t ≡ length (c ∷ u) = ap length e in absurd (omega arith)

too-short : (c : ℕ) (u : Text) (q : State) → q.rest ++ u ≡ c ∷ u → length q.rest ≤ 0 → ⊥
too-short c u q e h =
    let f : length (q.rest ++ u) ≡ length
    (c ∷ u) = ap length e in let g = length-append q.rest u in absurd (omega arith)

-- no reading stops at the last character of a text and, with another text after, takes a value
apart : {A : Type 0} (c : ℕ) (u t : Text) (o v w : Outcome A) → Agrees all u o v → Agrees all t o w
    → StopsAt (c ∷ u) v → Takes w → ⊥
apart c u t o (took x q) w f g stops takes = stops
apart c u t o (stuck q) w (ended e k) g stops takes = too-long c u q.rest stops k
apart c u t o (deep q) w (ended e k) g stops takes = too-long c u q.rest stops k
apart c u t (took x q) (stuck r) w (same e) g stops takes = cc
apart c u t (took x q) (deep r) w (same e) g stops takes = cc
apart c u t (deep q) (stuck r) w (same e) g stops takes = cc
apart c u t (stuck q) (deep r) w (same e) g stops takes = cc
apart c u t (stuck q) (stuck r) w (same e) (same f) stops takes = subst Takes f takes
apart c u t (deep q) (deep r) w (same e) (same f) stops takes = subst Takes f takes
apart c u t (stuck q) (stuck r) w (same e) (ended g k) stops takes =
    let f : r ≡ longer u q = cc in too-short c u q (ap (λ (p : State). p.rest) (sym f) ∙ stops) g
apart c u t (deep q) (deep r) w (same e) (ended g k) stops takes =
    let f : r ≡ longer u q = cc in too-short c u q (ap (λ (p : State). p.rest) (sym f) ∙ stops) g

module _ {A : Type 0} {Spelt : Spelling A} {R : QueryRule true here beyond A}
    (K : WholeRule Spelt R) where
  -- through the character at which reading stops no text goes on to a tree
  pub no-further : (n : ℕ) (before after : Text) (unexpected : ℕ)
      → StopsAt (unexpected ∷ after) (whole_at R n (start (before ++ unexpected ∷ after)))
      → BeginsNone Spelt n (before ++ unexpected ∷ [])
  no-further n before after unexpected stops spelled =
      let through = before ++ unexpected ∷ [] in
      let alike = (local-whole R n).agrees in
      let read = spelt-read K n spelled.1 spelled.2 (through ++ spelled.0) spelled.3 in
      apart unexpected after spelled.0 (whole_at R n (start through))
      (whole_at R n (start (through ++ after))) (whole_at R n (start (through ++ spelled.0)))
      (alike after (start through)) (alike spelled.0 (start through))
      (rw (append_assoc before (unexpected ∷ []) after) stops) (rw read tt)

  -- ---- places

  -- what stands before a stop begins a text that spells a tree
  prefix-of : (n : ℕ) (text : Text) (r : State) (h : Stops (K.whole n) (start text) r)
      → Begins Spelt n h.prefix.read
  prefix-of n text r h = (
    h.prefix.more,
    h.value,
    h.prefix.spans,
    K.spells n h.value h.prefix.spans (h.prefix.read ++ h.prefix.more) h.prefix.is,
  )

  place-of : (n : ℕ) (text : Text) (r : State) (h : Stops (K.whole n) (start text) r)
      → bytes h.prefix.read ≡ r.at
  place-of n text r h = sym (h.prefix.at ∙ omega arith)

  -- a stop before a character with which nothing goes on
  abbrev ends-at : (n : ℕ) (text : Text) (at unexpected : ℕ) (after : Text) (found : Spans)
      (h : Stops (K.whole n) (start text) (record { at = at; rest = unexpected ∷ after; found = found }))
      → BeginsNone Spelt n (h.prefix.read ++ unexpected ∷ []) → EndsAt Spelt n text at
  ends-at n text at unexpected after found h halts = record {
    before = h.prefix.read;
    unexpected = unexpected;
    after = after;
    parts = h.prefix.rest;
    place_is = place-of n text (record { at = at; rest = unexpected ∷ after; found = found }) h;
    is_viable = prefix-of n text (record { at = at; rest = unexpected ∷ after; found = found }) h;
    is_not_viable = halts;
  }

  syntax-parts : (n : ℕ) (text : Text) (at : ℕ) (rest : Text) (found : Spans)
      → whole_at R n (start text) ≡ stuck (record { at = at; rest = rest; found = found })
      → Stops (K.whole n) (start text) (record { at = at; rest = rest; found = found })
      → StuckAt Spelt n text at
  syntax-parts n text at [] found e h =
      let r : State = record { at = at; rest = []; found = found } in
      let all_read : h.prefix.read ≡ text = sym (h.prefix.rest ∙ append-nil h.prefix.read) in
      inl (record {
        place_is = subst (λ (t : Text). bytes t ≡ at) all_read (place-of n text r h);
        is_viable = subst (Begins Spelt n) all_read (prefix-of n text r h);
        nothing = stuck-spells_none K n text r e;
      })
  syntax-parts n text at (unexpected ∷ after) found e h =
      let r : State = record { at = at; rest = unexpected ∷ after; found = found } in
      let stops = λ (k : ℕ) (f : whole_at R k (start text) ≡ stuck r). no-further k h.prefix.read after
      unexpected (rw (sym h.prefix.rest, f) refl) in
      inr (record {
        end = ends-at n text at unexpected after found h (stops n e);
        none_deeper = stops (suc n) (stuck-deeper R n (start text) r e);
      })

  -- where reading is stuck
  pub stuck-place : (n : ℕ) (text : Text) (r : State) → whole_at R n (start text) ≡ stuck r
      → StuckAt Spelt n text r.at
  stuck-place n text r e =
      let judged = rw e at (whole-sound K n (start text)) in
      syntax-parts n text r.at r.rest r.found e judged.is

  deep-parts : (n : ℕ) (text : Text) (at : ℕ) (rest : Text) (found : Spans)
      → whole_at R n (start text) ≡ deep (record { at = at; rest = rest; found = found })
      → Stops (K.whole n) (start text) (record { at = at; rest = rest; found = found })
      → Passes (K.whole (suc n)) (start text) (record { at = at; rest = rest; found = found })
      → TooDeepAt Spelt n text at
  deep-parts n text at [] found e h g = absurd (let none = g.next in omega arith)
  deep-parts n text at (unexpected ∷ after) found e h g =
      let r : State = record { at = at; rest = unexpected ∷ after; found = found } in
      let before = h.prefix.read in
      let through = g.stops.prefix in
      let same_text : through.read ≡ before ++ unexpected ∷ [] =
      append_cancel_right through.read (before ++ unexpected ∷ []) after
      (sym through.rest ∙ h.prefix.rest ∙ sym (append_assoc before (unexpected ∷ []) after)) in
      record {
        end = ends-at n text at unexpected after found h
            (no-further n before after unexpected (rw (sym h.prefix.rest, e) refl));
        deeper = subst (Begins Spelt (suc n)) same_text (prefix-of (suc n) text (past r) g.stops);
      }

  -- where a level is missing, and with one level more the character there goes on
  pub deep-place : (n : ℕ) (text : Text) (r : State) → whole_at R n (start text) ≡ deep r
      → TooDeepAt Spelt n text r.at
  deep-place n text r e =
      let judged = rw e at (whole-sound K n (start text)) in
      deep-parts n text r.at r.rest r.found e judged.is.0 judged.is.1
