-- Whole texts: what is read to its end spells a tree, and what is read before a stop began one.
use Rattle.std.proofs.Common.{◌≡◌, ℕ, suc, Bool, true, false, if◌then◌else◌, [], ◌∷◌}
use Rattle.std.proofs.Common.{length, refl, ◌==◌, arith}
use Rattle.std.proofs.lemmas.Bool.{eqb-true}
use Rattle.jp_reading.specs.Texts.{Text}
use Rattle.jp_reading.specs.Outcome.{State, Outcome, took, stuck, deep, ◌>>=◌, skip, is_end}
use Rattle.jp_reading.specs.RuleReading.{read}
use Rattle.jp_reading.proofs.States.Again.{start, whole-reads}
use Rattle.jp_reading.proofs.Rules.Form.{form}
use Rattle.jp_reading.proofs.Rules.Soundness.{IsSound, sound, sound-as}
use Rattle.jp_tree.specs.Tree.{QueryTree}
use Rattle.jp_query.specs.Grammar.{Inside, Spells}
use Rattle.jp_query.specs.Spelled.{Spelling}
use Rattle.jp_reading.specs.Rule.{here, beyond}
use Rattle.jp_query.specs.Private.Rules.{QueryRule}
use Rattle.jp_query.specs.Private.Reading.{inside, at_text_end, whole_at, query_at}
use Rattle.jp_query.proofs.Forms.Selectors.{opening_form}
use Rattle.jp_query.proofs.Levels.{opening_form-more, inside-sound}
use Rattle.jp_query.proofs.WholeRules.{WholeRule, queries}

-- what is read ends with the text
record Ends {A : Type 0} (o : Outcome A) : Type 0 where
  at : (x : A) (q : State) → o ≡ took x q → q.rest ≡ []

no-characters : (t : Text) → (length t == 0) ≡ true → t ≡ []
no-characters [] h = refl
no-characters (c ∷ t) h = let e = eqb-true (length (c ∷ t)) 0 h in absurd (omega arith)

at_end-then : {A B : Type 0} (o : Outcome A) (k : A → State → Outcome B)
    → ((x : A) (q : State) → Ends (k x q)) → Ends (o >>= k)
at_end-then (took x q) k h = h x q
at_end-then (stuck q) k h = record { at = λ y r e. cc }
at_end-then (deep q) k h = record { at = λ y r e. cc }

at_end-if : {A : Type 0} (y : A) (r : State) (b : Bool) → (b ≡ true → r.rest ≡ [])
    → Ends (if b then took y r else stuck (skip r))
at_end-if y r true h = record { at = λ x q e. (let same : r ≡ q = cc in rw (← same) (h refl)) }
at_end-if y r false h = record { at = λ x q e. cc }

module _ {A : Type 0} {Spelt : Spelling A} {R : QueryRule true here beyond A}
    (K : WholeRule Spelt R) where
  ends-sound : (n : ℕ) (p : State) (o : Outcome A) → IsSound (K.whole n) (K.whole (suc n)) p o
      → IsSound (K.whole n) (K.whole (suc n)) p (o >>= at_text_end)
  ends-sound n p (took x r) h = at_end (is_end r)
    where
      at_end : (b : Bool)
          → IsSound (K.whole n) (K.whole (suc n)) p (if b then took x r else stuck (skip r))
      at_end true = record { is = h.is }
      at_end false = record { is = K.more n x p r h.is }
  ends-sound n p (stuck r) h = h
  ends-sound n p (deep r) h = h

  pub whole-sound : (n : ℕ) (p : State)
      → IsSound (K.whole n) (K.whole (suc n)) p (whole_at R n p)
  whole-sound n p =
      let F = opening_form (Inside n) in
      let G = opening_form (Inside (suc n)) in
      ends-sound n p (read (inside n) R p)
      (sound-as (form F R) (form G R) (K.whole n) (K.whole (suc n)) p
      (read (inside n) R p)
      (λ x. (K.is_form n x).to) (λ x. (K.is_form (suc n) x).to)
      (sound F G (opening_form-more n) (inside n) (inside-sound n) R K.alive p))

  whole-ends : (n : ℕ) (p : State) → Ends (whole_at R n p)
  whole-ends n p =
      at_end-then (read (inside n) R p) _
      (λ x r. at_end-if x r (is_end r) (no-characters r.rest))

  -- what is read spells the text
  pub read-spelt : (n : ℕ) (text : Text) (x : A) (q : State)
      → whole_at R n (start text) ≡ took x q → Spelt n x q.found text
  read-spelt n text x q e =
      let judged = rw e at (whole-sound n (start text)) in
      K.spells n x q.found text
      (whole-reads (K.whole n x) text q judged.is ((whole-ends n (start text)).at x q e))

-- what is read as a query spells it
pub read-spells : (n : ℕ) (text : Text) (x : QueryTree) (q : State)
    → query_at n (start text) ≡ took x q → Spells n x q.found text
unfolding query_at
read-spells n text x q e = read-spelt queries n text x q e
