-- What some text spells, its canonical text spells, within the same levels.
use Rattle.std.proofs.Common.{◌≡◌, ℕ, zero, suc, ◌≤◌, refl, sym, subst, ap, arith, codes}
use Rattle.jp_reading.specs.Texts.{Spans, Text}
use Rattle.jp_query.specs.Grammar.{Inside, Nested, Segments, Spells}
use Rattle.jp_query.specs.Laws.{OneReading}
use Rattle.jp_tree.specs.Tree.{QueryTree, segments}
use Rattle.jp_canon.specs.Canon.{canon_of, segments_text}
use Rattle.jp_canon.specs.Laws.{CanonIsAccepted, CanonSpells, CanonTellsApart}
use Rattle.jp_canon.proofs.Forms.{Has, both, has-word}
use Rattle.jp_canon.proofs.Spells.Grouping.{Known, OwnLevel, nested_text, whole}
use Rattle.jp_canon.proofs.Spells.Rules.{level-text, segments-text}

-- what some text spells within m levels has both forms within k levels, where m ≤ k: what can stand
-- as it is within k - 1 levels can stand one level further in
known-by : (m k : ℕ) → m ≤ k
    → ((j : ℕ) → m ≤ suc j → (x : Nested) (s : Spans) (o : ℕ) (t : Text) → Inside m x s o t
    → Has (OwnLevel (Inside j) x) (nested_text x))
    → (x : Nested) (s : Spans) (o : ℕ) (t : Text) → Inside m x s o t → Known (Inside k) x
known-by zero k fits own x s o t h = elim h [ ]
known-by (suc m) zero fits own x s o t h = absurd (omega arith)
known-by (suc m) (suc k) fits own x s o t h = record {
  own = own (suc k) (omega arith) x s o t h;
  inside = whole (Inside k) x (own k (omega arith) x s o t h);
}

own-text : (m k : ℕ) → m ≤ suc k → (x : Nested) (s : Spans) (o : ℕ) (t : Text) → Inside m x s o t
    → Has (OwnLevel (Inside k) x) (nested_text x)
own-text zero k fits x s o t h = elim h [ ]
own-text (suc m) k fits x s o t h =
    level-text (Inside m) (Inside k) (known-by m k (omega arith) (own-text m)) x s o t h

-- ---- whole queries

pub canon-spells : CanonSpells
canon-spells n q s text h =
    let known = known-by n n (omega arith) (own-text n) in
    let all : Has (Segments (Inside n) h.parts) (segments_text (segments h.parts)) = segments-text
    (Inside n) (Inside n) known h.parts _ _ _ h.is.two in
    let found = (both (has-word (codes "$")) all).at 0 in
    subst (λ p. (u : Spans) × Spells n p u (canon_of p)) (sym h.tree)
    (found.0, record { parts = h.parts; tree = refl; is = found.1 })

pub canon-accepted : CanonIsAccepted
canon-accepted profile q accepted =
    let reading = accepted.1 in
    let found = canon-spells _ q reading.spans accepted.0 reading.spelled in
    record { spans = found.0; spelled = found.1; faultless = reading.faultless }

-- equal texts spell equal trees
one-tree : OneReading → (n m : ℕ) (q u : QueryTree) (r s : Spans) (v w : Text) → Spells n q r v
    → Spells m u s w → v ≡ w → q ≡ u
one-tree one n m q u r s v w first second same =
    (one n m q u r s w (subst (Spells n q r) same first) second).0

pub canon-tells-apart : OneReading → CanonTellsApart
canon-tells-apart one profile other q u accepted second = (
  λ same.
      let here = canon-accepted profile q accepted in
      let there = canon-accepted other u second in
      one-tree one _ _ q u here.spans there.spans (canon_of q)
      (canon_of u) here.spelled there.spelled same,
  ap canon_of,
)
