-- One pass over a text, from many offsets at once.
use Rattle.std.proofs.Common.{◌≡◌, ◌↔◌, ◌⊎◌, inl, inr, ℕ, suc, ◌≤◌, ◌<◌, Bool, IsTrue, false, List}
use Rattle.std.proofs.Common.{[], ◌∷◌, ◌++◌, add-one, length, take, drop, get_or, set, ◌≢◌}
use Rattle.std.proofs.Common.{get_or-set_other, get_or-set_same, refl, sym, ap, ◌∙◌, subst, arith}
use Rattle.std.proofs.lemmas.Bool.{cases_lt}
use Rattle.std.proofs.lemmas.List.{append_assoc, append-nil, length-append, length-set, length-take}
use Rattle.std.proofs.lemmas.List.{take-append-drop, take_at, take_more, drop-append-le}
use Rattle.std.proofs.Math.Seq.{drop-append_seam}
use Rattle.jp_iregexp.specs.Tree.{Tree}
use Rattle.jp_iregexp.specs.Language.{Language}
use Rattle.jp_match.specs.Private.Offset.{Marked, Reached, IsImage}
use Rattle.jp_match.specs.Private.Plain.{Words, unrolled}
use Rattle.jp_match.specs.Private.Marks.{Rest, Ends, Steps}
use Rattle.jp_match.proofs.Sets.Cuts.{marked_below}
use Rattle.jp_match.proofs.Steps.StepParts.{rest_none}
use Rattle.jp_match.proofs.Steps.Unrolled.{unrolled-words}

-- the characters of the text from one offset to another
abbrev pub span : List ℕ → ℕ → ℕ → List ℕ
span text from to = drop from (take to text)

span_all : (text : List ℕ) (from : ℕ) → from ≤ length text → span text from from ≡ []
span_all text from within =
    let at : from ≡ length (take from text) = omega (arith, length-take from text) in
    ap (drop from) (sym (append-nil (take from text))) ∙
    ap (λ n. drop n (take from text ++ [])) at ∙ drop-append_seam (take from text) []

-- the span to the next offset has a character more
span_more : (text : List ℕ) (from to : ℕ) (w : List ℕ) → from ≤ to → to < length text
    → span text from (suc to) ++ w ≡ span text from to ++ (get_or text to 0 ∷ w)
span_more text from to w before below =
    let more : take (suc to) text ≡ take to text ++ (get_or text to 0 ∷ []) = ap (λ n. take n
    text) (sym (add-one to)) ∙ take_more text to 0 below in
    ap (λ t. drop from t ++ w) more ∙
    ap (λ t. t ++ w) (drop-append-le from (take to text) (get_or text to 0 ∷ []) (omega (
      arith,
      length-take to text,
    ))) ∙
    append_assoc (span text from to) (get_or text to 0 ∷ []) w

-- from an offset of the set before this one, the characters since then begin such a word
pub record Begun (L : List ℕ → Type 0) (text : List ℕ) (from : List Bool) (offset : ℕ) (w : List ℕ) :
    Type 0 where
  pub start : ℕ
  pub earlier : start < offset
  pub begins : Marked from start
  pub holds : L (span text start offset ++ w)

pub begun_none : {L : List ℕ → Type 0} {text : List ℕ} {from : List Bool} {w : List ℕ}
    → Begun L text from 0 w → ⊥
begun_none h = let earlier = h.earlier in omega arith

-- one character on, a word is begun at this offset or before it
pub begun_more : (L : List ℕ → Type 0) (text : List ℕ) (from : List Bool) (offset : ℕ) (w : List ℕ)
    → offset < length text
    → Begun L text from (suc offset) w ↔ (Begun L text from offset (get_or text offset 0 ∷ w) ⊎ (Marked
    from offset × L (get_or text offset 0 ∷ w)))
begun_more L text from offset w below = (
  λ h. elim (cases_lt h.start offset) [
    | inl earlier ↦ inl (record {
      start = h.start;
      earlier = earlier;
      begins = h.begins;
      holds = subst L (span_more text h.start offset w (omega arith) below) h.holds;
    })
    | inr here ↦
        let at : h.start ≡ offset = (let earlier = h.earlier in omega arith) in
        let none : span text h.start offset ≡ [] = ap (λ n. span text n offset) at ∙ span_all text
        offset (omega arith) in
        inr (
          subst (Marked from) at h.begins,
          subst L (span_more text h.start offset w (omega arith)
              below ∙ ap (λ v. v ++ (get_or text offset 0 ∷ w)) none) h.holds,
        )
  ],
  λ e. elim e [
    | inl h ↦
        let earlier = h.earlier in
        record {
          start = h.start;
          earlier = omega arith;
          begins = h.begins;
          holds = subst L (sym (span_more text h.start offset w (omega arith) below)) h.holds;
        }
    | inr h ↦ record {
      start = offset;
      earlier = omega arith;
      begins = h.0;
      holds = subst L (sym (span_more text offset offset w (omega arith) below ∙
          ap (λ v. v ++ (get_or text offset 0 ∷ w)) (span_all text offset (omega arith)))) h.1;
    }
  ],
)

reached_by_span : {L : List ℕ → Type 0} {text : List ℕ} {from : List Bool} (start offset : ℕ)
    → start ≤ offset → offset ≤ length text → Marked from start → L (span text start offset)
    → Reached L text from offset
reached_by_span {text = text} {from} start offset before within begins holds =
    let prefix = take-append-drop start (take offset text) in
    let long : length (take start (take offset text)) ≡ start = omega (
      arith,
      length-take start (take
          offset text),
      length-take offset text,
    ) in
    record {
      before = take start (take offset text);
      word = span text start offset;
      after = drop offset text;
      is = sym (take-append-drop offset text) ∙ ap (λ t. t ++ drop offset text) (sym prefix) ∙
          append_assoc (take start (take offset text)) (span text start offset) (drop offset text);
      begins = subst (Marked from) (sym long) begins;
      holds = holds;
      ends = omega (
        arith,
        long,
        ap length prefix,
        length-append (take start (take offset text)) (span
            text start offset),
        length-take offset text,
      );
    }

span_reached : {L : List ℕ → Type 0} {text : List ℕ} {from : List Bool} {offset : ℕ}
    → (r : Reached L text from offset) → span text (length r.before) offset ≡ r.word
span_reached {text = text} {offset = offset} r =
    let whole : text ≡ (r.before ++ r.word) ++ r.after = r.is ∙ sym (append_assoc r.before r.word
    r.after) in
    let taken : take offset text ≡ r.before ++ r.word = ap (take offset) whole ∙ take_at (r.before ++
    r.word) r.after offset (omega (arith, length-append r.before r.word, r.ends)) in
    ap (drop (length r.before)) taken ∙ drop-append_seam r.before r.word

-- an offset is reached from one before it, or from itself by the empty word
pub reached_begun : (L : List ℕ → Type 0) (text : List ℕ) (from : List Bool) (offset : ℕ)
    → offset ≤ length text
    → Reached L text from offset ↔ (Begun L text from offset [] ⊎ (Marked from offset × L []))
reached_begun L text from offset within = (
  λ r.
      let is = span_reached r in
      elim (cases_lt (length r.before) offset) [
        | inl earlier ↦ inl (record {
          start = length r.before;
          earlier = earlier;
          begins = r.begins;
          holds = subst L (sym (append-nil (span text (length r.before) offset) ∙ is)) r.holds;
        })
        | inr here ↦
            let at : length r.before ≡ offset = omega (arith, r.ends) in
            let none : r.word ≡ [] = sym is ∙ ap (λ n. span text n offset) at ∙ span_all text offset
            within in
            inr (subst (Marked from) at r.begins, subst L none r.holds)
      ],
  λ e. elim e [
    | inl h ↦
        let earlier = h.earlier in
        reached_by_span h.start offset (omega arith) within h.begins (subst L (append-nil (span text
        h.start offset)) h.holds)
    | inr h ↦ reached_by_span offset offset (omega arith) within h.0 (subst L (sym (span_all text
        offset within)) h.1)
  ],
)

-- what the marks lead to at an offset are the rests of the words that are begun
pub record Carries (t : Tree) (text : List ℕ) (from : List Bool) (offset : ℕ) (marks : List Bool) :
    Type 0 where
  pub rest : (w : List ℕ) → Rest (unrolled t) marks w ↔ Begun (Language t) text from offset w

pub carries_first : {t : Tree} {text : List ℕ} {from marks : List Bool} → ((k : ℕ) → IsTrue (get_or
    marks k false) → ⊥) → Carries t text from 0 marks
carries_first {t} {marks = marks} none = record {
  rest = λ w. (λ r. absurd (rest_none (unrolled t) marks w none r), λ h. absurd (begun_none h));
}

pub carries_more : {t : Tree} {text : List ℕ} {from : List Bool} {offset c : ℕ} {entered ended : Bool}
    {before after : List Bool} → offset < length text → c ≡ get_or text offset 0
    → entered ≡ get_or from offset false → Carries t text from offset before
    → Steps (unrolled t) c entered before after ended → Carries t text from (suc offset) after
carries_more {t} {text} {from} {offset} {c} {entered} {ended} {before} {after} below is at so_far
    step = record {
      rest = λ w.
          let more = begun_more (Language t) text from offset w below in
          let left : Rest (unrolled t) after w ↔ (Rest (unrolled t) before (get_or text offset 0 ∷ w) ⊎
          (IsTrue (get_or from offset false) × Words (unrolled t) (get_or text offset 0 ∷ w))) = rw (
            ← is,
            ← at,
          ) (step.left w) in
          let words = unrolled-words t (get_or text offset 0 ∷ w) in (
            λ r. more.1 (elim (left.0 r) [
              | inl old ↦ inl ((so_far.rest (get_or text offset 0 ∷ w)).0 old)
              | inr new ↦ inr (new.0, words.0 new.1)
            ]),
            λ h. left.1 (elim (more.0 h) [
              | inl old ↦ inl ((so_far.rest (get_or text offset 0 ∷ w)).1 old)
              | inr new ↦ inr (new.0, words.1 new.1)
            ]),
          );
    }

-- the end of the pattern is reached exactly at the offsets that a word reaches
pub carries_ends : {t : Tree} {text : List ℕ} {from : List Bool} {offset : ℕ} {entered ended : Bool}
    {marks : List Bool} → offset ≤ length text → entered ≡ get_or from offset false
    → Carries t text from offset marks → Ends (unrolled t) entered marks ended
    → IsTrue ended ↔ Reached (Language t) text from offset
carries_ends {t} {text} {from} {offset} within at so_far ends =
    let reached = reached_begun (Language t) text from offset within in (
      λ e. reached.1 (elim (ends.is.0 e) [
        | inl r ↦ inl ((so_far.rest []).0 r)
        | inr s ↦ inr (subst IsTrue at s.0, (unrolled-words t []).0 s.1)
      ]),
      λ r. ends.is.1 (elim (reached.0 r) [
        | inl h ↦ inl ((so_far.rest []).1 h)
        | inr s ↦ inr (subst IsTrue (sym at) s.0, (unrolled-words t []).1 s.1)
      ]),
    )

-- the offsets below are those that are reached; the other offsets are still those of the first set
pub record Passes (t : Tree) (text : List ℕ) (from now : List Bool) (offset : ℕ) : Type 0 where
  pub same_length : length now ≡ length from
  pub done : (k : ℕ) → k < offset → Marked now k ↔ Reached (Language t) text from k
  pub left : (k : ℕ) → offset ≤ k → get_or now k false ≡ get_or from k false

pub passes_first : {t : Tree} {text : List ℕ} {from : List Bool} → Passes t text from from 0
passes_first = record {
  same_length = refl;
  done = λ k below. absurd (omega arith);
  left = λ k above. refl;
}

pub passes_more : {t : Tree} {text : List ℕ} {from now : List Bool} {offset : ℕ} {ended : Bool}
    → offset < length now → (IsTrue ended ↔ Reached (Language t) text from offset)
    → Passes t text from now offset → Passes t text from (set now offset ended) (suc offset)
passes_more {t} {text} {from} {now} {offset} {ended} below is so_far = record {
  same_length = length-set now offset ended ∙ so_far.same_length;
  done = λ k under. elim (cases_lt k offset) [
    | inl earlier ↦ let ne : k ≢ offset = omega arith in rw get_or-set_other (so_far.done k earlier)
    | inr here ↦
        let at : offset ≡ k = omega arith in
        subst (λ j. Marked (set now offset ended) j ↔ Reached (Language t) text from j) at (rw
        get_or-set_same is)
  ];
  left = λ k above. let ne : k ≢ offset = omega arith in rw get_or-set_other (so_far.left k (omega
      arith));
}

pub passes_all : {t : Tree} {text : List ℕ} {from now : List Bool}
    → length from ≡ suc (length text) → Passes t text from now (suc (length text))
    → IsImage (Language t) text from now
passes_all {now = now} long so_far = record {
  same_length = so_far.same_length;
  reached = λ offset. (
    λ marked.
        let below = marked_below now offset marked in
        (so_far.done offset (omega (arith, so_far.same_length))).0 marked,
    λ r. (so_far.done offset (omega (
      arith,
      r.ends,
      ap length r.is,
      length-append r.before (r.word ++
          r.after),
      length-append r.word r.after,
    ))).1 r,
  );
}
