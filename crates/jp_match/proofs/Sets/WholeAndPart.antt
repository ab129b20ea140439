-- What the last set says of the whole text, and of its parts.
use Rattle.std.proofs.Common.{◌≡◌, ◌↔◌, ℕ, ◌+◌, ◌≤◌, Bool, List, [], ◌∷◌, ◌++◌, length, refl, sym}
use Rattle.std.proofs.Common.{ap, ◌∙◌, subst, arith}
use Rattle.std.proofs.lemmas.List.{length-append, append-nil}
use Rattle.jp_match.specs.Part.{HasPart}
use Rattle.jp_match.specs.Private.Offset.{Marked, IsImage}

no_length : (xs : List ℕ) → length xs ≡ 0 → xs ≡ []
no_length [] h = refl
no_length (x ∷ xs) h = absurd (omega (arith, h))

-- from the first offset alone, the last is reached exactly by the whole text
pub whole_reached : {L : List ℕ → Type 0} {text : List ℕ} {from to : List Bool} → ((offset : ℕ)
    → Marked from offset ↔ (offset ≡ 0)) → IsImage L text from to → Marked to (length text) ↔ L text
whole_reached {L} {text} first image = (
  λ marked.
      let r = (image.reached (length text)).0 marked in
      let prefix : r.before ≡ [] = no_length r.before ((first (length r.before)).0 r.begins) in
      let none : r.after ≡ [] = no_length r.after (omega (
        arith,
        r.ends,
        ap length r.is,
        length-append r.before (r.word ++ r.after),
        length-append r.word r.after,
      )) in
      let is : r.word ≡ text = sym (r.is ∙ ap (λ w. w ++ (r.word ++ r.after)) prefix ∙
      ap (λ w. r.word ++ w) none ∙ append-nil r.word) in
      subst L is r.holds,
  λ holds. (image.reached (length text)).1 (record {
    before = [];
    word = text;
    after = [];
    is = sym (append-nil text);
    begins = (first 0).1 refl;
    holds = holds;
    ends = omega arith;
  }),
)

-- from every offset, an offset is reached exactly if some part of the text is a word
pub part_reached : {L : List ℕ → Type 0} {text : List ℕ} {from to : List Bool} → ((offset : ℕ)
    → Marked from offset ↔ (offset ≤ length text)) → IsImage L text from to
    → ((offset : ℕ) × Marked to offset) ↔ HasPart L text
part_reached every image = (
  λ any.
      let r = (image.reached any.0).0 any.1 in
      record { before = r.before; part = r.word; after = r.after; is = r.is; holds = r.holds },
  λ h. (
    length h.before + length h.part,
    (image.reached (length h.before + length h.part)).1 (record {
      before = h.before;
      word = h.part;
      after = h.after;
      is = h.is;
      begins = (every (length h.before)).1 (omega (
        arith,
        ap length h.is,
        length-append h.before (h.part ++ h.after),
      ));
      holds = h.holds;
      ends = refl;
    }),
  ),
)
