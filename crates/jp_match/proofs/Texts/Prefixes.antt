-- A text that is taken one character at a time.
use Rattle.std.proofs.Common.{◌≡◌, ◌↔◌, ℕ, ◌+◌, ◌*◌, ◌≤◌, ◌<◌, inl, inr, List, [], ◌∷◌, ◌++◌, length, take, drop}
use Rattle.std.proofs.Common.{get_or, refl, sym, ap, ◌∙◌, subst, arith}
use Rattle.std.proofs.lemmas.List.{append_assoc, append-nil, length-append, length_push}
use Rattle.std.proofs.lemmas.List.{take-append-drop, take_all, take_at, take_more}
use Rattle.std.proofs.Math.Nat.{mul-le-mul_left}
use Rattle.jp_match.specs.Part.{HasPart}
use Rattle.jp_match.specs.Bounds.{MakesAtMost}
use Rattle.jp_match.specs.Private.ClassTests.{LeavesRoom}
use Rattle.jp_match.specs.Scan.{HasSuffix}

pub taken_more : (text taken : List ℕ) (x : ℕ) → taken ≡ take (length taken) text
    → length taken < length text → x ≡ get_or text (length taken) x
    → taken ++ x ∷ [] ≡ take (length (taken ++ x ∷ [])) text
taken_more text taken x is below item =
    let more = take_more text (length taken) x below in
    ap (λ ys. ys ++ x ∷ []) is ∙ ap (λ y. take (length taken) text ++ y ∷ []) item ∙ sym more ∙
    ap (λ n. take n text) (sym (length_push taken x))

pub taken_all : (text taken : List ℕ) → taken ≡ take (length taken) text
    → length taken ≡ length text → taken ≡ text
taken_all text taken is all = is ∙ take_all (length taken) text (omega arith)

pub taken_rest : (text taken : List ℕ) → taken ≡ take (length taken) text
    → text ≡ taken ++ drop (length taken) text
taken_rest text taken is = sym (take-append-drop (length taken) text) ∙
    ap (λ t. t ++ drop (length taken) text) (sym is)

-- what is left after a character more
pub left_more : (L L' : List ℕ → Type 0) (First : List ℕ → Type 0) (taken : List ℕ) (x : ℕ)
    → ((w : List ℕ) → L w ↔ First (taken ++ w)) → ((w : List ℕ) → L' w ↔ L (x ∷ w))
    → (w : List ℕ) → L' w ↔ First ((taken ++ x ∷ []) ++ w)
left_more L L' First taken x so_far step w =
    let joined = append_assoc taken (x ∷ []) w in (
      λ h. subst First (sym joined) ((so_far (x ∷ w)).0 ((step w).0 h)),
      λ h. (step w).1 ((so_far (x ∷ w)).1 (subst First joined h)),
    )

pub left_nil : (L First : List ℕ → Type 0) (taken : List ℕ) → ((w : List ℕ)
    → L w ↔ First (taken ++ w)) → L [] ↔ First taken
left_nil L First taken so_far = (
  λ h. subst First (append-nil taken) ((so_far []).0 h),
  λ h. (so_far []).1 (subst First (sym (append-nil taken)) h),
)

-- tests of so many characters are not more than those of all
pub within_all : (p n all : ℕ) → n ≤ all → p * n ≤ p * all
within_all p n all h = mul-le-mul_left p h

-- the tests for a character more: where any are made before its step, they leave room for the step's
pub tests_more : {p budget first before now after : ℕ} (n : ℕ) → budget ≤ first + p * (n + 1)
    → MakesAtMost (p * n) first before → LeavesRoom p budget before now → MakesAtMost p now after
    → MakesAtMost (p * (n + 1)) first after
tests_more n within so_far room step = record {
  counted = elim room.left [
    | inl none ↦ omega (arith, none, so_far.counted, step.counted)
    | inr left ↦ omega (arith, left, within, step.counted)
  ];
  kept = omega (arith, so_far.kept, room.kept, step.kept);
}

-- a part of a text is a suffix of one of its prefixes
pub part_is : (L : List ℕ → Type 0) (text : List ℕ)
    → ((count : ℕ) × (count ≤ length text) × HasSuffix L (take count text)) ↔ HasPart L text
part_is L text = (
  λ h.
      let (count, within, s) = h in
      record {
        before = s.before;
        part = s.suffix;
        after = drop count text;
        is = sym (take-append-drop count text) ∙ ap (λ t. t ++ drop count text) s.is ∙
            append_assoc s.before s.suffix (drop count text);
        holds = s.holds;
      },
  λ h.
      let count = length (h.before ++ h.part) in
      let is : text ≡ (h.before ++ h.part) ++ h.after = h.is ∙
      sym (append_assoc h.before h.part h.after) in (
        length (h.before ++ h.part),
        omega (arith, ap length is, length-append (h.before ++ h.part) h.after),
        record {
          before = h.before;
          suffix = h.part;
          is = ap (take (length (h.before ++ h.part))) is ∙
              take_at (h.before ++ h.part) h.after (length (h.before ++ h.part)) refl;
          holds = h.holds;
        },
      ),
)
