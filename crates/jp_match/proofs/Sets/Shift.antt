-- A step over one character.
use Rattle.std.proofs.Common.{◌≡◌, ℕ, zero, suc, ◌+◌, ◌≤◌, ◌<◌, Bool, true, false, ◌&&◌}
use Rattle.std.proofs.Common.{◌-◌, ◌^◌, min, add-one, List, [], ◌∷◌, ◌++◌, length, count_by}
use Rattle.std.proofs.Common.{get_or, set, take, drop, ◌≢◌, inl, inr, get_or-set_other}
use Rattle.std.proofs.Common.{get_or-set_same, refl, sym, ap, ◌∙◌, subst, arith}
use Rattle.std.proofs.lemmas.List.{length-append, length-take, take-append-drop, drop_more}
use Rattle.std.proofs.Math.Seq.{get_or-append_seam}
use Rattle.std.proofs.lemmas.Bool.{cases_lt}
use Rattle.std.proofs.lemmas.List.Sums.{count_by_more_no, count_by_more_yes}
use Rattle.jp_iregexp.specs.declared.class.ClassElement.{ClassElement}
use Rattle.jp_iregexp.specs.Class.{class_holds}
use Rattle.jp_iregexp.specs.Tree.{class}
use Rattle.jp_iregexp.specs.Language.{Language}
use Rattle.jp_match.specs.Private.ClassTests.{count_after}
use Rattle.jp_match.specs.Private.Offset.{Marked, Reached, IsImage}
use Rattle.jp_match.proofs.Bools.{and_is}
use Rattle.jp_match.proofs.Sets.Cuts.{marked_below}

-- whether an offset is entered: the offset before it is in the set, and the character between them
-- passes
abbrev pub shifted : (ℕ → Bool) → List ℕ → List Bool → ℕ → Bool
shifted passes text from zero = false
shifted passes text from (suc k) = get_or from k false && passes (get_or text k 0)

-- a text cut before and after one character
record CutRound (text : List ℕ) (offset : ℕ) : Type 0 where
  before : List ℕ
  after : List ℕ
  is : text ≡ before ++ (get_or text offset 0 ∷ [] ++ after)
  ends : length before ≡ offset

cut_round : (text : List ℕ) (offset : ℕ) → offset < length text → CutRound text offset
cut_round text offset h = record {
  before = take offset text;
  after = drop (offset + 1) text;
  is = sym (take-append-drop offset text) ∙
      ap (λ w. take offset text ++ w) (drop_more text offset 0 h);
  ends = omega (arith, length-take offset text);
}

to_reached : (negated : Bool) (items : List ClassElement) (text : List ℕ) (from : List Bool)
    → length from ≡ suc (length text) → (offset : ℕ) → offset ≤ length text
    → shifted (class_holds negated items) text from offset ≡ true
    → Reached (Language (class negated items)) text from offset
to_reached negated items text from long zero within h = absurd (cc)
to_reached negated items text from long (suc k) within h =
    let both = (and_is (get_or from k false) (class_holds negated items (get_or text k 0))).0 h in
    let cut = cut_round text k (omega arith) in
    record {
      before = cut.before;
      word = get_or text k 0 ∷ [];
      after = cut.after;
      is = cut.is;
      begins = subst (Marked from) (sym cut.ends) both.0;
      holds = (get_or text k 0, both.1, refl);
      ends = omega (arith, cut.ends);
    }

of_reached : (negated : Bool) (items : List ClassElement) (text : List ℕ) (from : List Bool) (before
    word after : List ℕ) (c : ℕ)
    → text ≡ before ++ (word ++ after) → Marked from (length before)
    → class_holds negated items c ≡ true → word ≡ c ∷ []
    → (length before < length text) × (shifted (class_holds negated items) text from (suc (length
    before)) ≡ true)
of_reached negated items text from before word after c is begins holds one =
    let whole : text ≡ before ++ c ∷ after = is ∙ ap (λ w. before ++ (w ++ after)) one in
    let here : get_or text (length before) 0 ≡ c = ap (λ t. get_or t (length before) 0) whole ∙
    get_or-append_seam before c after 0 in
    (omega (arith, ap length whole, length-append before (c ∷ after)), rw (begins, here) holds)

-- the last offset is written once all others are
pub last_entered : (enters : ℕ → Bool) (offsets : List Bool) (i last : ℕ) (arrives : Bool)
    → ((k : ℕ) → k < i → get_or offsets k false ≡ enters k) → arrives ≡ enters i → i ≡ last
    → last < length offsets
    → (k : ℕ) → k ≤ last → get_or (set offsets last arrives) k false ≡ enters k
last_entered enters offsets i last arrives done carried at inside k within = elim (cases_lt k last) [
  | inl below ↦ let ne : k ≢ last = omega arith in rw get_or-set_other (done k (omega arith))
  | inr above ↦
      let same : last ≡ k = omega arith in
      subst (λ j. get_or (set offsets last arrives) j false ≡ enters j) same (rw get_or-set_same
      (carried ∙ ap enters at))
]

-- the words of a class lead over the characters that it holds
pub image_shift : (negated : Bool) (items : List ClassElement) (text : List ℕ) (from to : List Bool)
    → length from ≡ suc (length text) → length to ≡ length from
    → ((k : ℕ) → k ≤ length text → get_or to k false ≡ shifted (class_holds negated items) text from
    k)
    → IsImage (Language (class negated items)) text from to
image_shift negated items text from to long same marks = record {
  same_length = same;
  reached = λ offset. (
    λ marked.
        let within : offset ≤ length text = omega (arith, marked_below to offset marked) in
        to_reached negated items text from long offset within (sym (marks offset within) ∙ marked),
    λ r.
        let (c, holds, one) = r.holds in
        let (inside, shifts) = of_reached negated items text from r.before r.word r.after c r.is
        r.begins holds one in
        let at : suc (length r.before) ≡ offset = omega (arith, r.ends, ap length one) in
        subst (Marked to) at (marks (suc (length r.before)) (omega arith) ∙ shifts),
  );
}

-- the count of tests once those of the offsets below i are made
abbrev pub counted_to : List Bool → ℕ → ℕ → ℕ
counted_to from made i = count_after (count_by (λ marked. marked) (take i from)) made

-- an offset of the set adds a test
pub counted_more : (from : List Bool) (i made now next : ℕ) → i < length from
    → get_or from i false ≡ true
    → now ≡ counted_to from made i → next ≡ min (now + 1) (2 ^ 64 - 1)
    → next ≡ counted_to from made (i + 1)
counted_more from i made now next below marked so_far step =
    step ∙ ap (λ n. min (n + 1) (2 ^ 64 - 1)) so_far
    ∙ ap (λ n. count_after n made)
    (sym (add-one (count_by (λ m. m) (take i from))) ∙
    sym (count_by_more_yes (λ m. m) from i false below marked))

-- an offset that is not in the set adds none
pub counted_same : (from : List Bool) (i made now : ℕ) → i < length from
    → get_or from i false ≡ false
    → now ≡ counted_to from made i → now ≡ counted_to from made (i + 1)
counted_same from i made now below unmarked so_far =
    so_far ∙ ap (λ n. count_after n made) (sym (count_by_more_no (λ m. m) from i false below
    unmarked))
