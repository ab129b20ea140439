-- What sets of offsets reach by words of a language.
use Rattle.std.proofs.Common.{◌≡◌, ◌↔◌, ◌⊎◌, inl, inr, ℕ, suc, Bool, List, [], ◌++◌, length, refl}
use Rattle.std.proofs.Common.{sym, ap, ◌∙◌, subst, arith, ◌≤◌, Ok}
use Rattle.std.proofs.lemmas.List.{length-append, append_assoc}
use Rattle.jp_iregexp.specs.Language.{Concatenation}
use Rattle.jp_match.specs.Private.Offset.{Marked, Holds, Reached, IsImage}
use Rattle.jp_match.specs.Private.Search.{Leads}
use Rattle.jp_match.specs.declared.search.Search.{Search}
use Rattle.jp_match.proofs.Sets.Cuts.{cut_apart, cut_at, marked_below}

-- the way is also one by another language that holds its word, from another set that has its
-- beginning
pub reached_by : {L M : List ℕ → Type 0} {text : List ℕ} {from other : List Bool} {offset : ℕ}
    → (r : Reached L text from offset) → Marked other (length r.before) → M r.word
    → Reached M text other offset
reached_by r begins holds = record {
  before = r.before;
  word = r.word;
  after = r.after;
  is = r.is;
  begins = begins;
  holds = holds;
  ends = r.ends;
}

-- no word leads from an offset to itself, and nowhere else
pub reached_still : {text : List ℕ} {from : List Bool} (offset : ℕ)
    → length from ≡ suc (length text) → Marked from offset → Reached (λ w. w ≡ []) text from offset
reached_still {text} {from} offset long marked =
    let below = marked_below from offset marked in
    let cut = cut_at text offset (omega arith) in
    record {
      before = cut.before;
      word = [];
      after = cut.after;
      is = cut.is;
      begins = subst (Marked from) (sym cut.ends) marked;
      holds = refl;
      ends = omega (arith, cut.ends);
    }

pub still_reached : {text : List ℕ} {from : List Bool} {offset : ℕ}
    → Reached (λ w. w ≡ []) text from offset → Marked from offset
still_reached {from} {offset} r =
    let at : length r.before ≡ offset = omega (arith, r.ends, ap length r.holds) in
    subst (Marked from) at r.begins

-- a way by a word of two parts goes by an offset between them
pub record Halfway (L M : List ℕ
    → Type 0) (text : List ℕ) (from : List Bool) (offset : ℕ) : Type 0 where
  pub middle : ℕ
  pub first : Reached L text from middle
  pub second : (offsets : List Bool) → Marked offsets middle → Reached M text offsets offset

pub halfway : {L M : List ℕ → Type 0} {text : List ℕ} {from : List Bool} {offset : ℕ}
    → Reached (Concatenation L M) text from offset → Halfway L M text from offset
halfway {L} {text = text} {from} r =
    let cut = r.holds in
    let first : Reached L text from (length (r.before ++ cut.prefix)) = record {
      before = r.before;
      word = cut.prefix;
      after = cut.suffix ++ r.after;
      is = r.is ∙ ap (λ w. r.before ++ w) (ap (λ w. w ++ r.after) cut.is ∙
          append_assoc cut.prefix cut.suffix r.after);
      begins = r.begins;
      holds = cut.first;
      ends = sym (length-append r.before cut.prefix);
    } in
    record {
      middle = length (r.before ++ cut.prefix);
      first = first;
      second = λ offsets marked. record {
        before = r.before ++ cut.prefix;
        word = cut.suffix;
        after = r.after;
        is = first.is ∙ sym (append_assoc r.before cut.prefix (cut.suffix ++ r.after));
        begins = marked;
        holds = cut.second;
        ends = omega (
          arith,
          length-append r.before cut.prefix,
          length-append cut.prefix cut.suffix,
          ap length cut.is,
          r.ends,
        );
      };
    }

-- a word leads on from where another has led
pub onward : {L M : List ℕ → Type 0} {text : List ℕ} {from through : List Bool} {offset : ℕ}
    → (second : Reached M text through offset) → Reached L text from (length second.before)
    → Reached (Concatenation L M) text from offset
onward second first =
    let same = cut_apart (first.before ++ first.word) first.after second.before (second.word ++
    second.after) (append_assoc first.before first.word first.after ∙ sym first.is ∙
    second.is) (length-append first.before first.word ∙ first.ends) in
    record {
      before = first.before;
      word = first.word ++ second.word;
      after = second.after;
      is = first.is ∙ ap (λ w. first.before ++ w) (ap (λ w. first.word ++ w) same.1 ∙
          sym (append_assoc first.word second.word second.after));
      begins = first.begins;
      holds = record {
        prefix = first.word;
        suffix = second.word;
        is = refl;
        first = first.holds;
        second = second.holds;
      };
      ends = omega (arith, length-append first.word second.word, first.ends, second.ends);
    }

-- the image of words of two parts is the image of an image
pub image_joined : {L M : List ℕ → Type 0} {text : List ℕ} {a b c : List Bool}
    → IsImage L text a b → IsImage M text b c → IsImage (Concatenation L M) text a c
image_joined {b = b} ab bc = record {
  same_length = bc.same_length ∙ ab.same_length;
  reached = λ offset. (
    λ marked.
        let second = (bc.reached offset).0 marked in
        onward second ((ab.reached (length second.before)).0 second.begins),
    λ r.
        let way = halfway r in
        (bc.reached offset).1 (way.second b ((ab.reached way.middle).1 way.first)),
  );
}

-- the image by the empty word is the set
pub image_still : {text : List ℕ} {a : List Bool} → length a ≡ suc (length text)
    → IsImage (λ w. w ≡ []) text a a
image_still long = record {
  same_length = refl;
  reached = λ offset. (reached_still offset long, still_reached);
}

-- two languages of the same words have the same image
pub image_by : {L M : List ℕ → Type 0} {text : List ℕ} {a b : List Bool} → ((w : List ℕ)
    → L w ↔ M w) → IsImage L text a b → IsImage M text a b
image_by same image = record {
  same_length = image.same_length;
  reached = λ offset. (
    λ marked. let r = (image.reached offset).0 marked in
        reached_by r r.begins ((same r.word).0 r.holds),
    λ r. (image.reached offset).1 (reached_by r r.begins ((same r.word).1 r.holds)),
  );
}

-- a search has gone so far: whatever the rest reaches from its offsets now, the whole reaches from
-- the first ones
pub record Completes (whole rest : List ℕ → Type 0) (first now : Search) : Type 0 where
  pub text : now.ground.text.now ≡ first.ground.text.now
  pub ends : (to : List Bool) → IsImage rest first.ground.text.now now.offsets.items to
      → IsImage whole first.ground.text.now first.offsets.items to
  pub kept : first.tests ≤ now.tests

pub completes_more : {whole L M : List ℕ → Type 0} {first now next : Search} {T E : Type 0} {x : T}
    → Completes whole (Concatenation L M) first now → Leads {T = T} {E = E} L now next (Ok x)
    → Completes whole M first next
completes_more {L} {now = now} {next} so_far led =
    let step = rw so_far.text at led.image in
    record {
      text = led.text ∙ so_far.text;
      ends = λ to image. so_far.ends to (image_joined step image);
      kept = omega (arith, so_far.kept, led.kept);
    }

pub completes_all : {whole : List ℕ → Type 0} {first now : Search} {T E : Type 0} {x : T}
    → Completes whole (λ w. w ≡ []) first now → Leads {T = T} {E = E} whole first now (Ok x)
completes_all {now = now} so_far = record {
  text = so_far.text;
  image = so_far.ends now.offsets.items (image_still (now.sized ∙ ap (λ t. suc (length t))
      so_far.text));
  kept = so_far.kept;
}

-- what is reached already, with what the rest reaches, is what the whole reaches
pub record Covers (whole rest : List ℕ → Type 0) (first now : Search) (reached : List Bool) : Type 0
  where
    pub text : now.ground.text.now ≡ first.ground.text.now
    pub long : length reached ≡ length first.offsets.items
    pub each : (offset : ℕ) → (Marked reached offset ⊎ Reached rest first.ground.text.now
        first.offsets.items offset) ↔ Reached whole first.ground.text.now first.offsets.items offset
    pub kept : first.tests ≤ now.tests

pub covers_more : {whole L M : List ℕ → Type 0} {first now start next : Search} {reached united :
    List Bool} {T E : Type 0} {x : T} → Covers whole (λ w. L w ⊎ M w) first now reached
    → start.ground.text.now ≡ now.ground.text.now → start.offsets.items ≡ first.offsets.items
    → start.tests ≡ now.tests → Leads {T = T} {E = E} L start next (Ok x)
    → Holds (λ offset. Marked reached offset ⊎ Marked next.offsets.items offset) reached united
    → Covers whole M first next united
covers_more so_far text from tests led both =
    let step = rw (text, so_far.text, from) at led.image in
    record {
      text = led.text ∙ text ∙ so_far.text;
      long = both.same_length ∙ so_far.long;
      each = λ offset. (
        λ h. (so_far.each offset).0 (elim h [
          | inl marked ↦ elim ((both.each offset).0 marked) [
            | inl old ↦ inl old
            | inr new ↦ let r = (step.reached offset).0 new in
                inr (reached_by r r.begins (inl r.holds))
          ]
          | inr r ↦ inr (reached_by r r.begins (inr r.holds))
        ]),
        λ r. elim ((so_far.each offset).1 r) [
          | inl old ↦ inl ((both.each offset).1 (inl old))
          | inr r ↦ elim r.holds [
            | inl l ↦ inl ((both.each offset).1 (inr ((step.reached offset).1 (reached_by r r.begins
                l))))
            | inr m ↦ inr (reached_by r r.begins m)
          ]
        ],
      );
      kept = omega (arith, so_far.kept, tests, led.kept);
    }
