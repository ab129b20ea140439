-- How far a text is read, step by step.
use Rattle.std.proofs.Common.{◌≡◌, ◌≤◌, ◌-◌, ◌+◌, ℕ, suc, List, [], ◌∷◌, ◌++◌, length, refl, ap, arith}
use Rattle.std.proofs.Common.{append_assoc, append-nil, subst, ◌∙◌, sym, Bool, true, false, if◌then◌else◌, Err, Ok, Result, Option}
use Rattle.std.specs.Char.{len_utf8}
use Rattle.jp_reading.specs.Texts.{Text, bytes}
use Rattle.jp_reading.proofs.States.Between.{bytes-append}
use Rattle.jp_json.specs.declared.state.Level.{Level}
use Rattle.jp_json.specs.declared.state.State.{State}
use Rattle.jp_json.specs.declared.state.State.TheVariants.{Value, After}
use Rattle.jp_json.specs.declared.state.Step.{Step}
use Rattle.jp_json.specs.declared.state.Step.TheVariants.{Close}
use Rattle.jp_json.specs.Private.Machine.{on, moved, move, top, step, may_end}
use Rattle.jp_json.specs.Private.Reading.{spare_in, IsReadTo, IsReading, IsStopped, IsMoved, at_end}
use Rattle.jp_json.specs.declared.reading.Stop.{Stop}
use Rattle.jp_json.specs.declared.reading.Stop.TheVariants.{Whole, Unfinished, Unexpected, TooDeep}
use Rattle.jp_json.proofs.Viable.{walk-more, viable, no_viable, not_viable, viable_deeper, unfinished, finished}
use Rattle.jp_json.specs.declared.reading.Reading.{Reading}
use Rattle.jp_json.specs.Grammar.{json_text}
use Rattle.jp_json.specs.ViablePrefix.{IsUnexpectedAt, IsTooDeepAt, IsUnfinishedAt, IsViablePrefix}
use Rattle.std.specs.Str.{chars}

-- a level less leaves one more
pub moved-close : (l : Level) (j : List Level) → length (l ∷ j) ≤ 127
    → moved (spare_in (l ∷ j)) (l ∷ j) Close ≡ on (spare_in j) j After
moved-close l j h =
    let e : suc (127 - length (l ∷ j)) ≡ 127 - length j = omega arith in ap (λ n. on n j After) e

pub moved-closed : (k j : List Level) (l : Level) (x : Step) → x ≡ Close → k ≡ l ∷ j
    → length k ≤ 127
    → moved (spare_in k) k x ≡ on (spare_in j) j After
moved-closed k j l x close levels within =
    let bound : length (l ∷ j) ≤ 127 = rw levels at within in
    rw (close, levels) (moved-close l j bound)

-- nothing is read yet
pub read-nothing : (text : Text) → IsReadTo text text 0 [] Value
read-nothing text = record { front = []; parts = refl; offset_is = refl; way = refl }

-- one character more
pub read-more : (text rest more : Text) (offset : ℕ) (k j : List Level) (s e : State) (c : ℕ)
    → IsReadTo text rest offset k s → rest ≡ c ∷ more
    → move (spare_in k) k s c ≡ on (spare_in j) j e
    → IsReadTo text more (offset + len_utf8 c) j e
read-more text rest more offset k j s e c h is goes = record {
  front = h.front ++ c ∷ [];
  parts = h.parts ∙ ap (λ r. h.front ++ r) is ∙ sym (append_assoc h.front (c ∷ []) more);
  offset_is = omega (arith, h.offset_is, bytes-append h.front (c ∷ []));
  way = walk-more h.front 127 (spare_in k) k s c h.way ∙ goes;
}

-- as a reader finds it
pub read-moved : (text rest more : Text) (offset size : ℕ) (k j : List Level) (s : State)
    (e : State × Option Level) (c : ℕ)
    → (x : Step) (o : Option Level) (r : Result (State × Option Level) Stop) → IsReadTo text rest offset k s
    → rest ≡ c ∷ more
    → size ≡ len_utf8 c
    → o ≡ top k → x ≡ step o s c → r ≡ Ok e
    → IsMoved k x r j
    → IsReadTo text more (offset + size) j e.0 × (e.1 ≡ top j)
read-moved text rest more offset size k j s e c x o r h is size_is top_is step_is ok moves =
    let there : IsMoved k x (Ok e) j = rw ok at moves in
    let goes : move (spare_in k) k s c ≡ on (spare_in j) j e.0 = rw (step_is, top_is) at there.0 in
    (rw size_is (read-more text rest more offset k j s e.0 c h is goes), there.1)

-- at the end of the text
pub stopped-at-end : (k : List Level) (s : State) (rest : Text) → rest ≡ []
    → IsStopped (at_end (top k) s) rest k s
stopped-at-end [] s rest h = ended (may_end s) refl
  where
    ended : (b : Bool) → may_end s ≡ b
        → IsStopped (if b then Whole else Unfinished) rest [] s
    ended true e = (h, e)
    ended false e = (h, e)
stopped-at-end (l ∷ k) s rest h = (h, refl)

-- where a step leads nowhere
pub stopped-by : (k j : List Level) (s : State) (stop : Stop) (c : ℕ) (rest more : Text)
    → rest ≡ c ∷ more → IsMoved k (step (top k) s c) (Err stop) j
    → IsStopped stop rest k s
stopped-by k j s Unexpected c rest more is h = (c, more, is, h.0)
stopped-by k j s TooDeep c rest more is h = (c, more, is, h.0)
stopped-by k j s Whole c rest more is h = absurd h
stopped-by k j s Unfinished c rest more is h = absurd h

-- ---- where reading stops

pub unexpected-at : (text : Text) (r : Reading) → IsReading text r → r.stop ≡ Unexpected
    → (u : IsUnexpectedAt 127 text r.offset)
    × (chars r.rest.now ≡ u.there.character ∷ u.there.after)
unexpected-at text r h is = (stuck-at s, s.2)
  where
    s : IsStopped Unexpected (chars r.rest.now) h.open_levels r.state
    s = rw is at h.stops

    stuck-at : IsStopped Unexpected (chars r.rest.now) h.open_levels r.state
        → IsUnexpectedAt 127 text r.offset
    stuck-at s = record {
      there = record {
        before = h.read.front;
        character = s.0;
        after = s.1;
        parts = h.read.parts ∙ ap (λ x. h.read.front ++ x) s.2;
        place_is = sym h.read.offset_is;
        is_viable = viable 127 (spare_in h.open_levels) h.open_levels r.state h.read.front h.read.way;
      };
      is_not_viable = no_viable 127 (h.read.front ++ s.0 ∷ [])
          (walk-more h.read.front 127 (spare_in h.open_levels) h.open_levels r.state s.0 h.read.way ∙ s.3);
    }

pub too_deep-at : (text : Text) (r : Reading) → IsReading text r → r.stop ≡ TooDeep
    → IsTooDeepAt 127 text r.offset
too_deep-at text r h is = deep-at (rw is at h.stops)
  where
    deep-at : IsStopped TooDeep (chars r.rest.now) h.open_levels r.state
        → IsTooDeepAt 127 text r.offset
    deep-at s = record {
      there = record {
        before = h.read.front;
        character = s.0;
        after = s.1;
        parts = h.read.parts ∙ ap (λ x. h.read.front ++ x) s.2;
        place_is = sym h.read.offset_is;
        is_viable = viable 127 (spare_in h.open_levels) h.open_levels r.state h.read.front h.read.way;
      };
      is_not_viable = not_viable 127 (h.read.front ++ s.0 ∷ [])
          (walk-more h.read.front 127 (spare_in h.open_levels) h.open_levels r.state s.0 h.read.way ∙ s.3);
      deeper = viable_deeper h.read.front 127 (spare_in h.open_levels) h.open_levels r.state s.0 h.read.way s.3;
    }

-- at the end of the text all of it is read
all-read : (text : Text) (r : Reading) (h : IsReading text r) → chars r.rest.now ≡ []
    → text ≡ h.read.front
all-read text r h end =
    h.read.parts ∙ ap (λ x. h.read.front ++ x) end ∙ append-nil h.read.front

pub read-viable : (text : Text) (r : Reading) (h : IsReading text r) → chars r.rest.now ≡ []
    → IsViablePrefix 127 text
read-viable text r h end =
    rw (all-read text r h end)
    (viable 127 (spare_in h.open_levels) h.open_levels r.state h.read.front h.read.way)

pub unfinished-at : (text : Text) (r : Reading) → IsReading text r → r.stop ≡ Unfinished
    → IsUnfinishedAt 127 text r.offset
unfinished-at text r h is = end-at (rw is at h.stops)
  where
    end-at : IsStopped Unfinished (chars r.rest.now) h.open_levels r.state
        → IsUnfinishedAt 127 text r.offset
    end-at s = record {
      place_is = ap bytes (all-read text r h s.0) ∙ sym h.read.offset_is;
      is_viable = read-viable text r h s.0;
      is_no_text = λ m t.
          unfinished 127 (spare_in h.open_levels) m h.open_levels r.state h.read.front h.read.way s.1
          (subst (λ x. json_text m x) (all-read text r h s.0) t);
    }

pub whole-text : (text : Text) (r : Reading) → IsReading text r → r.stop ≡ Whole
    → json_text 127 text
whole-text text r h is = end-at (rw is at h.stops)
  where
    end-at : IsStopped Whole (chars r.rest.now) h.open_levels r.state → json_text 127 text
    end-at s =
        subst
        (λ x. json_text 127 x)
        (sym (all-read text r h s.0))
        (finished 127 (spare_in h.open_levels) h.open_levels r.state h.read.front h.read.way s.1)

pub unfinished-viable : (text : Text) (r : Reading) → IsReading text r → r.stop ≡ Unfinished
    → IsViablePrefix 127 text
unfinished-viable text r h is = (unfinished-at text r h is).is_viable

pub whole-viable : (text : Text) (r : Reading) → IsReading text r → r.stop ≡ Whole
    → IsViablePrefix 127 text
whole-viable text r h is = read-viable text r h (ended (rw is at h.stops))
  where
    ended : IsStopped Whole (chars r.rest.now) h.open_levels r.state → chars r.rest.now ≡ []
    ended s = s.0

-- a whole text, of bytes
pub whole-bytes : (bytes text : List ℕ) (r : Reading) → text ≡ bytes → IsReading (chars text) r
    → r.stop ≡ Whole
    → json_text 127 (chars bytes)
whole-bytes bytes text r is h stops =
    subst (λ t. json_text 127 (chars t)) is (whole-text (chars text) r h stops)
