-- What was read before a stop begins a text, put together from the parts; and what a component reads.
use Rattle.std.proofs.Common.{◌≡◌, ℕ, ◌+◌, ◌∷◌, ◌++◌, length, Some, refl, ap}
use Rattle.std.proofs.Math.Seq.{take-append_seam, drop-append_seam}
use Rattle.std.specs.List.{insert}
use Rattle.jp_reading.specs.declared.span.Span.{Span}
use Rattle.jp_reading.specs.Texts.{Spans, bytes}
use Rattle.jp_reading.specs.Forms.{Form, ◌⌢◌, Component}
use Rattle.jp_reading.specs.Outcome.{State, component_since}
use Rattle.jp_reading.proofs.States.Between.{Prefix, Reads, Stops, Has, Within, prefix-then}
use Rattle.jp_reading.proofs.States.Between.{prefix-first}
use Rattle.jp_reading.proofs.States.Between.{prefix-as}
use Rattle.jp_reading.proofs.Forms.Levels.{Then, Made}

-- a prefix of the first part is one of the whole, where what goes on from each value has some text
pub stops-first : {A B : Type 0} (F : A → Form) (H : A → B → Form) (p r : State)
    → ((x : A) → (y : B) × Has (H x y)) → Stops F p r → Stops (Then F H) p r
stops-first F H p r next h =
    let x = h.value in
    let y = next x in
    record {
      value = y.0;
      prefix = prefix-as (F x ⌢ H x y.0) (Then F H y.0) p r (λ s o t g. record { part = x; is = g })
          (prefix-first (F x) (H x y.0) p r h.prefix y.1);
    }

-- so is the first part with a prefix of what goes on
pub stops-then : {A B : Type 0} (F : A → Form) (H : A → B → Form) (x : A) (p q r : State)
    → Reads (F x) p q → Stops (H x) q r → Stops (Then F H) p r
stops-then F H x p q r h g = record {
  value = g.value;
  prefix = prefix-as (F x ⌢ H x g.value) (Then F H g.value) p r
      (λ s o t k. record { part = x; is = k })
      (prefix-then (F x) (H x g.value) p q r h g.prefix);
}

pub stops-as : {A : Type 0} (F G : A → Form) (p r : State) → ((x : A) → Within (F x) (G x))
    → Stops F p r → Stops G p r
stops-as F G p r w h = record {
  value = h.value;
  prefix = prefix-as (F h.value) (G h.value) p r (w h.value) h.prefix;
}

pub stops-made : {A B : Type 0} (f : A → B) (F : A → Form) (p r : State) → Stops F p r
    → Stops (Made f F) p r
stops-made f F p r h = record {
  value = f h.value;
  prefix = prefix-as (F h.value) (Made f F (f h.value)) p r (λ s o t g. record {
    part = h.value;
    same = refl;
    is = g;
  }) h.prefix;
}

pub prefix-component : (P : Form) (p r : State) → Prefix P p r → Prefix (Component P) p r
prefix-component P p r h = record {
  read = h.read;
  more = h.more;
  spans = Some (record { start = p.at; end = p.at + bytes (h.read ++ h.more) }) ∷ h.spans;
  rest = h.rest;
  at = h.at;
  is = record { inside = h.spans; spans = refl; is = h.is };
}

-- the span of a component stands before those found since
pub span_inserted : (before inside found : Spans) (a b : Span) → found ≡ before ++ inside → a ≡ b
    → insert found (length before) (Some a) ≡ before ++ (Some b ∷ inside)
span_inserted before inside found a b e same =
    rw (e, same, take-append_seam before inside, drop-append_seam before inside) refl

-- a component ends where its text does
pub reads-component : (P : Form) (p q : State) → Reads P p q
    → Reads (Component P) p (component_since p.at (length p.found) q)
reads-component P p q h =
    let span : Span = record { start = p.at; end = p.at + bytes h.text } in
    record {
      spans = Some span ∷ h.spans;
      text = h.text;
      way = record {
        rest = h.way.rest;
        at = h.way.at;
        found = span_inserted p.found h.spans q.found (record { start = p.at; end = q.at }) span
            h.way.found
            (ap (λ (e : ℕ). record { start = p.at; end = e }) h.way.at);
      };
      is = record { inside = h.spans; spans = refl; is = h.is };
    }
