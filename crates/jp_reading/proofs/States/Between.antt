-- What lies between two states of a reader, and what a rule's outcome says of it.
use Rattle.std.proofs.Common.{◌≡◌, ℕ, ◌+◌, ◌<◌, [], ◌∷◌, ◌++◌, length, refl, sym, ap, ◌∙◌, subst}
use Rattle.std.proofs.Common.{append_assoc, append-nil, arith}
use Rattle.jp_reading.specs.Texts.{Text, Spans, bytes}
use Rattle.jp_reading.specs.Forms.{Form, ◌⌢◌}
use Rattle.jp_reading.specs.Outcome.{State, past}

-- q is p past the text t, whose components have the spans s
pub record Between (p : State) (s : Spans) (t : Text) (q : State) : Type 0 where
  pub rest : p.rest ≡ t ++ q.rest
  pub at : q.at ≡ p.at + bytes t
  pub found : q.found ≡ p.found ++ s

-- between p and q stands a text of the form
pub record Reads (P : Form) (p q : State) : Type 0 where
  pub spans : Spans
  pub text : Text
  pub way : Between p spans text q
  pub is : P spans p.at text

-- what stands between p and r is a prefix of some text of the form: with more it is one
pub record Prefix (P : Form) (p r : State) : Type 0 where
  pub read : Text
  pub more : Text
  pub spans : Spans
  pub rest : p.rest ≡ read ++ r.rest
  pub at : r.at ≡ p.at + bytes read
  pub is : P spans p.at (read ++ more)

-- the same for some value
pub record Stops {A : Type 0} (F : A → Form) (p r : State) : Type 0 where
  pub value : A
  pub prefix : Prefix (F value) p r

-- at r stands a character, and past it stands a prefix of some text
pub record Passes {A : Type 0} (F : A → Form) (p r : State) : Type 0 where
  pub next : 0 < length r.rest
  pub stops : Stops F p (past r)

-- some text has the form, wherever it begins
abbrev pub Has : Form → Type 0
Has P = (o : ℕ) → (s : Spans) × (t : Text) × P s o t

-- whatever has the first form has the second
abbrev pub Within : Form → Form → Type 0
Within P Q = (s : Spans) (o : ℕ) (t : Text) → P s o t → Q s o t

-- of texts joined
pub bytes-append : (t u : Text) → bytes (t ++ u) ≡ bytes t + bytes u
bytes-append [] u = omega arith
bytes-append (c ∷ t) u = let h = bytes-append t u in omega arith

-- nothing lies between a state and itself
pub between-same : (p : State) → Between p [] [] p
between-same p = record { rest = refl; at = omega arith; found = sym (append-nil p.found) }

-- two states with the same fields are one
pub state-same : (p q : State) → p.at ≡ q.at → p.rest ≡ q.rest → p.found ≡ q.found → p ≡ q
state-same p q a r f = fields p.at q.at p.rest q.rest p.found q.found a r f
  where
    fields : (a b : ℕ) (t u : Text) (s v : Spans) → a ≡ b → t ≡ u → s ≡ v
        → ◌≡◌ {A = State} (record { at = a; rest = t; found = s })
        (record { at = b; rest = u; found = v })
    fields a b t u s v e f g = cc

-- and where nothing lies between two states they are one
pub between-none : (p q : State) → Between p [] [] q → p ≡ q
between-none p q h =
    state-same p q (let e = h.at in omega arith) h.rest (sym (h.found ∙ append-nil p.found))

-- one way after another
pub between-then : (p q r : State) (s u : Spans) (t v : Text) → Between p s t q → Between q u v r
    → Between p (s ++ u) (t ++ v) r
between-then p q r s u t v h g = record {
  rest = h.rest ∙ ap (λ x. t ++ x) g.rest ∙ sym (append_assoc t v r.rest);
  at = (let a = h.at in let b = g.at in let e = bytes-append t v in omega arith);
  found = g.found ∙ ap (λ x. x ++ u) h.found ∙ append_assoc p.found s u;
}

-- two parts, one after the other
pub reads-then : (P Q : Form) (p q r : State) → Reads P p q → Reads Q q r → Reads (P ⌢ Q) p r
reads-then P Q p q r h g = record {
  spans = h.spans ++ g.spans;
  text = h.text ++ g.text;
  way = between-then p q r h.spans g.spans h.text g.text h.way g.way;
  is = record {
    first_spans = h.spans;
    second_spans = g.spans;
    first = h.text;
    second = g.text;
    spans = refl;
    is = refl;
    one = h.is;
    two = subst (λ (o : ℕ). Q g.spans o g.text) h.way.at g.is;
  };
}

-- a part, and a prefix of the next
pub prefix-then : (P Q : Form) (p q r : State) → Reads P p q → Prefix Q q r → Prefix (P ⌢ Q) p r
prefix-then P Q p q r h g = record {
  read = h.text ++ g.read;
  more = g.more;
  spans = h.spans ++ g.spans;
  rest = h.way.rest ∙ ap (λ x. h.text ++ x) g.rest ∙ sym (append_assoc h.text g.read r.rest);
  at = (let a = h.way.at in let b = g.at in let e = bytes-append h.text g.read in omega arith);
  is = record {
    first_spans = h.spans;
    second_spans = g.spans;
    first = h.text;
    second = g.read ++ g.more;
    spans = refl;
    is = append_assoc h.text g.read g.more;
    one = h.is;
    two = subst (λ (o : ℕ). Q g.spans o (g.read ++ g.more)) h.way.at g.is;
  };
}

-- a prefix of the first part, where the next has some text
pub prefix-first : (P Q : Form) (p r : State) → Prefix P p r → Has Q → Prefix (P ⌢ Q) p r
prefix-first P Q p r h has =
    let next = has (p.at + bytes (h.read ++ h.more)) in
    record {
      read = h.read;
      more = h.more ++ next.1;
      spans = h.spans ++ next.0;
      rest = h.rest;
      at = h.at;
      is = record {
        first_spans = h.spans;
        second_spans = next.0;
        first = h.read ++ h.more;
        second = next.1;
        spans = refl;
        is = sym (append_assoc h.read h.more next.1);
        one = h.is;
        two = next.2;
      };
    }

-- of another form
pub reads-as : (P Q : Form) (p q : State) → Within P Q → Reads P p q → Reads Q p q
reads-as P Q p q w h = record {
  spans = h.spans;
  text = h.text;
  way = h.way;
  is = w h.spans p.at h.text h.is;
}

-- what was read has another form too
pub reads-is : (P Q : Form) (p q : State) (h : Reads P p q) → Q h.spans p.at h.text → Reads Q p q
reads-is P Q p q h is = record { spans = h.spans; text = h.text; way = h.way; is = is }

pub prefix-as : (P Q : Form) (p r : State) → Within P Q → Prefix P p r → Prefix Q p r
prefix-as P Q p r w h = record {
  read = h.read;
  more = h.more;
  spans = h.spans;
  rest = h.rest;
  at = h.at;
  is = w h.spans p.at (h.read ++ h.more) h.is;
}

pub has-as : (P Q : Form) → Within P Q → Has P → Has Q
has-as P Q w h o = let text = h o in (text.0, text.1, w text.0 o text.1 text.2)

-- nothing read is a prefix wherever the form has a text
pub prefix-none : (P : Form) (p : State) → Has P → Prefix P p p
prefix-none P p has =
    let text = has p.at in
    record { read = []; more = text.1; spans = text.0; rest = refl; at = omega arith; is = text.2 }

-- two parts of other forms
pub joined-both : (P P' Q Q' : Form) (s : Spans) (o : ℕ) (t : Text) (h : (P ⌢ Q) s o t)
    → P' h.first_spans o h.first
    → Q' h.second_spans (o + bytes h.first) h.second → (P' ⌢ Q') s o t
joined-both P P' Q Q' s o t h one two = record {
  first_spans = h.first_spans;
  second_spans = h.second_spans;
  first = h.first;
  second = h.second;
  spans = h.spans;
  is = h.is;
  one = one;
  two = two;
}

-- the same first part before another form
pub joined-over : (P Q R : Form) (s : Spans) (o : ℕ) (t : Text) (h : (P ⌢ Q) s o t)
    → R h.second_spans (o + bytes h.first) h.second → (P ⌢ R) s o t
joined-over P Q R s o t h two = joined-both P P Q R s o t h h.one two
