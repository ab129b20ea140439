-- The algebra of joined texts.
use Rattle.std.proofs.Common.{◌≡◌, ℕ, ◌+◌, List, [], ◌∷◌, ◌++◌, sym, ap, ◌∙◌, subst, append_assoc}
use Rattle.std.proofs.Common.{append-nil, refl, arith}
use Rattle.jp_reading.specs.Texts.{Text, Spans, bytes}
use Rattle.jp_reading.specs.Forms.{Form, ◌⌢◌, word, Each, Separated}
use Rattle.jp_reading.proofs.States.Between.{Within, bytes-append, joined-over}
pub use Rattle.jp_reading.proofs.States.Between.{joined-both}
use Rattle.jp_reading.proofs.Forms.Levels.{Only, Then, Made, joined-lifts, each-lifts}

pub joined-assoc : (P Q R : Form) → Within ((P ⌢ Q) ⌢ R) (P ⌢ Q ⌢ R)
joined-assoc P Q R s o t h = record {
  first_spans = h.one.first_spans;
  second_spans = h.one.second_spans ++ h.second_spans;
  first = h.one.first;
  second = h.one.second ++ h.second;
  spans = h.spans ∙ ap (λ v. v ++ h.second_spans) h.one.spans
      ∙ append_assoc h.one.first_spans h.one.second_spans h.second_spans;
  is = h.is ∙ ap (λ u. u ++ h.second) h.one.is ∙ append_assoc h.one.first h.one.second h.second;
  one = h.one.one;
  two = record {
    first_spans = h.one.second_spans;
    second_spans = h.second_spans;
    first = h.one.second;
    second = h.second;
    spans = refl;
    is = refl;
    one = h.one.two;
    two = subst (λ (n : ℕ). R h.second_spans n h.second)
        (ap (λ u. o + bytes u) h.one.is
        ∙ (let e = bytes-append h.one.first h.one.second in omega arith)) h.two;
  };
}

-- and the other way
pub joined-back : (P Q R : Form) → Within (P ⌢ Q ⌢ R) ((P ⌢ Q) ⌢ R)
joined-back P Q R s o t h = record {
  first_spans = h.first_spans ++ h.two.first_spans;
  second_spans = h.two.second_spans;
  first = h.first ++ h.two.first;
  second = h.two.second;
  spans = h.spans ∙ ap (λ v. h.first_spans ++ v) h.two.spans
      ∙ sym (append_assoc h.first_spans h.two.first_spans h.two.second_spans);
  is = h.is ∙ ap (λ u. h.first ++ u) h.two.is ∙ sym (append_assoc h.first h.two.first h.two.second);
  one = record {
    first_spans = h.first_spans;
    second_spans = h.two.first_spans;
    first = h.first;
    second = h.two.first;
    spans = refl;
    is = refl;
    one = h.one;
    two = h.two.one;
  };
  two = subst (λ (k : ℕ). R h.two.second_spans k h.two.second)
      (let e = bytes-append h.first h.two.first in omega arith) h.two.two;
}

-- one part of another form
pub after-within : (P Q R : Form) → Within Q R → Within (P ⌢ Q) (P ⌢ R)
after-within P Q R f s o t h =
    joined-both P P Q R s o t h h.one (f h.second_spans (o + bytes h.first) h.second h.two)

pub before-within : (P Q R : Form) → Within P Q → Within (P ⌢ R) (Q ⌢ R)
before-within P Q R f s o t h = joined-both P Q R R s o t h (f h.first_spans o h.first h.one) h.two

-- nothing may stand before or after
pub nothing-before : (P : Form) → Within P (word [] ⌢ P)
nothing-before P s o t h = record {
  first_spans = [];
  second_spans = s;
  first = [];
  second = t;
  spans = refl;
  is = refl;
  one = record { none = refl; is = refl };
  two = subst (λ (k : ℕ). P s k t) (let e : o ≡ o + 0 = omega arith in e) h;
}

pub word-joined : (P : Form) → Within (word [] ⌢ P) P
word-joined P s o t h =
    let spans : s ≡ h.second_spans = h.spans ∙ ap (λ v. v ++ h.second_spans) h.one.none in
    let text : t ≡ h.second = h.is ∙ ap (λ u. u ++ h.second) h.one.is in
    rw (spans, text)
    (subst (λ (n : ℕ). P h.second_spans n h.second) (ap (λ u. o + bytes u) h.one.is ∙ omega arith)
    h.two)

pub joined-word : (P : Form) → Within (P ⌢ word []) P
joined-word P s o t h =
    let spans : s ≡ h.first_spans = h.spans ∙ ap (λ v. h.first_spans ++ v) h.two.none
    ∙ append-nil h.first_spans in
    let text : t ≡ h.first = h.is ∙ ap (λ u. h.first ++ u) h.two.is ∙ append-nil h.first in
    rw (spans, text) h.one

pub word-after : (P : Form) → Within P (P ⌢ word [])
word-after P s o t h = record {
  first_spans = s;
  second_spans = [];
  first = t;
  second = [];
  spans = sym (append-nil s);
  is = sym (append-nil t);
  one = h;
  two = record { none = refl; is = refl };
}

-- one more at the end
pub each-append : {A : Type 0} (F : A → Form) (xs : List A) (y : A)
    → Within (Each F xs ⌢ F y) (Each F (xs ++ y ∷ []))
each-append F [] y s o t h = word-after (F y) s o t (word-joined (F y) s o t h)
each-append F (x ∷ xs) y s o t h =
    joined-lifts (F x) (F x) (Each F xs ⌢ F y) (Each F (xs ++ y ∷ [])) (λ r i u g. g)
    (each-append F xs y) s o t
    (joined-assoc (F x) (Each F xs) (F y) s o t h)

-- ---- parts whose last takes nothing

-- a text of P, and nothing after it
pub joined-only : {A : Type 0} (P : Form) (y x : A) (s : Spans) (o : ℕ) (t : Text)
    → (P ⌢ Only y (word []) x) s o t → (x ≡ y) × P s o t
joined-only P y x s o t h = (
  h.two.same,
  joined-word P s o t
      (joined-over P (Only y (word []) x) (word []) s o t h h.two.is),
)

-- ---- a rule that ends with a value made of its first part

-- a value, after a text
pub only-after : {A : Type 0} (P : Form) (y : A) → Within P (P ⌢ Only y (word []) y)
only-after P y s o t h =
    joined-both P P (word []) (Only y (word []) y) s o t (word-after P s o t h)
    (word-after P s o t h).one
    (record { same = refl; is = (word-after P s o t h).two })

-- a part, and a text after it
pub ends-within : {A B : Type 0} (F : A → Form) (P : Form) (f : A → B) (y : B)
    → Within (Then F (λ z x. P ⌢ Only (f z) (word []) x) y) (Made f (λ z. F z ⌢ P) y)
ends-within F P f y s o t h =
    let end = joined-only P (f h.part) y h.is.second_spans (o + bytes h.is.first) h.is.second
    h.is.two in
    record {
      part = h.part;
      same = end.0;
      is = joined-over (F h.part) (P ⌢ Only (f h.part) (word []) y) P s o t h.is end.1;
    }

pub ends-spelt : {A B : Type 0} (F : A → Form) (P : Form) (f : A → B) (z : A)
    → Within (F z ⌢ P) (Then F (λ z x. P ⌢ Only (f z) (word []) x) (f z))
ends-spelt F P f z s o t h = record {
  part = z;
  is = after-within (F z) P (P ⌢ Only (f z) (word []) (f z)) (only-after P (f z)) s o t h;
}

-- ---- lists with a separator between two neighbours

-- a first value, and others after the separator
pub separated-within : {A : Type 0} (w : Form) (F G H : A → Form) → ((x : A) → Within (F x) (G x))
    → ((x : A) → Within (H x) (w ⌢ G x))
    → (xs : List A) → Within (Then F (λ x. Made (λ ys. x ∷ ys) (Each H)) xs) (Separated w G xs)
separated-within w F G H f g xs s o t h =
    rw h.is.two.same
    (joined-both (F h.part) (G h.part) _ (Each (λ y. w ⌢ G y) h.is.two.part) s o t h.is
    (f h.part h.is.first_spans o h.is.first h.is.one)
    (each-lifts H (λ y. w ⌢ G y) g h.is.two.part h.is.second_spans (o + bytes h.is.first)
    h.is.second h.is.two.is))

pub separated-spelt : {A : Type 0} (w : Form) (F G H : A → Form) → ((x : A) → Within (G x) (F x))
    → ((x : A) → Within (w ⌢ G x) (H x))
    → (xs : List A) → Within (Separated w G xs) (Then F (λ x. Made (λ ys. x ∷ ys) (Each H)) xs)
separated-spelt w F G H f g [] s o t h = elim h [ ]
separated-spelt w F G H f g (x ∷ xs) s o t h = record {
  part = x;
  is = joined-both (G x) (F x) (Each (λ y. w ⌢ G y) xs) (Made (λ ys. x ∷ ys) (Each H) (x ∷ xs)) s o
      t h (f x h.first_spans o h.first h.one)
      (record {
        part = xs;
        same = refl;
        is = each-lifts (λ y. w ⌢ G y) H g xs h.second_spans (o + bytes h.first) h.second h.two;
      });
}
