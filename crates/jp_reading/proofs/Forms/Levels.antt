-- Forms that say what value a text has; that parts of wider forms make a wider form; and texts of
-- each, joined.
use Rattle.std.proofs.Common.{◌≡◌, ℕ, ◌+◌, List, [], ◌∷◌, ◌++◌, Some, refl}
use Rattle.jp_reading.specs.Texts.{Text, Spans, bytes}
use Rattle.jp_reading.specs.Forms.{Form, ◌⌢◌, word, Blank, Each, Separated, Component}
use Rattle.jp_reading.proofs.States.Between.{Has, Within, joined-both}

-- the value y alone, with texts of the form
pub record Only {A : Type 0} (y : A) (P : Form) (x : A) (s : Spans) (o : ℕ)
    (t : Text) : Type 0 where
  pub same : x ≡ y
  pub is : P s o t

-- a text of some part, and after it one that goes on from that part
pub record Then {A B : Type 0} (F : A → Form) (H : A → B → Form) (y : B) (s : Spans) (o : ℕ)
    (t : Text) : Type 0 where
  pub part : A
  pub is : (F part ⌢ H part y) s o t

-- the values made by f out of others
pub record Made {A B : Type 0} (f : A → B) (F : A → Form) (y : B) (s : Spans) (o : ℕ)
    (t : Text) : Type 0 where
  pub part : A
  pub same : y ≡ f part
  pub is : F part s o t

-- both parts one level deeper
pub joined-lifts : (P P' Q Q' : Form) → Within P P' → Within Q Q' → Within (P ⌢ Q) (P' ⌢ Q')
joined-lifts P P' Q Q' f g s o t h =
    joined-both P P' Q Q' s o t h (f h.first_spans o h.first h.one)
    (g h.second_spans (o + bytes h.first) h.second h.two)

-- a text of each, joined
pub joined-has : (P Q : Form) → Has P → Has Q → Has (P ⌢ Q)
joined-has P Q f g o =
    let one = f o in
    let two = g (o + bytes one.1) in (
      one.0 ++ two.0,
      one.1 ++ two.1,
      record {
        first_spans = one.0;
        second_spans = two.0;
        first = one.1;
        second = two.1;
        spans = refl;
        is = refl;
        one = one.2;
        two = two.2;
      },
    )

pub word-has : (w : Text) → Has (word w)
word-has w o = ([], w, record { none = refl; is = refl })

pub blank-has : Has Blank
blank-has o = ([], [], record { none = refl; blank = tt })

pub then-lifts : {A B : Type 0} (F F' : A → Form) (H H' : A → B → Form)
    → ((x : A) → Within (F x) (F' x))
    → ((x : A) (y : B) → Within (H x y) (H' x y)) → (y : B) → Within (Then F H y) (Then F' H' y)
then-lifts F F' H H' f g y s o t h = record {
  part = h.part;
  is = joined-lifts (F h.part) (F' h.part) (H h.part y) (H' h.part y) (f h.part)
      (g h.part y) s o t h.is;
}

pub then-has : {A B : Type 0} (F : A → Form) (H : A → B → Form) (x : A) (y : B) → Has (F x)
    → Has (H x y) → Has (Then F H y)
then-has F H x y f g o =
    let both = joined-has (F x) (H x y) f g o in
    (both.0, both.1, record { part = x; is = both.2 })

pub component-lifts : (P Q : Form) → Within P Q → Within (Component P) (Component Q)
component-lifts P Q f s o t h = record { inside = h.inside; spans = h.spans; is = f h.inside o t h.is }

pub component-has : (P : Form) → Has P → Has (Component P)
component-has P f o =
    let text = f o in (
      Some (record { start = o; end = o + bytes text.1 }) ∷ text.0,
      text.1,
      record {
        inside =
            text.0;
        spans = refl;
        is = text.2;
      },
    )

pub each-lifts : {A : Type 0} (F G : A → Form) → ((x : A) → Within (F x) (G x)) → (xs : List A)
    → Within (Each F xs) (Each G xs)
each-lifts F G f [] s o t h = h
each-lifts F G f (x ∷ xs) s o t h =
    joined-lifts (F x) (G x) (Each F xs) (Each G xs) (f x) (each-lifts F G f xs) s o t h

pub separated-lifts : {A : Type 0} (w : Form) (F G : A → Form) → ((x : A) → Within (F x) (G x))
    → (xs : List A)
    → Within (Separated w F xs) (Separated w G xs)
separated-lifts w F G f [] s o t h = h
separated-lifts w F G f (x ∷ xs) s o t h =
    joined-lifts (F x) (G x) (Each (λ y. w ⌢ F y) xs) (Each (λ y. w ⌢ G y) xs) (f x)
    (each-lifts (λ y. w ⌢ F y) (λ y. w ⌢ G y)
    (λ y. joined-lifts w w (F y) (G y) (λ r i u g. g) (f y)) xs) s o t h
