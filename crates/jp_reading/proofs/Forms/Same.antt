-- Forms that the same texts have: what may stand in place of what, part by part.
use Rattle.std.proofs.Common.{◌≡◌, ℕ, ◌+◌, Bool, true, false, List, [], ◌∷◌, ◌++◌, refl, ap, ◌∙◌}
use Rattle.jp_reading.specs.Texts.{Text, Spans, bytes}
use Rattle.jp_reading.specs.Forms.{Form, ◌⌢◌, word, One, AllPassing, Each, Separated, Component}
use Rattle.jp_reading.specs.Forms.{Never}
use Rattle.jp_reading.proofs.States.Between.{Within, joined-both}
use Rattle.jp_reading.proofs.Forms.Levels.{Only, Then, Made, joined-lifts, component-lifts}
use Rattle.jp_reading.proofs.Forms.Levels.{each-lifts}
use Rattle.jp_reading.proofs.Texts.Words.{words-join, words-apart}
use Rattle.jp_reading.proofs.Forms.Joining as text
use Rattle.jp_reading.proofs.Rules.Form.{Either, left, right, ComponentIf}

-- whatever has one of the forms has the other
pub record Same (P Q : Form) : Type 0 where
  pub to : Within P Q
  pub from : Within Q P

pub same : {P : Form} → Same P P
same = record { to = λ s o t h. h; from = λ s o t h. h }

pub back : {P Q : Form} → Same P Q → Same Q P
back f = record { to = f.from; from = f.to }

infixr 4 ◌⨾◌
pub ◌⨾◌ : {P Q R : Form} → Same P Q → Same Q R → Same P R
f ⨾ g = record {
  to = λ s o t h. g.to s o t (f.to s o t h);
  from = λ s o t h. f.from s o t (g.from s o t h);
}

-- a form for each of two ways
pub ways : {P Q R : Form} → Within P R → Within Q R → Within (Either P Q) R
ways f g s o t (left h) = f s o t h
ways f g s o t (right h) = g s o t h

-- ---- in a part

pub joined : {P P' Q Q' : Form} → Same P P' → Same Q Q' → Same (P ⌢ Q) (P' ⌢ Q')
joined {P} {P'} {Q} {Q'} f g = record {
  to = joined-lifts P P' Q Q' f.to g.to;
  from = joined-lifts P' P Q' Q f.from g.from;
}

pub after : {P Q R : Form} → Same Q R → Same (P ⌢ Q) (P ⌢ R)
after f = joined same f

pub before : {P Q R : Form} → Same P Q → Same (P ⌢ R) (Q ⌢ R)
before f = joined f same

pub either : {P P' Q Q' : Form} → Same P P' → Same Q Q' → Same (Either P Q) (Either P' Q')
either f g = record {
  to = ways (λ s o t h. left (f.to s o t h)) (λ s o t h. right (g.to s o t h));
  from = ways (λ s o t h. left (f.from s o t h)) (λ s o t h. right (g.from s o t h));
}

pub only : {A : Type 0} {x y : A} {P Q : Form} → Same P Q → Same (Only x P y) (Only x Q y)
only f = record {
  to = λ s o t h. record { same = h.same; is = f.to s o t h.is };
  from = λ s o t h. record { same = h.same; is = f.from s o t h.is };
}

pub made : {A B : Type 0} {f : A → B} {F G : A → Form} {y : B} → ((x : A) → Same (F x) (G x))
    → Same (Made f F y) (Made f G y)
made g = record {
  to = λ s o t h. record { part = h.part; same = h.same; is = (g h.part).to s o t h.is };
  from = λ s o t h. record { part = h.part; same = h.same; is = (g h.part).from s o t h.is };
}

pub then : {A B : Type 0} {F G : A → Form} {H K : A → B → Form} {y : B}
    → ((x : A) (z : B) → Same (F x ⌢ H x z) (G x ⌢ K x z)) → Same (Then F H y) (Then G K y)
then {y} g = record {
  to = λ s o t h. record { part = h.part; is = (g h.part y).to s o t h.is };
  from = λ s o t h. record { part = h.part; is = (g h.part y).from s o t h.is };
}

pub component : {P Q : Form} → Same P Q → Same (Component P) (Component Q)
component {P} {Q} f = record { to = component-lifts P Q f.to; from = component-lifts Q P f.from }

pub each : {A : Type 0} {F G : A → Form} → ((x : A) → Same (F x) (G x)) → (xs : List A)
    → Same (Each F xs) (Each G xs)
each {F} {G} f xs = record {
  to = each-lifts F G (λ x. (f x).to) xs;
  from = each-lifts G F (λ x. (f x).from) xs;
}

-- ---- texts joined

pub assoc : {P Q R : Form} → Same ((P ⌢ Q) ⌢ R) (P ⌢ Q ⌢ R)
assoc {P} {Q} {R} = record { to = text.joined-assoc P Q R; from = text.joined-back P Q R }

pub nothing-before : {P : Form} → Same (word [] ⌢ P) P
nothing-before {P} = record { to = text.word-joined P; from = text.nothing-before P }

pub nothing-after : {P : Form} → Same (P ⌢ word []) P
nothing-after {P} = record { to = text.joined-word P; from = text.word-after P }

pub words : (v w : Text) → Same (word v ⌢ word w) (word (v ++ w))
words v w = record { to = words-join v w; from = words-apart v w }

-- ---- ways and values, after a text and before one

pub after-either : {P Q R : Form} → Same (P ⌢ Either Q R) (Either (P ⌢ Q) (P ⌢ R))
after-either {P} {Q} {R} = record { to = λ s o t h. to s o t h h.two; from = from }
  where
    to : (s : Spans) (o : ℕ) (t : Text) (h : (P ⌢ Either Q R) s o t)
        → Either Q R h.second_spans (o + bytes h.first) h.second → Either (P ⌢ Q) (P ⌢ R) s o t
    to s o t h (left k) = left (joined-both P P (Either Q R) Q s o t h h.one k)
    to s o t h (right k) = right (joined-both P P (Either Q R) R s o t h h.one k)

    from : Within (Either (P ⌢ Q) (P ⌢ R)) (P ⌢ Either Q R)
    from s o t (left h) = joined-both P P Q (Either Q R) s o t h h.one (left h.two)
    from s o t (right h) = joined-both P P R (Either Q R) s o t h h.one (right h.two)

pub either-before : {P Q R : Form} → Same (Either P Q ⌢ R) (Either (P ⌢ R) (Q ⌢ R))
either-before {P} {Q} {R} = record { to = λ s o t h. to s o t h h.one; from = from }
  where
    to : (s : Spans) (o : ℕ) (t : Text) (h : (Either P Q ⌢ R) s o t)
        → Either P Q h.first_spans o h.first → Either (P ⌢ R) (Q ⌢ R) s o t
    to s o t h (left k) = left (joined-both (Either P Q) P R R s o t h k h.two)
    to s o t h (right k) = right (joined-both (Either P Q) Q R R s o t h k h.two)

    from : Within (Either (P ⌢ R) (Q ⌢ R)) (Either P Q ⌢ R)
    from s o t (left h) = joined-both P (Either P Q) R R s o t h (left h.one) h.two
    from s o t (right h) = joined-both Q (Either P Q) R R s o t h (right h.one) h.two

pub either-assoc : {P Q R : Form} → Same (Either (Either P Q) R) (Either P (Either Q R))
either-assoc = record {
  to = ways (ways (λ s o t. left) (λ s o t h. right (left h))) (λ s o t h. right (right h));
  from = ways (λ s o t h. left (left h)) (ways (λ s o t h. left (right h)) (λ s o t. right));
}

pub either-flip : {P Q : Form} → Same (Either P Q) (Either Q P)
either-flip = record {
  to = ways (λ s o t. right) (λ s o t. left);
  from = ways (λ s o t. right) (λ s o t. left);
}

-- two ways of two, the other way around
pub either-cross : {P Q R S : Form}
    → Same (Either (Either P Q) (Either R S)) (Either (Either P R) (Either Q S))
either-cross = record {
  to = ways (ways (λ s o t h. left (left h)) (λ s o t h. right (left h)))
      (ways (λ s o t h. left (right h)) (λ s o t h. right (right h)));
  from = ways (ways (λ s o t h. left (left h)) (λ s o t h. right (left h)))
      (ways (λ s o t h. left (right h)) (λ s o t h. right (right h)));
}

pub either-swap : {P Q R : Form} → Same (Either P (Either Q R)) (Either Q (Either P R))
either-swap = record {
  to = ways (λ s o t h. right (left h)) (ways (λ s o t. left) (λ s o t h. right (right h)));
  from = ways (λ s o t h. right (left h)) (ways (λ s o t. left) (λ s o t h. right (right h)));
}

-- a way of a second pair, before the first
pub either-pull : {P Q R S : Form}
    → Same (Either P (Either (Either Q R) S)) (Either Q (Either (Either P R) S))
either-pull = record {
  to = ways (λ s o t h. right (left (left h)))
      (ways (ways (λ s o t. left) (λ s o t h. right (left (right h))))
      (λ s o t h. right (right h)));
  from = ways (λ s o t h. right (left (left h)))
      (ways (ways (λ s o t. left) (λ s o t h. right (left (right h))))
      (λ s o t h. right (right h)));
}

pub or-never : {P : Form} → Same P (Either P Never)
or-never = record { to = λ s o t. left; from = ways (λ s o t h. h) (λ s o t h. absurd h) }

-- one of two ways, where the same text comes after both
pub in-first : {P P' Q R : Form} → Same (P ⌢ R) (P' ⌢ R) → Same (Either P Q ⌢ R) (Either P' Q ⌢ R)
in-first f = either-before ⨾ either f same ⨾ back either-before

pub in-second : {P Q Q' R : Form} → Same (Q ⌢ R) (Q' ⌢ R) → Same (Either P Q ⌢ R) (Either P Q' ⌢ R)
in-second f = either-before ⨾ either same f ⨾ back either-before

pub after-only : {A : Type 0} {x y : A} {P Q : Form} → Same (P ⌢ Only x Q y) (Only x (P ⌢ Q) y)
after-only {x} {y} {P} {Q} = record {
  to = λ s o t h. record {
    same = h.two.same;
    is = joined-both P P (Only x Q y) Q s o t h h.one h.two.is;
  };
  from = λ s o t h. joined-both P P Q (Only x Q y) s o t h.is h.is.one
      (record { same = h.same; is = h.is.two });
}

pub only-before : {A : Type 0} {x y : A} {P Q : Form} → Same (Only x P y ⌢ Q) (Only x (P ⌢ Q) y)
only-before {x} {y} {P} {Q} = record {
  to = λ s o t h. record {
    same = h.one.same;
    is = joined-both (Only x P y) P Q Q s o t h h.one.is h.two;
  };
  from = λ s o t h. joined-both P (Only x P y) Q Q s o t h.is
      (record { same = h.same; is = h.is.one }) h.is.two;
}

pub after-made : {A B : Type 0} {P : Form} {f : A → B} {F : A → Form} {y : B}
    → Same (P ⌢ Made f F y) (Made f (λ x. P ⌢ F x) y)
after-made {P} {f} {F} {y} = record {
  to = λ s o t h. record {
    part = h.two.part;
    same = h.two.same;
    is = joined-both P P (Made f F y) (F h.two.part) s o t h h.one h.two.is;
  };
  from = λ s o t h. joined-both P P (F h.part) (Made f F y) s o t h.is h.is.one
      (record { part = h.part; same = h.same; is = h.is.two });
}

pub made-before : {A B : Type 0} {P : Form} {f : A → B} {F : A → Form} {y : B}
    → Same (Made f F y ⌢ P) (Made f (λ x. F x ⌢ P) y)
made-before {P} {f} {F} {y} = record {
  to = λ s o t h. record {
    part = h.one.part;
    same = h.one.same;
    is = joined-both (Made f F y) (F h.one.part) P P s o t h h.one.is h.two;
  };
  from = λ s o t h. joined-both (F h.part) (Made f F y) P P s o t h.is
      (record { part = h.part; same = h.same; is = h.is.one }) h.is.two;
}

-- a value, after a text
pub after-value : {A : Type 0} {x y : A} {P : Form} → Same (P ⌢ Only x (word []) y) (Only x P y)
after-value = after-only ⨾ only nothing-after

-- ---- values made of parts

pub made-made : {A B C : Type 0} {f : B → C} {g : A → B} {F : A → Form} {y : C}
    → Same (Made f (Made g F) y) (Made (λ x. f (g x)) F y)
made-made {f} {g} {F} {y} = record {
  to = λ s o t h. record { part = h.is.part; same = h.same ∙ ap f h.is.same; is = h.is.is };
  from = λ s o t h. record {
    part = g h.part;
    same = h.same;
    is = record { part = h.part; same = refl; is = h.is };
  };
}

pub made-only : {A B : Type 0} {f : A → B} {x : A} {P : Form} {y : B}
    → Same (Made f (Only x P) y) (Only (f x) P y)
made-only {f} {x} = record {
  to = λ s o t h. record { same = h.same ∙ ap f h.is.same; is = h.is.is };
  from = λ s o t h. record { part = x; same = h.same; is = record { same = refl; is = h.is } };
}

pub made-either : {A B : Type 0} {f : A → B} {F G : A → Form} {y : B}
    → Same (Made f (λ x. Either (F x) (G x)) y) (Either (Made f F y) (Made f G y))
made-either = record {
  to = λ s o t h. elim h.is [
    | left g ↦ left (record { part = h.part; same = h.same; is = g })
    | right g ↦ right (record { part = h.part; same = h.same; is = g })
  ];
  from = ways (λ s o t h. record { part = h.part; same = h.same; is = left h.is })
      (λ s o t h. record { part = h.part; same = h.same; is = right h.is });
}

pub then-only : {A B : Type 0} {F P : A → Form} {f : A → B} {y : B}
    → Same (Then F (λ x z. Only (f x) (P x) z) y) (Made f (λ x. F x ⌢ P x) y)
then-only {F} {P} {f} {y} = record {
  to = λ s o t h. (let w = after-only.to s o t h.is in
      record { part = h.part; same = w.same; is = w.is });
  from = λ s o t h. record {
    part = h.part;
    is = after-only.from s o t (record { same = h.same; is = h.is });
  };
}

pub then-value : {A B : Type 0} {F : A → Form} {f : A → B} {y : B}
    → Same (Then F (λ x z. Only (f x) (word []) z) y) (Made f F y)
then-value = then-only ⨾ made (λ x. nothing-after)

pub then-made : {A B C : Type 0} {F : A → Form} {f : A → C → B} {G : A → C → Form} {y : B}
    → Same (Then F (λ x z. Made (f x) (G x) z) y)
    (Made (λ (p : A × C). f p.0 p.1) (λ p. F p.0 ⌢ G p.0 p.1) y)
then-made {F} {f} {G} {y} = record {
  to = λ s o t h. (let w = after-made.to s o t h.is in
      record { part = (h.part, w.part); same = w.same; is = w.is });
  from = λ s o t h. record {
    part = h.part.0;
    is = after-made.from s o t (record { part = h.part.1; same = h.same; is = h.is });
  };
}

-- the values themselves
pub made-same : {A : Type 0} {F : A → Form} {y : A} → Same (Made (λ x. x) F y) (F y)
made-same {F} {y} = record {
  to = λ s o t h. rw h.same h.is;
  from = λ s o t h. record { part = y; same = refl; is = h };
}

-- a value made whatever stands before it
pub then-made_out : {A B C : Type 0} {F : A → Form} {f : B → C} {G : A → B → Form} {y : C}
    → Same (Then F (λ x. Made f (G x)) y) (Made f (Then F G) y)
then-made_out {F} {f} {G} {y} = record {
  to = λ s o t h. (let w = after-made.to s o t h.is in
      record { part = w.part; same = w.same; is = record { part = h.part; is = w.is } });
  from = λ s o t h. record {
    part = h.is.part;
    is = after-made.from s o t (record { part = h.part; same = h.same; is = h.is.is });
  };
}

pub then-of_made : {A B C : Type 0} {f : A → B} {F : A → Form} {H : B → C → Form} {y : C}
    → Same (Then (Made f F) H y) (Then F (λ x. H (f x)) y)
then-of_made {f} {F} {H} {y} = record {
  to = λ s o t h. (let w = made-before.to s o t h.is in
      record { part = w.part; is = rw (← w.same) w.is });
  from = λ s o t h. record {
    part = f h.part;
    is = joined-both (F h.part) (Made f F (f h.part)) (H (f h.part) y) (H (f h.part) y) s o t h.is
        (record { part = h.part; same = refl; is = h.is.one }) h.is.two;
  };
}

pub then-either : {A B : Type 0} {F : A → Form} {H K : A → B → Form} {y : B}
    → Same (Then F (λ x z. Either (H x z) (K x z)) y) (Either (Then F H y) (Then F K y))
then-either {A} {F} {H} {K} {y} = record {
  to = λ s o t h. to s o t h.part (after-either.to s o t h.is);
  from = from;
}
  where
    to : (s : Spans) (o : ℕ) (t : Text) (x : A) → Either (F x ⌢ H x y) (F x ⌢ K x y) s o t
        → Either (Then F H y) (Then F K y) s o t
    to s o t x (left k) = left (record { part = x; is = k })
    to s o t x (right k) = right (record { part = x; is = k })

    from : Within (Either (Then F H y) (Then F K y)) (Then F (λ x z. Either (H x z) (K x z)) y)
    from s o t (left h) = record { part = h.part; is = after-either.from s o t (left h.is) }
    from s o t (right h) = record { part = h.part; is = after-either.from s o t (right h.is) }

pub either-then : {A B : Type 0} {F G : A → Form} {H : A → B → Form} {y : B}
    → Same (Then (λ x. Either (F x) (G x)) H y) (Either (Then F H y) (Then G H y))
either-then {A} {F} {G} {H} {y} = record {
  to = λ s o t h. to s o t h.part (either-before.to s o t h.is);
  from = ways (λ s o t h. record { part = h.part; is = either-before.from s o t (left h.is) })
      (λ s o t h. record { part = h.part; is = either-before.from s o t (right h.is) });
}
  where
    to : (s : Spans) (o : ℕ) (t : Text) (x : A) → Either (F x ⌢ H x y) (G x ⌢ H x y) s o t
        → Either (Then F H y) (Then G H y) s o t
    to s o t x (left k) = left (record { part = x; is = k })
    to s o t x (right k) = right (record { part = x; is = k })

-- a part before a text
pub then-before : {A B : Type 0} {P : Form} {F : A → Form} {H : A → B → Form} {y : B}
    → Same (Then F H y ⌢ P) (Then F (λ x z. H x z ⌢ P) y)
then-before {P} {F} {H} {y} = record {
  to = λ s o t h. record {
    part = h.one.part;
    is = assoc.to s o t
        (joined-both (Then F H y) (F h.one.part ⌢ H h.one.part y) P P s o t h h.one.is h.two);
  };
  from = λ s o t h. (let w = assoc.from s o t h.is in
      joined-both (F h.part ⌢ H h.part y) (Then F H y) P P s o t w
      (record { part = h.part; is = w.one }) w.two);
}

-- a part after a text
pub after-then : {A B : Type 0} {P : Form} {F : A → Form} {H : A → B → Form} {y : B}
    → Same (P ⌢ Then F H y) (Then (λ x. P ⌢ F x) H y)
after-then {P} {F} {H} {y} = record {
  to = λ s o t h. record {
    part = h.two.part;
    is =
        assoc.from s o t
        (joined-both P P (Then F H y) (F h.two.part ⌢ H h.two.part y) s o t h h.one h.two.is);
  };
  from = λ s o t h. (let w = assoc.to s o t h.is in
      joined-both P P (F h.part ⌢ H h.part y) (Then F H y) s o t w w.one (record {
        part = h.part;
        is = w.two;
      }));
}

-- a part that has one before it
pub then-then : {A B C : Type 0} {F : A → Form} {G : A → B → Form} {H : B → C → Form} {y : C}
    → Same (Then F (λ x. Then (G x) H) y) (Then (Then F G) H y)
then-then {F} {G} {H} {y} = record {
  to = λ s o t h. (let w = after-then.to s o t h.is in record {
    part = w.part;
    is = joined-both (F h.part ⌢ G h.part w.part) (Then F G w.part) (H w.part y)
        (H w.part y) s o t w.is
        (record { part = h.part; is = w.is.one }) w.is.two;
  });
  from = λ s o t h. record {
    part = h.is.one.part;
    is = after-then.from s o t (record {
      part = h.part;
      is = joined-both (Then F G h.part) (F h.is.one.part ⌢ G h.is.one.part h.part) (H h.part y)
          (H h.part y) s o t h.is
          h.is.one.is h.is.two;
    });
  };
}

-- ---- components

pub component-either : {P Q : Form} → Same (Component (Either P Q)) (Either (Component P) (Component Q))
component-either = record {
  to = λ s o t h. elim h.is [
    | left g ↦ left (record { inside = h.inside; spans = h.spans; is = g })
    | right g ↦ right (record { inside = h.inside; spans = h.spans; is = g })
  ];
  from = ways (λ s o t h. record { inside = h.inside; spans = h.spans; is = left h.is })
      (λ s o t h. record { inside = h.inside; spans = h.spans; is = right h.is });
}

pub component-made : {A B : Type 0} {f : A → B} {F : A → Form} {y : B}
    → Same (Component (Made f F y)) (Made f (λ x. Component (F x)) y)
component-made = record {
  to = λ s o t h. record {
    part = h.is.part;
    same = h.is.same;
    is = record { inside = h.inside; spans = h.spans; is = h.is.is };
  };
  from = λ s o t h. record {
    inside = h.is.inside;
    spans = h.is.spans;
    is = record { part = h.part; same = h.same; is = h.is.is };
  };
}

pub component_if : {P Q : Form} (b : Bool) → Same P Q → Same (ComponentIf b P) (ComponentIf b Q)
component_if true f = component f
component_if false f = f

-- ---- for some value

-- a text of the form of some value
pub record Some_of {A : Type 0} (F : A → Form) (s : Spans) (o : ℕ) (t : Text) : Type 0 where
  pub part : A
  pub is : F part s o t

pub some : {A : Type 0} {F G : A → Form} → ((x : A) → Same (F x) (G x))
    → Same (Some_of F) (Some_of G)
some f = record {
  to = λ s o t h. record { part = h.part; is = (f h.part).to s o t h.is };
  from = λ s o t h. record { part = h.part; is = (f h.part).from s o t h.is };
}

pub some-either : {A : Type 0} {F G : A → Form}
    → Same (Some_of (λ x. Either (F x) (G x))) (Either (Some_of F) (Some_of G))
some-either = record {
  to = λ s o t h. elim h.is [
    | left g ↦ left (record { part = h.part; is = g })
    | right g ↦ right (record { part = h.part; is = g })
  ];
  from = ways (λ s o t h. record { part = h.part; is = left h.is })
      (λ s o t h. record { part = h.part; is = right h.is });
}

pub some-only : {A B : Type 0} {f : A → B} {F : A → Form} {y : B}
    → Same (Some_of (λ x. Only (f x) (F x) y)) (Made f F y)
some-only = record {
  to = λ s o t h. record { part = h.part; same = h.is.same; is = h.is.is };
  from = λ s o t h. record { part = h.part; is = record { same = h.same; is = h.is } };
}

pub some-made : {A B C : Type 0} {f : B → C} {G : A → B → Form} {y : C}
    → Same (Some_of (λ x. Made f (G x) y)) (Made f (λ z. Some_of (λ x. G x z)) y)
some-made = record {
  to = λ s o t h. record {
    part = h.is.part;
    same = h.is.same;
    is = record { part = h.part; is = h.is.is };
  };
  from = λ s o t h. record {
    part = h.is.part;
    is = record { part = h.part; same = h.same; is = h.is.is };
  };
}

pub then-some : {A B : Type 0} {F : A → Form} {H : A → B → Form} {K : A → Form} {y : B}
    → ((x : A) → Same (F x ⌢ H x y) (K x)) → Same (Then F H y) (Some_of K)
then-some f = record {
  to = λ s o t h. record { part = h.part; is = (f h.part).to s o t h.is };
  from = λ s o t h. record { part = h.part; is = (f h.part).from s o t h.is };
}

-- ---- under a condition

-- a text of the form, where that holds
pub record Given (E : Type 0) (P : Form) (s : Spans) (o : ℕ) (t : Text) : Type 0 where
  pub holds : E
  pub is : P s o t

pub given-before : {E : Type 0} {P Q : Form} → Same (Given E P ⌢ Q) (Given E (P ⌢ Q))
given-before {E} {P} {Q} = record {
  to = λ s o t h. record {
    holds = h.one.holds;
    is = joined-both (Given E P) P Q Q s o t h h.one.is h.two;
  };
  from = λ s o t h. joined-both P (Given E P) Q Q s o t h.is
      (record { holds = h.holds; is = h.is.one }) h.is.two;
}

pub after-given : {E : Type 0} {P Q : Form} → Same (P ⌢ Given E Q) (Given E (P ⌢ Q))
after-given {E} {P} {Q} = record {
  to = λ s o t h. record {
    holds = h.two.holds;
    is = joined-both P P (Given E Q) Q s o t h h.one h.two.is;
  };
  from = λ s o t h. joined-both P P Q (Given E Q) s o t h.is h.is.one
      (record { holds = h.holds; is = h.is.two });
}

pub given : {E : Type 0} {P Q : Form} → Same P Q → Same (Given E P) (Given E Q)
given f = record {
  to = λ s o t h. record { holds = h.holds; is = f.to s o t h.is };
  from = λ s o t h. record { holds = h.holds; is = f.from s o t h.is };
}

-- ---- characters that pass, as a word

pub one-word : {ok : ℕ → Bool} {c : ℕ} → Same (One ok c) (Given (ok c ≡ true) (word (c ∷ [])))
one-word = record {
  to = λ s o t h. record { holds = h.passes; is = record { none = h.none; is = h.is } };
  from = λ s o t h. record { none = h.is.none; is = h.is.is; passes = h.holds };
}

-- a first character, and others
pub word-on : {ok : ℕ → Bool} {c : ℕ} {E : Type 0} {w : Text} {P Q : Form}
    → Same P (Given E (word w ⌢ Q))
    → Same (One ok c ⌢ P) (Given ((ok c ≡ true) × E) (word (c ∷ w) ⌢ Q))
word-on {c} {w} f =
    joined one-word f
    ⨾ given-before
    ⨾ given (after-given ⨾ given (back assoc ⨾ before (words (c ∷ []) w)))
    ⨾ record {
      to = λ s o t h. record { holds = (h.holds, h.is.holds); is = h.is.is };
      from = λ s o t h. record { holds = h.holds.0; is = record { holds = h.holds.1; is = h.is } };
    }

pub passing-word : (ok : ℕ → Bool) (w : Text) (Q : Form)
    → Same (Each (One ok) w ⌢ Q) (Given (AllPassing ok w) (word w ⌢ Q))
passing-word ok [] Q = record {
  to = λ s o t h. record { holds = tt; is = h };
  from = λ s o t h. h.is;
}
passing-word ok (c ∷ w) Q = assoc ⨾ word-on (passing-word ok w Q)

-- ---- lists with a separator between two neighbours

-- a first value, and others after the separator
pub separated : {A : Type 0} {w : Form} {F G H : A → Form} → ((x : A) → Same (F x) (G x))
    → ((x : A) → Same (H x) (w ⌢ G x))
    → (xs : List A) → Same (Then F (λ x. Made (λ ys. x ∷ ys) (Each H)) xs) (Separated w G xs)
separated {w} {F} {G} {H} f g xs = record {
  to = text.separated-within w F G H (λ x. (f x).to) (λ x. (g x).to) xs;
  from = text.separated-spelt w F G H (λ x. (f x).from) (λ x. (g x).from) xs;
}
