-- Texts that have a form wherever they stand.
use Rattle.std.proofs.Common.{◌≡◌, ℕ, ◌+◌, List, [], ◌∷◌, ◌++◌, map, Some, refl, sym, subst}
use Rattle.std.proofs.Common.{append-nil}
use Rattle.std.specs.List.{AllByRecursion, flat_map}
use Rattle.jp_reading.specs.Forms.{Blank, Each, Form, Component, Omitted, Separated, ◌⌢◌}
use Rattle.jp_reading.specs.Texts.{Spans, Text, bytes}
use Rattle.jp_canon.specs.Canon.{separated}
pub use Rattle.jp_reading.proofs.Forms.HasForm.{HasForm as Has, has-word, has-one, both}
pub use Rattle.jp_reading.proofs.Forms.HasForm.{has-as, has-same, has-each_passing}

pub has-blank : Has Blank []
has-blank = record { at = λ o. ([], record { none = refl; blank = tt }) }

pub has-omitted : Has Omitted []
has-omitted = record { at = λ o. (_, record { spans = refl; is = refl }) }

pub has-component : {P : Form} {t : Text} → Has P t → Has (Component P) t
has-component {t} h = record {
  at =
      λ o.
      let a = h.at o in (
        Some (record { start = o; end = o + bytes t }) ∷ a.0,
        record { inside = a.0; spans = refl; is = a.1 },
      );
}

-- what has the form of a tree has that of an equal tree
pub has-equal_tree : {X : Type 0} (P : X → Form) (text : X → Text) {x y : X} → x ≡ y
    → Has (P y) (text y) → Has (P x) (text x)
has-equal_tree P text is h = subst (λ z. Has (P z) (text z)) (sym is) h

-- no blanks before a text, and none after it
pub after-blank : {P : Form} {t : Text} → Has P t → Has (Blank ⌢ P) t
after-blank h = both has-blank h

pub before-blank : {P : Form} {t : Text} → Has P t → Has (P ⌢ Blank) t
before-blank {t} h = has-same (append-nil t) (both h has-blank)

-- ---- one text after another

-- what each part's form gives
pub each-gives : {A : Type 0} (P : A → Form) (R : A → Type 0)
    → ((x : A) (s : Spans) (o : ℕ) (t : Text) → P x s o t → R x)
    → (xs : List A) (s : Spans) (o : ℕ) (t : Text) → Each P xs s o t → AllByRecursion R xs
each-gives P R f [] s o t h = tt
each-gives P R f (x ∷ xs) s o t h = (
  f x h.first_spans o h.first h.one,
  each-gives P R f xs h.second_spans
      (o + bytes h.first) h.second h.two,
)

pub has-each : {A : Type 0} (Q : A → Form) (f : A → Text) (xs : List A)
    → AllByRecursion (λ x. Has (Q x) (f x)) xs → Has (Each Q xs) (flat_map f xs)
has-each Q f [] all = has-word []
has-each Q f (x ∷ xs) all = both all.0 (has-each Q f xs all.1)

-- ---- with a separator between two neighbours

pub separated-gives : {A : Type 0} (w : Form) (P : A → Form) (R : A → Type 0)
    → ((x : A) (s : Spans) (o : ℕ) (t : Text) → P x s o t → R x)
    → (xs : List A) (s : Spans) (o : ℕ) (t : Text) → Separated w P xs s o t → AllByRecursion R xs
separated-gives w P R f [] s o t h = elim h [ ]
separated-gives w P R f (x ∷ xs) s o t h = (
  f x h.first_spans o h.first h.one,
  each-gives (λ y. w ⌢ P y) R
      (λ y r p u k. f y k.second_spans (p + bytes k.first) k.second k.two) xs h.second_spans
      (o + bytes h.first) h.second h.two,
)

has-others : {A : Type 0} (w : Form) (separator : Text) (Q : A → Form) (f : A → Text) → Has w separator
    → (xs : List A) → AllByRecursion (λ x. Has (Q x) (f x)) xs
    → Has (Each (λ y. w ⌢ Q y) xs) (flat_map (λ u. separator ++ u) (map f xs))
has-others w separator Q f between [] all = has-word []
has-others w separator Q f between (x ∷ xs) all = both (both between all.0)
    (has-others w separator Q f between xs all.1)

pub has-separated : {A : Type 0} (w : Form) (separator : Text) (Q : A → Form) (f : A → Text)
    → Has w separator → (x : A) (xs : List A)
    → AllByRecursion (λ y. Has (Q y) (f y)) (x ∷ xs)
    → Has (Separated w Q (x ∷ xs)) (separated separator (map f (x ∷ xs)))
has-separated w separator Q f between x xs all = both all.0 (has-others w separator Q f between xs all.1)

-- one part alone
pub has-alone : {A : Type 0} (w : Form) (Q : A → Form) (x : A) (t : Text) → Has (Q x) t
    → Has (Separated w Q (x ∷ [])) t
has-alone w Q x t h = has-same (append-nil t) (both h (has-word []))
