-- Forms whose texts have no components, and so no spans.
use Rattle.std.proofs.Common.{◌≡◌, ℕ, ◌+◌, List, [], ◌∷◌, Bool, refl, ◌∙◌}
use Rattle.jp_reading.specs.Texts.{Text, Spans, bytes}
use Rattle.jp_reading.specs.Forms.{Form, ◌⌢◌, word, One, Each, Separated}

-- no text of the form has a span
abbrev pub Bare : Form → Type 0
Bare P = (s : Spans) (o : ℕ) (t : Text) → P s o t → s ≡ []

pub bare-word : (w : Text) → Bare (word w)
bare-word w s o t h = h.none

pub bare-one : (ok : ℕ → Bool) (c : ℕ) → Bare (One ok c)
bare-one ok c s o t h = h.none

pub bare-joined : (P Q : Form) → Bare P → Bare Q → Bare (P ⌢ Q)
bare-joined P Q f g s o t h =
    let one = f h.first_spans o h.first h.one in
    let two = g h.second_spans (o + bytes h.first) h.second h.two in
    h.spans ∙ rw (one, two) refl

pub bare-each : {A : Type 0} (F : A → Form) → ((x : A) → Bare (F x)) → (xs : List A)
    → Bare (Each F xs)
bare-each F f [] = bare-word []
bare-each F f (x ∷ xs) = bare-joined (F x) (Each F xs) (f x) (bare-each F f xs)

pub bare-separated : {A : Type 0} (P : Form) (F : A → Form) → Bare P → ((x : A) → Bare (F x))
    → (xs : List A) → Bare (Separated P F xs)
bare-separated P F g f [] s o t h = elim h [ ]
bare-separated P F g f (x ∷ xs) s o t h =
    bare-joined (F x) (Each (λ y. P ⌢ F y) xs) (f x)
    (bare-each (λ y. P ⌢ F y) (λ y. bare-joined P (F y) g (f y)) xs) s o t h
