-- Forms whose texts have components, with their spans.
use Rattle.std.proofs.Common.{◌≡◌, ℕ, ◌+◌, ◌<◌, ◌≤◌, List, [], ◌∷◌, ◌++◌, Some, refl, sym, ap, ◌∙◌}
use Rattle.std.proofs.Common.{subst, arith, append-nil, append_assoc}
use Rattle.jp_reading.specs.Texts.{Text, Spans, bytes}
use Rattle.jp_reading.specs.Forms.{Form, ◌⌢◌, Each, Blank, Separated, Component}
use Rattle.jp_reading.proofs.Forms.Bare.{Bare, bare-word}
use Rattle.jp_reading.proofs.States.Between.{bytes-append}
use Rattle.jp_query.specs.Components.{QueryComponent}
use Rattle.jp_reading.specs.declared.span.Span.{Span}
use Rattle.jp_query.specs.ComponentSpans.{SpellsComponent, IsSpanOf, EachSpanned, AllComeAfter}
use Rattle.jp_query.specs.ComponentSpans.{Rise}
use Rattle.jp_query.proofs.Spans.RisingSpans.{StartWithin, within-wider, within-append}
use Rattle.jp_query.proofs.Spans.RisingSpans.{comes_after-within, after-sooner, after-append}
use Rattle.jp_query.proofs.Spans.RisingSpans.{rise-append}
use Rattle.jp_query.proofs.Spans.Written.{Written}

pub each_spanned-append : (text : Text) (xs ys : List QueryComponent) (s t : Spans)
    → EachSpanned text xs s
    → EachSpanned text ys t → EachSpanned text (xs ++ ys) (s ++ t)
each_spanned-append text [] ys [] t h g = g
each_spanned-append text [] ys (one ∷ s) t h g = absurd h
each_spanned-append text (x ∷ xs) ys [] t h g = absurd h
each_spanned-append text (x ∷ xs) ys (one ∷ s) t h g =
    (h.0, each_spanned-append text xs ys s t h.1 g)

-- ---- forms that have components

-- the text t stands in the whole text from byte o on
pub record Part (text : Text) (o : ℕ) (t : Text) : Type 0 where
  pub before : Text
  pub after : Text
  pub is : text ≡ before ++ t ++ after
  pub at : o ≡ bytes before

-- the components have these spans, which rise within the text t from byte o on
pub record Placed (text : Text) (components : List QueryComponent) (s : Spans) (o : ℕ) (t : Text)
    : Type 0 where
  pub each : EachSpanned text components s
  pub rise : Rise s
  pub within : StartWithin o (o + bytes t) s

-- wherever a text of the form is, it has these components
abbrev pub HasComponents : Form → List QueryComponent → Type 0
HasComponents P components =
    (text : Text) (s : Spans) (o : ℕ) (t : Text) → P s o t → Part text o t → Placed text components s o t

pub part-first : (text : Text) (o : ℕ) (t u : Text) → Part text o (t ++ u) → Part text o t
part-first text o t u p = record {
  before = p.before;
  after = u ++ p.after;
  is = p.is ∙ ap (λ v. v ++ p.after) (sym (append_assoc p.before t u))
      ∙ append_assoc (p.before ++ t) u p.after;
  at = p.at;
}

pub part-second : (text : Text) (o : ℕ) (t u : Text) → Part text o (t ++ u)
    → Part text (o + bytes t) u
part-second text o t u p = record {
  before = p.before ++ t;
  after = p.after;
  is = p.is ∙ ap (λ v. v ++ p.after) (sym (append_assoc p.before t u));
  at = ap (λ n. n + bytes t) p.at ∙ sym (bytes-append p.before t);
}

pub placed-append : (text : Text) (xs ys : List QueryComponent) (s r : Spans) (o : ℕ) (t u : Text)
    → Placed text xs s o t → Placed text ys r (o + bytes t) u
    → Placed text (xs ++ ys) (s ++ r) o (t ++ u)
placed-append text xs ys s r o t u h g =
    let middle = o + bytes t in
    let size = bytes-append t u in
    let end = o + bytes (t ++ u) in
    let one : middle ≤ end = omega (arith, size) in
    let two : middle + bytes u ≤ end = omega (arith, size) in
    let low : o ≤ o = omega arith in
    let start : o ≤ middle = omega arith in
    record {
      each = each_spanned-append text xs ys s r h.each g.each;
      rise = rise-append o middle (middle + bytes u) s r h.within g.within h.rise g.rise;
      within = within-append o end s r (within-wider o middle o end low one s h.within)
          (within-wider middle (middle + bytes u) o end start two r g.within);
    }

pub bare-has_components : {P : Form} → Bare P → HasComponents P []
bare-has_components bare text s o t h p =
    rw (bare s o t h) (record { each = tt; rise = tt; within = tt })

pub joined-has_components : {P Q : Form} {xs ys : List QueryComponent} → HasComponents P xs → HasComponents Q ys
    → HasComponents (P ⌢ Q) (xs ++ ys)
joined-has_components {xs} {ys} f g text s o t h p =
    let whole : Part text o (h.first ++ h.second) = subst (Part text o) h.is p in
    rw (h.spans, h.is) (placed-append text xs ys h.first_spans h.second_spans o h.first h.second
    (f text h.first_spans o h.first h.one (part-first text o h.first h.second whole))
    (g text h.second_spans (o + bytes h.first) h.second h.two
    (part-second text o h.first h.second whole)))

-- with a form that has no components before or after it
pub after-bare : {P Q : Form} {xs : List QueryComponent} → Bare P → HasComponents Q xs → HasComponents (P ⌢ Q) xs
after-bare bare f = joined-has_components (bare-has_components bare) f

pub before-bare : {P Q : Form} {xs : List QueryComponent} → HasComponents P xs → Bare Q → HasComponents (P ⌢ Q) xs
before-bare {P} {Q} {xs} f bare =
    subst (HasComponents (P ⌢ Q)) (append-nil xs) (joined-has_components f (bare-has_components bare))

pub blank-bare : Bare Blank
blank-bare s o t h = h.none

-- the parts of a list, whose components come one after another
module _ {A : Type 0} (one : A → List QueryComponent) (all : List A → List QueryComponent)
    (none : all [] ≡ []) (cons : (x : A) (xs : List A) → all (x ∷ xs) ≡ one x ++ all xs) where
  pub each-has_components : {P : A → Form} → ((x : A) → HasComponents (P x) (one x)) → (xs : List A)
      → HasComponents (Each P xs) (all xs)
  each-has_components f [] = rw none (bare-has_components (bare-word []))
  each-has_components f (x ∷ xs) = rw (cons x xs) (joined-has_components (f x) (each-has_components f xs))

  pub separated-has_components : {w : Form} {P : A → Form} → Bare w → ((x : A) → HasComponents (P x) (one x))
      → (xs : List A) → HasComponents (Separated w P xs) (all xs)
  separated-has_components bare f [] = λ text s o t h p. absurd h
  separated-has_components bare f (x ∷ xs) =
      rw (cons x xs) (joined-has_components (f x) (each-has_components (λ y. after-bare bare (f y)) xs))

-- ---- components

pub own-span : (text : Text) (x : QueryComponent) (o : ℕ) (t : Text) → Part text o t → SpellsComponent x o t
    → IsSpanOf text x (record { start = o; end = o + bytes t })
own-span text x o t p h = record {
  before = p.before;
  own = t;
  after = p.after;
  parts = p.is;
  start = p.at;
  end = refl;
  spells = h;
}

-- a component and those inside it, which come after it
pub component-over : (text : Text) (x : QueryComponent) (xs : List QueryComponent) (inside : Spans) (o : ℕ)
    (t : Text) → Part text o t → SpellsComponent x o t → 0 < bytes t → EachSpanned text xs inside
    → Rise inside → AllComeAfter (record { start = o; end = o + bytes t }) inside
    → StartWithin o (o + bytes t) inside
    → Placed text (x ∷ xs) (Some (record { start = o; end = o + bytes t }) ∷ inside) o t
component-over text x xs inside o t p h written each rise after within = record {
  each = (own-span text x o t p h, each);
  rise = (after, rise);
  within = (omega arith, omega (arith, written), omega arith, within);
}

-- and those inside it, which start after it
pub component-placed : (text : Text) (x : QueryComponent) (xs : List QueryComponent) (inside : Spans) (o : ℕ)
    (t : Text) → Part text o t → SpellsComponent x o t → 0 < bytes t
    → EachSpanned text xs inside → Rise inside → StartWithin (o + 1) (o + bytes t) inside
    → Placed text (x ∷ xs) (Some (record { start = o; end = o + bytes t }) ∷ inside) o t
component-placed text x xs inside o t p h written each rise within =
    let own : Span = record { start = o; end = o + bytes t } in
    let low : o ≤ o + 1 = omega arith in
    let high : o + bytes t ≤ o + bytes t = omega arith in
    component-over text x xs inside o t p h written each rise
    (comes_after-within own (o + 1) (o + bytes t) (omega arith) inside within)
    (within-wider (o + 1) (o + bytes t) o (o + bytes t) low high inside within)

-- a component with none inside it
pub leaf-has_components : {P : Form} (x : QueryComponent) → Bare P → Written P
    → ((o : ℕ) (t : Text) → P [] o t → SpellsComponent x o t) → HasComponents (Component P) (x ∷ [])
leaf-has_components {P} x bare written spells text s o t h p =
    let none = bare h.inside o t h.is in
    let own : P [] o t = subst (λ (r : Spans). P r o t) none h.is in
    rw (h.spans, none)
    (component-placed text x [] [] o t p (spells o t own) (written [] o t own) tt tt tt)

-- ---- forms whose components come after the whole text of the form

-- each text of the form takes a byte at least, and its components start after its first byte
abbrev pub Later : Form → Type 0
Later P =
    (text : Text) (s : Spans) (o : ℕ) (t : Text) → P s o t → Part text o t
    → (0 < bytes t) × StartWithin (o + 1) (o + bytes t) s

-- or at least come after the text itself
abbrev pub Sooner : Form → Type 0
Sooner P =
    (text : Text) (s : Spans) (o : ℕ) (t : Text) → P s o t → Part text o t
    → (0 < bytes t) × AllComeAfter (record { start = o; end = o + bytes t }) s

pub later-blank : {Q : Form} → Later Q → Later (Blank ⌢ Q)
later-blank later text s o t h p =
    let whole : Part text o (h.first ++ h.second) = subst (Part text o) h.is p in
    let size = ap bytes h.is ∙ bytes-append h.first h.second in
    let two = later text h.second_spans (o + bytes h.first) h.second h.two
    (part-second text o h.first h.second whole) in
    let second : 0 < bytes h.second = two.0 in
    let low : o + 1 ≤ o + bytes h.first + 1 = omega arith in
    let high : o + bytes h.first + bytes h.second ≤ o + bytes t = omega (arith, size) in
    let some : 0 < bytes t = omega (arith, size, second) in
    rw (h.spans, blank-bare h.first_spans o h.first h.one) (
      some,
      within-wider (o + bytes h.first + 1) (o + bytes h.first + bytes h.second) (o + 1)
          (o + bytes t) low high h.second_spans two.1,
    )

pub later-with : {P Q : Form} {ys : List QueryComponent} → Later P → HasComponents Q ys → Later (P ⌢ Q)
later-with later f text s o t h p =
    let whole : Part text o (h.first ++ h.second) = subst (Part text o) h.is p in
    let size = ap bytes h.is ∙ bytes-append h.first h.second in
    let one = later text h.first_spans o h.first h.one (part-first text o h.first h.second whole) in
    let first : 0 < bytes h.first = one.0 in
    let body = f text h.second_spans (o + bytes h.first) h.second h.two
    (part-second text o h.first h.second whole) in
    let end : o + bytes h.first ≤ o + bytes t = omega (arith, size) in
    let low : o + 1 ≤ o + bytes h.first = omega (arith, first) in
    let high : o + bytes h.first + bytes h.second ≤ o + bytes t = omega (arith, size) in
    let same : o + 1 ≤ o + 1 = omega arith in
    let some : 0 < bytes t = omega (arith, size, first) in
    rw h.spans (
      some,
      within-append (o + 1) (o + bytes t) h.first_spans h.second_spans
          (within-wider (o + 1) (o + bytes h.first) (o + 1) (o + bytes t) same end h.first_spans
          one.1) (within-wider (o + bytes h.first) (o + bytes h.first + bytes h.second) (o + 1)
          (o + bytes t) low high h.second_spans body.within),
    )

-- a form without components, and one with
later-bare : {P : Form} → Bare P → Written P → Later P
later-bare bare written text s o t h p = rw (bare s o t h) (written s o t h, tt)

pub later-word : {P Q : Form} {ys : List QueryComponent} → Bare P → Written P → HasComponents Q ys
    → Later (P ⌢ Q)
later-word bare written f = later-with (later-bare bare written) f

-- a component whose own text begins before the components inside it
pub component-after : {P Q : Form} {xs : List QueryComponent} (x : QueryComponent) → Bare P → Written P
    → HasComponents Q xs
    → (text : Text) (s : Spans) (o : ℕ) (t : Text) → SpellsComponent x o t → Component (P ⌢ Q) s o t
    → Part text o t → Placed text (x ∷ xs) s o t
component-after {xs} x bare written f text s o t spelled h p =
    let body = after-bare bare f text h.inside o t h.is p in
    let later = later-word bare written f text h.inside o t h.is p in
    rw h.spans
    (component-placed text x xs h.inside o t p spelled later.0 body.each body.rise later.1)

pub sooner-later : {P : Form} → Later P → Sooner P
sooner-later later text s o t h p =
    let one = later text s o t h p in (
      one.0,
      comes_after-within (record { start = o; end = o + bytes t }) (o + 1) (o + bytes t)
          (omega arith) s one.1,
    )

-- a form that others follow
pub sooner-first : {P Q : Form} {xs : List QueryComponent} → HasComponents P xs → Later Q → Sooner (P ⌢ Q)
sooner-first f later text s o t h p =
    let own : Span = record { start = o; end = o + bytes t } in
    let whole : Part text o (h.first ++ h.second) = subst (Part text o) h.is p in
    let size = ap bytes h.is ∙ bytes-append h.first h.second in
    let one = f text h.first_spans o h.first h.one (part-first text o h.first h.second whole) in
    let two = later text h.second_spans (o + bytes h.first) h.second h.two
    (part-second text o h.first h.second whole) in
    let second : 0 < bytes h.second = two.0 in
    let some : 0 < bytes t = omega (arith, size, second) in
    let start : o ≤ o = omega arith in
    let shorter : o + bytes h.first < o + bytes t = omega (arith, size, second) in
    let after : o < o + bytes h.first + 1 = omega arith in
    rw h.spans (
      some,
      after-append own h.first_spans h.second_spans
          (after-sooner own o (o + bytes h.first) start shorter h.first_spans one.within)
          (comes_after-within own (o + bytes h.first + 1) (o + bytes h.first + bytes h.second) after
          h.second_spans two.1),
    )
