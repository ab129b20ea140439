-- The form of the texts that a rule takes for a value; that a level more allows no fewer; and that
-- each rule takes a text.
use Rattle.std.proofs.Common.{ℕ, Bool, true, false, [], ◌∷◌, None, refl}
use Rattle.jp_reading.specs.Texts.{Text, Spans}
use Rattle.jp_reading.specs.Forms.{Form, ◌⌢◌, word, One, Blank, Each, Component, Omitted, Never}
use Rattle.jp_reading.specs.Rule.{Look, Nesting, Lead, the, blanks, Rule, value, character, after}
use Rattle.jp_reading.specs.Rule.{seq, made, look, upon, nested, component_where, omitted, some}
use Rattle.jp_reading.specs.Rule.{relaxed}
use Rattle.jp_reading.specs.Rule.{loose, until, flat}
use Rattle.jp_reading.proofs.Rules.Classes.{Class}
use Rattle.jp_reading.proofs.States.Between.{Has, Within, has-as}
use Rattle.jp_reading.proofs.Forms.Levels.{Only, Then, Made, joined-lifts, joined-has, word-has}
use Rattle.jp_reading.proofs.Forms.Levels.{blank-has, then-lifts, then-has, component-lifts}
use Rattle.jp_reading.proofs.Forms.Levels.{component-has}
use Rattle.jp_reading.proofs.Forms.Levels.{each-lifts}

-- a text of one of two forms
pub data Either (P Q : Form) (s : Spans) (o : ℕ) (t : Text) : Type 0 where
  left : P s o t → Either P Q s o t
  right : Q s o t → Either P Q s o t

either-lifts : (P P' Q Q' : Form) → Within P P' → Within Q Q' → Within (Either P Q) (Either P' Q')
either-lifts P P' Q Q' f g s o t (left h) = left (f s o t h)
either-lifts P P' Q Q' f g s o t (right h) = right (g s o t h)

-- a component, or no component of its own
abbrev pub ComponentIf : Bool → Form → Form
ComponentIf true P = Component P
ComponentIf false P = P

component_if-lifts : (b : Bool) (P Q : Form) → Within P Q → Within (ComponentIf b P) (ComponentIf b Q)
component_if-lifts true P Q f = component-lifts P Q f
component_if-lifts false P Q f = f

component_if-has : (b : Bool) (P : Form) → Has P → Has (ComponentIf b P)
component_if-has true P f = component-has P f
component_if-has false P f = f

-- the forms of what stands one level further in, from its opening on
abbrev pub Inside : Nesting → Type 1
Inside N = (o : N.Opening) → N.Inner o → Form

abbrev pub none_inside : (N : Nesting) → Inside N
none_inside N o x = Never

abbrev pub text_of : {m : Look} {t : Bool} → Lead m t → Form
text_of (the c) = word (c ∷ [])
text_of blanks = Blank

-- which texts a rule takes for a value
abbrev pub form : {N : Nesting} {u : Bool} {a b : Look} {A : Type 0} → Inside N → Rule N u a b A → A
    → Form
form F (value x) y = Only x (word []) y
form F (character ok) y = One ok y
form F (after s r) y = text_of s ⌢ form F r y
form F (seq r k) y = Then (λ x. form F r x) (λ x z. form F (k x) z) y
form F (made f r) y = Made f (λ x. form F r x) y
form F (look m ok r s) y = Either (form F r y) (form F s y)
form F (upon c r s) y = Either (word (c ∷ []) ⌢ form F r y) (form F s y)
form F (nested o k s) y = Either (Then (λ x. F o x) (λ x z. form F (k x) z) y) (form F s y)
form F (component_where ok r) y = ComponentIf (ok y) (form F r y)
form F (omitted x) y = Only x Omitted y
form F (some m ok r) y = Each (λ x. form F r x) y
form F (relaxed r) y = form F r y
form F (loose r) y = form F r y
form F (until ok r) y = form F r y
form {N} F (flat r) y = form (none_inside N) r y

pub lifts : {N : Nesting} {u : Bool} {a b : Look} {A : Type 0} (F G : Inside N)
    → ((o : N.Opening) (x : N.Inner o) → Within (F o x) (G o x))
    → (r : Rule N u a b A) (y : A) → Within (form F r y) (form G r y)
lifts F G h (value x) y = λ s o t w. w
lifts F G h (character ok) y = λ s o t w. w
lifts F G h (after s r) y =
    joined-lifts (text_of s) (text_of s) (form F r y) (form G r y) (λ v o t w. w) (lifts F G h r y)
lifts F G h (seq r k) y =
    then-lifts (λ x. form F r x) (λ x. form G r x) (λ x z. form F (k x) z) (λ x z. form G (k x) z)
    (λ x. lifts F G h r x) (λ x z. lifts F G h (k x) z) y
lifts F G h (made f r) y = λ s o t w. record {
  part = w.part;
  same = w.same;
  is = lifts F G h r w.part s o t w.is;
}
lifts F G h (look m ok r s) y =
    either-lifts (form F r y) (form G r y) (form F s y) (form G s y) (lifts F G h r y)
    (lifts F G h s y)
lifts F G h (upon c r s) y =
    either-lifts (word (c ∷ []) ⌢ form F r y) (word (c ∷ []) ⌢ form G r y) (form F s y) (form G s y)
    (joined-lifts (word (c ∷ [])) (word (c ∷ [])) (form F r y) (form G r y) (λ v o t w. w)
    (lifts F G h r y)) (lifts F G h s y)
lifts F G h (nested o k s) y =
    either-lifts (Then (λ x. F o x) (λ x z. form F (k x) z) y)
    (Then (λ x. G o x) (λ x z. form G (k x) z) y) (form F s y) (form G s y)
    (then-lifts (λ x. F o x) (λ x. G o x) (λ x z. form F (k x) z) (λ x z. form G (k x) z)
    (λ x. h o x) (λ x z. lifts F G h (k x) z) y)
    (lifts F G h s y)
lifts F G h (component_where ok r) y = component_if-lifts (ok y) (form F r y) (form G r y) (lifts F G h r y)
lifts F G h (omitted x) y = λ s o t w. w
lifts F G h (some m ok r) y =
    each-lifts (λ x. form F r x) (λ x. form G r x) (λ x. lifts F G h r x) y
lifts F G h (relaxed r) y = lifts F G h r y
lifts F G h (loose r) y = lifts F G h r y
lifts F G h (until ok r) y = lifts F G h r y
lifts F G h (flat r) y = λ s o t w. w

-- ---- each rule takes a text, where each of its classes of characters has one

-- each class of characters in the rule is known by its ranges
abbrev pub Alive : {N : Nesting} {u : Bool} {a b : Look} {A : Type 0} → Rule N u a b A → Type 0
Alive (value x) = Unit {0}
Alive (character ok) = Class ok
Alive (after s r) = Alive r
Alive (seq {A = A} r k) = Alive r × ((x : A) → Alive (k x))
Alive (made f r) = Alive r
Alive (look m ok r s) = Class ok × Alive r × Alive s
Alive (upon c r s) = Alive r × Alive s
Alive {N} (nested o k s) = ((x : N.Inner o) → Alive (k x)) × Alive s
Alive (component_where ok r) = Alive r
Alive (omitted x) = Unit {0}
Alive (some m ok r) = Class ok × Alive r
Alive (relaxed r) = Alive r
Alive (loose r) = Alive r
Alive (until ok r) = Class ok × Alive r
Alive (flat r) = Alive r

-- a value that has a text
abbrev pub least : {N : Nesting} {u : Bool} {a b : Look} {A : Type 0} (r : Rule N u a b A) → Alive r
    → A
least (value x) w = x
least (character ok) w = w.member
least (after s r) w = least r w
least (seq r k) w = least (k (least r w.0)) (w.1 (least r w.0))
least (made f r) w = f (least r w)
least (look m ok r s) w = least r w.1
least (upon c r s) w = least s w.1
least (nested o k s) w = least s w.1
least (component_where ok r) w = least r w
least (omitted x) w = x
least (some m ok r) w = []
least (relaxed r) w = least r w
least (loose r) w = least r w
least (until ok r) w = least r w.1
least (flat r) w = least r w

lead-has : {m : Look} {t : Bool} (s : Lead m t) → Has (text_of s)
lead-has (the c) = word-has (c ∷ [])
lead-has blanks = blank-has

pub has : {N : Nesting} {u : Bool} {a b : Look} {A : Type 0} (F : Inside N) (r : Rule N u a b A)
    (w : Alive r) → Has (form F r (least r w))
has F (value x) w = λ o. ([], [], record { same = refl; is = record { none = refl; is = refl } })
has F (character ok) w = λ o. (
  [],
  w.member ∷ [],
  record { none = refl; is = refl; passes = w.passes },
)
has F (after s r) w = joined-has (text_of s) (form F r (least r w)) (lead-has s) (has F r w)
has F (seq r k) w =
    let x = least r w.0 in
    then-has (λ z. form F r z) (λ z y. form F (k z) y) x (least (k x) (w.1 x)) (has F r w.0)
    (has F (k x) (w.1 x))
has F (made f r) w = λ o. (let text = has F r w o in (
  text.0,
  text.1,
  record {
    part = least r w;
    same = refl;
    is = text.2;
  },
))
has F (look m ok r s) w =
    has-as (form F r (least r w.1)) (Either (form F r (least r w.1)) (form F s (least r w.1)))
    (λ v o t h. left h) (has F r w.1)
has F (upon c r s) w =
    has-as (form F s (least s w.1))
    (Either (word (c ∷ []) ⌢ form F r (least s w.1)) (form F s (least s w.1))) (λ v o t h. right h)
    (has F s w.1)
has F (nested o k s) w =
    has-as (form F s (least s w.1))
    (Either (Then (λ x. F o x) (λ x z. form F (k x) z) (least s w.1)) (form F s (least s w.1)))
    (λ v i t h. right h) (has F s w.1)
has F (component_where ok r) w = component_if-has (ok (least r w)) (form F r (least r w)) (has F r w)
has F (omitted x) w = λ o. (
  None ∷ [],
  [],
  record {
    same = refl;
    is = record { spans = refl; is = refl };
  },
)
has F (some m ok r) w = word-has []
has F (relaxed r) w = has F r w
has F (loose r) w = has F r w
has F (until ok r) w = has F r w.1
has {N} F (flat r) w = has (none_inside N) r w
