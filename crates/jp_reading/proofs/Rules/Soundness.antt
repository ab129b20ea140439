-- What a rule reads is a text of the rule, and what it read where it stops begins one.
use Rattle.std.proofs.Common.{◌≡◌, ℕ, zero, suc, ◌<◌, Bool, true, false, if◌then◌else◌, List, []}
use Rattle.std.proofs.Common.{◌∷◌, length, Option, Some, None, inl, inr, refl, ap, ◌∙◌, arith}
use Rattle.std.proofs.lemmas.Bool.{cases_Bool, eqb-true}
use Rattle.jp_reading.specs.Forms.{Form, ◌⌢◌, word, One, Blank, Each, Omitted}
use Rattle.jp_reading.specs.Outcome.{State, Outcome, took, stuck, deep, ◌>>=◌, head, past, skip}
use Rattle.jp_reading.specs.Outcome.{passes, is, is_at, take_passing, take_if, expect, loop, omit}
use Rattle.jp_reading.specs.Views.{outcome_map}
use Rattle.jp_reading.specs.Rule.{Look, Nesting, Lead, the, blanks, Rule, value, character, after}
use Rattle.jp_reading.specs.Rule.{seq, made, look, upon, nested, component_where, omitted, some}
use Rattle.jp_reading.specs.Rule.{relaxed}
use Rattle.jp_reading.specs.Rule.{loose, until, flat}
use Rattle.jp_reading.specs.RuleReading.{InnerReader, nothing, next, led, spanned_if, spanned, read}
use Rattle.jp_reading.proofs.States.Between.{Reads, Prefix, Stops, Passes, Has, Within, reads-then}
use Rattle.jp_reading.proofs.States.Between.{prefix-then, prefix-none, reads-as}
use Rattle.jp_reading.proofs.Texts.Chars.{past-shorter}
use Rattle.jp_reading.proofs.States.Steps.{skip-way, head-is}
use Rattle.jp_reading.proofs.States.Fits.{reads-nothing, reads-one, reads-word}
use Rattle.jp_reading.proofs.Forms.Levels.{Only, Then, Made, word-has, joined-has}
use Rattle.jp_reading.proofs.States.Stopping.{stops-first, stops-then, stops-as, stops-made}
use Rattle.jp_reading.proofs.States.Stopping.{prefix-component}
use Rattle.jp_reading.proofs.States.Stopping.{reads-component}
use Rattle.jp_reading.proofs.Rules.Form.{Either, left, right, ComponentIf, Inside, none_inside}
use Rattle.jp_reading.proofs.Rules.Form.{text_of}
use Rattle.jp_reading.proofs.Rules.Form.{form, lifts, Alive, least, has}

-- what an outcome at p promises, where F says which texts a value has, and G which it has one level
-- deeper: what was taken is a text of the value; what was read before it stuck begins a text; and
-- where a level is missing that is so too, and one level deeper the next character goes on
abbrev pub Promised : {A : Type 0} → (F G : A → Form) → State → Outcome A → Type 0
Promised F G p (took x q) = Reads (F x) p q
Promised F G p (stuck r) = Stops F p r
Promised F G p (deep r) = Stops F p r × Passes G p r

pub record IsSound {A : Type 0} (F G : A → Form) (p : State) (o : Outcome A) : Type 0 where
  pub is : Promised F G p o

-- ---- the parts

pub sound-as : {A : Type 0} (F G H K : A → Form) (p : State) (o : Outcome A)
    → ((x : A) → Within (F x) (H x)) → ((x : A) → Within (G x) (K x))
    → IsSound F G p o → IsSound H K p o
sound-as F G H K p (took x q) f g h = record { is = reads-as (F x) (H x) p q (f x) h.is }
sound-as F G H K p (stuck r) f g h = record { is = stops-as F H p r f h.is }
sound-as F G H K p (deep r) f g h = record {
  is = (
    stops-as F H p r f h.is.0,
    record {
      next = h.is.1.next;
      stops = stops-as G K p (past r) g h.is.1.stops;
    },
  );
}

-- nothing is read
sound-stuck : {A : Type 0} (F G : A → Form) (p : State) (x : A) → Has (F x)
    → IsSound F G p (stuck p)
sound-stuck F G p x h = record { is = record { value = x; prefix = prefix-none (F x) p h } }

-- a rule after a text that was read
pub sound-after : {A : Type 0} (P : Form) (F G : A → Form) (p q : State) (o : Outcome A)
    → Reads P p q → IsSound F G q o
    → IsSound (λ x. P ⌢ F x) (λ x. P ⌢ G x) p o
sound-after P F G p q (took x r) h g = record { is = reads-then P (F x) p q r h g.is }
sound-after P F G p q (stuck r) h g = record {
  is = record { value = g.is.value; prefix = prefix-then P (F g.is.value) p q r h g.is.prefix };
}
sound-after P F G p q (deep r) h g = record {
  is = (
    record { value = g.is.0.value; prefix = prefix-then P (F g.is.0.value) p q r h g.is.0.prefix },
    record {
      next = g.is.1.next;
      stops = record {
        value = g.is.1.stops.value;
        prefix = prefix-then P (G g.is.1.stops.value) p q (past r) h g.is.1.stops.prefix;
      };
    },
  );
}

-- one rule, and one that goes on from the value that it took
sound-on : {A B : Type 0} (F G : A → Form) (H K : A → B → Form) (x : A) (p q : State)
    (o : Outcome B) → Within (F x) (G x)
    → Reads (F x) p q → IsSound (H x) (K x) q o → IsSound (Then F H) (Then G K) p o
sound-on F G H K x p q (took y r) w h g = record {
  is = reads-as (F x ⌢ H x y) (Then F H y) p r (λ s o t k. record { part = x; is = k })
      (reads-then (F x) (H x y) p q r h g.is);
}
sound-on F G H K x p q (stuck r) w h g = record { is = stops-then F H x p q r h g.is }
sound-on F G H K x p q (deep r) w h g = record {
  is = (
    stops-then F H x p q r h g.is.0,
    record {
      next = g.is.1.next;
      stops = stops-then G K x p q (past r) (reads-as (F x) (G x) p q w h) g.is.1.stops;
    },
  );
}

sound-then : {A B : Type 0} (F G : A → Form) (H K : A → B → Form) (p : State) (o : Outcome A)
    (k : A → State → Outcome B)
    → ((x : A) → Within (F x) (G x)) → ((x : A) → (y : B) × Has (H x y))
    → ((x : A) → (y : B) × Has (K x y))
    → IsSound F G p o → ((x : A) (q : State) → IsSound (H x) (K x) q (k x q))
    → IsSound (Then F H) (Then G K) p (o >>= k)
sound-then F G H K p (took x q) k w f g h i = sound-on F G H K x p q (k x q) (w x) h.is (i x q)
sound-then F G H K p (stuck r) k w f g h i = record { is = stops-first F H p r f h.is }
sound-then F G H K p (deep r) k w f g h i = record {
  is = (
    stops-first F H p r f h.is.0,
    record {
      next = h.is.1.next;
      stops = stops-first G K p (past r) g h.is.1.stops;
    },
  );
}

sound-made : {A B : Type 0} (f : A → B) (F G : A → Form) (p : State) (o : Outcome A)
    → IsSound F G p o
    → IsSound (Made f F) (Made f G) p (outcome_map f o)
sound-made f F G p (took x q) h = record {
  is = reads-as (F x) (Made f F (f x)) p q (λ s o t g. record { part = x; same = refl; is = g })
      h.is;
}
sound-made f F G p (stuck r) h = record { is = stops-made f F p r h.is }
sound-made f F G p (deep r) h = record {
  is = (
    stops-made f F p r h.is.0,
    record {
      next = h.is.1.next;
      stops = stops-made f G p (past r) h.is.1.stops;
    },
  );
}

sound-spanned : {A : Type 0} (ok : A → Bool) (F G : A → Form) (p : State) (o : Outcome A)
    → IsSound F G p o
    → IsSound (λ x. ComponentIf (ok x) (F x)) (λ x. ComponentIf (ok x) (G x)) p (spanned ok p o)
sound-spanned {A} ok F G p o h = way o h
  where
    taken : (b : Bool) (P : Form) (q : State) → Reads P p q
        → Reads (ComponentIf b P) p (spanned_if b p q)
    taken true P q g = reads-component P p q g
    taken false P q g = g

    stopped : (b : Bool) (P : Form) (r : State) → Prefix P p r → Prefix (ComponentIf b P) p r
    stopped true P r g = prefix-component P p r g
    stopped false P r g = g

    stops : (H : A → Form) (r : State) → Stops H p r → Stops (λ x. ComponentIf (ok x) (H x)) p r
    stops H r g = record { value = g.value; prefix = stopped (ok g.value) (H g.value) r g.prefix }

    way : (o : Outcome A) → IsSound F G p o
        → IsSound (λ x. ComponentIf (ok x) (F x)) (λ x. ComponentIf (ok x) (G x)) p (spanned ok p o)
    way (took x q) g = record { is = taken (ok x) (F x) q g.is }
    way (stuck r) g = record { is = stops F r g.is }
    way (deep r) g = record {
      is = (stops F r g.is.0, record { next = g.is.1.next; stops = stops G (past r) g.is.1.stops });
    }

-- of two ways one is taken an omitted component
reads-omitted : {A : Type 0} (x : A) (p : State) → Reads (Only x Omitted x) p (omit p)
reads-omitted x p = record {
  spans = None ∷ [];
  text = [];
  way = record { rest = refl; at = omega arith; found = refl };
  is = record { same = refl; is = record { spans = refl; is = refl } };
}

sound-either : {A : Type 0} (F G H K : A → Form) (p : State) (b : Bool) (o v : Outcome A)
    → (b ≡ true → IsSound F G p o) → IsSound H K p v
    → IsSound (λ x. Either (F x) (H x)) (λ x. Either (G x) (K x)) p (if b then o else v)
sound-either F G H K p true o v h g =
    sound-as F G (λ x. Either (F x) (H x)) (λ x. Either (G x) (K x)) p o (λ x s i t w. left w)
    (λ x s i t w. left w) (h refl)
sound-either F G H K p false o v h g =
    sound-as H K (λ x. Either (F x) (H x)) (λ x. Either (G x) (K x)) p v (λ x s i t w. right w)
    (λ x s i t w. right w) g

sound-take_if : (ok : ℕ → Bool) (c : ℕ) → ok c ≡ true → (p : State)
    → IsSound (One ok) (One ok) p (take_if ok p)
sound-take_if ok c h p = taken (head p) refl
  where
    none : IsSound (One ok) (One ok) p (stuck p)
    none = sound-stuck (One ok) (One ok) p c (λ o. (
      [],
      c ∷ [],
      record {
        none = refl;
        is = refl;
        passes = h;
      },
    ))

    taken : (o : Option ℕ) → head p ≡ o → IsSound (One ok) (One ok) p (take_passing ok p o)
    taken None e = none
    taken (Some d) e =
        elim (cases_Bool (ok d)) [
          | inl passing ↦ rw passing (record { is = reads-one ok p d e passing })
          | inr failing ↦ rw failing none
        ]

sound-expect : {A : Type 0} (c : ℕ) (F G : A → Form) (x : A) → Has (F x)
    → (p : State) (k : State → Outcome A)
    → ((q : State) → IsSound F G q (k q))
    → IsSound (λ y. word (c ∷ []) ⌢ F y) (λ y. word (c ∷ []) ⌢ G y) p (expect c p >>= λ d q. k q)
sound-expect {A} c F G x h p k g = taken (head p) refl
  where
    none : IsSound (λ y. word (c ∷ []) ⌢ F y) (λ y. word (c ∷ []) ⌢ G y) p (stuck p)
    none = sound-stuck (λ y. word (c ∷ []) ⌢ F y) (λ y. word (c ∷ []) ⌢ G y) p x
        (joined-has (word (c ∷ [])) (F x) (word-has (c ∷ [])) h)

    taken : (o : Option ℕ) → head p ≡ o
        → IsSound (λ y. word (c ∷ []) ⌢ F y) (λ y. word (c ∷ []) ⌢ G y) p
        (take_passing (is c) p o >>= λ d q. k q)
    taken None e = none
    taken (Some d) e =
        elim (cases_Bool (is c d)) [
          | inl same ↦
              rw same (sound-after (word (c ∷ [])) F G p (past p) (k (past p))
              (reads-word p c (e ∙ ap Some (eqb-true d c same))) (g (past p)))
          | inr other ↦ rw other none
        ]

sound-led : {A : Type 0} {m : Look} {t : Bool} (s : Lead m t) (F G : A → Form) (x : A)
    → Has (F x) → (k : State → Outcome A)
    → ((q : State) → IsSound F G q (k q)) → (p : State)
    → IsSound (λ y. text_of s ⌢ F y) (λ y. text_of s ⌢ G y) p (led s k p)
sound-led (the c) F G x h k g p = sound-expect c F G x h p k g
sound-led blanks F G x h k g p =
    sound-after Blank F G p (skip p) (k (skip p)) (skip-way p) (g (skip p))

-- a loop, however many rounds it may make
sound-loop : {A : Type 0} (F G : A → Form) → ((x : A) → Within (F x) (G x))
    → (n : ℕ) (begins : State → Bool) (rule : State → Outcome A)
    → ((q : State) → IsSound F G q (rule q)) → (p : State)
    → IsSound (Each F) (Each G) p (loop n begins rule p)
unfolding loop
sound-loop F G w zero begins rule h p = record { is = reads-nothing p }
sound-loop {A} F G w (suc n) begins rule h p =
    round (begins p) (λ q. sound-loop F G w n begins rule h q)
  where
    more : (H : A → Form) (xs : List A) → Within (Then H (λ x. Made (λ ys. x ∷ ys) (Each H)) xs)
        (Each H xs)
    more H xs s o t g = rw g.is.two.same (record {
      first_spans = g.is.first_spans;
      second_spans = g.is.second_spans;
      first = g.is.first;
      second = g.is.second;
      spans = g.is.spans;
      is = g.is.is;
      one = g.is.one;
      two = g.is.two.is;
    })

    one : (x : A) (H : A → Form) → Has (Made (λ ys. x ∷ ys) (Each H) (x ∷ []))
    one x H o = ([], [], record { part = []; same = refl; is = record { none = refl; is = refl } })

    round : (b : Bool) → ((q : State) → IsSound (Each F) (Each G) q (loop n begins rule q))
        → IsSound (Each F) (Each G) p
        (if b then rule p >>= (λ x q. loop n begins rule q >>= λ xs r. took (x ∷ xs) r) else took []
        p)
    round false again = record { is = reads-nothing p }
    round true again =
        sound-as (Then F (λ x. Made (λ ys. x ∷ ys) (Each F)))
        (Then G (λ x. Made (λ ys. x ∷ ys) (Each G))) (Each F) (Each G) p _ (more F) (more G)
        (sound-then F G (λ x. Made (λ ys. x ∷ ys) (Each F)) (λ x. Made (λ ys. x ∷ ys) (Each G)) p
        (rule p) _ w
        (λ x. (x ∷ [], one x F)) (λ x. (x ∷ [], one x G)) (h p)
        (λ x q. sound-made (λ ys. x ∷ ys) (Each F) (Each G) q (loop n begins rule q) (again q)))

-- ---- levels

-- what reading one level further in is at an opening: shut, a level that is missing, which one
-- level deeper goes on, or sound
pub data Opened {A : Type 0} (F G : A → Form) (p : State) (o : Outcome A) : Type 0 where
  shut : o ≡ stuck p → Opened F G p o
  none_left : o ≡ deep p → Stops G p (past p) → Opened F G p o
  some_left : IsSound F G p o → Opened F G p o

abbrev pub InnerIsSound : (N : Nesting) (F G : Inside N) → InnerReader N → Type 0
InnerIsSound N F G inner = (o : N.Opening) (p : State) → passes (N.opens o) (head p) ≡ true
    → Opened (F o) (G o) p (inner o p)

sound-nested : {A B : Type 0} (F G : A → Form) (H K : A → B → Form) (S T : B → Form) (p : State)
    (o : Outcome A) (k : A → State → Outcome B)
    → 0 < length p.rest → ((x : A) → Within (F x) (G x)) → ((x : A) → (y : B) × Has (H x y))
    → ((x : A) → (y : B) × Has (K x y))
    → (z : B) → Has (S z) → Opened F G p o → ((x : A) (q : State) → IsSound (H x) (K x) q (k x q))
    → IsSound (λ y. Either (Then F H y) (S y)) (λ y. Either (Then G K y) (T y)) p (o >>= k)
sound-nested F G H K S T p o k more w f g z has_z (shut e) i =
    rw e (sound-stuck (λ y. Either (Then F H y) (S y)) (λ y. Either (Then G K y) (T y)) p z
    (λ n. (let t = has_z n in (t.0, t.1, right t.2))))
sound-nested F G H K S T p o k more w f g z has_z (none_left e stops) i = rw e (record {
  is = (
    record {
      value = z;
      prefix = prefix-none (Either (Then F H z) (S z)) p
          (λ n. (let t = has_z n in (t.0, t.1, right t.2)));
    },
    record {
      next = more;
      stops = stops-as (Then G K) (λ y. Either (Then G K y) (T y)) p (past p) (λ y s n t h. left h)
          (stops-first G K p (past p) g stops);
    },
  );
})
sound-nested F G H K S T p o k more w f g z has_z (some_left h) i =
    sound-as (Then F H) (Then G K) (λ y. Either (Then F H y) (S y)) (λ y. Either (Then G K y) (T y))
    p (o >>= k) (λ y s n t v. left v) (λ y s n t v. left v)
    (sound-then F G H K p o k w f g h i)

-- ---- rules

pub sound : {N : Nesting} {u : Bool} {a b : Look} {A : Type 0} (F G : Inside N)
    → ((o : N.Opening) (x : N.Inner o) → Within (F o x) (G o x))
    → (inner : InnerReader N) → InnerIsSound N F G inner → (r : Rule N u a b A) → Alive r → (p : State)
    → IsSound (form F r) (form G r) p (read inner r p)
sound F G l inner h (value x) w p = record {
  is = reads-as (word []) (Only x (word []) x) p p (λ s o t g. record { same = refl; is = g })
      (reads-nothing p);
}
sound F G l inner h (character ok) w p = sound-take_if ok w.member w.passes p
sound F G l inner h (after s r) w p =
    sound-led s (λ x. form F r x) (λ x. form G r x) (least r w) (has F r w)
    (λ q. read inner r q) (λ q. sound F G l inner h r w q) p
sound F G l inner h (seq r k) w p =
    sound-then (λ x. form F r x) (λ x. form G r x) (λ x z. form F (k x) z) (λ x z. form G (k x) z) p
    (read inner r p) (λ x q. read inner (k x) q)
    (λ x. lifts F G l r x) (λ x. (least (k x) (w.1 x), has F (k x) (w.1 x)))
    (λ x. (least (k x) (w.1 x), has G (k x) (w.1 x)))
    (sound F G l inner h r w.0 p) (λ x q. sound F G l inner h (k x) (w.1 x) q)
sound F G l inner h (made f r) w p =
    sound-made f (λ x. form F r x) (λ x. form G r x) p (read inner r p) (sound F G l inner h r w p)
sound F G l inner h (look m ok r s) w p =
    sound-either (λ x. form F r x) (λ x. form G r x) (λ x. form F s x) (λ x. form G s x) p
    (passes ok (next m p)) (read inner r p) (read inner s p)
    (λ on. sound F G l inner h r w.1 p) (sound F G l inner h s w.2 p)
sound F G l inner h (upon c r s) w p =
    sound-either (λ x. word (c ∷ []) ⌢ form F r x) (λ x. word (c ∷ []) ⌢ form G r x)
    (λ x. form F s x) (λ x. form G s x) p (is_at c p)
    (read inner r (past p)) (read inner s p)
    (λ on. sound-after (word (c ∷ [])) (λ x. form F r x) (λ x. form G r x) p (past p)
    (read inner r (past p)) (reads-word p c (head-is c p on))
    (sound F G l inner h r w.0 (past p))) (sound F G l inner h s w.1 p)
sound {N} F G l inner h (nested o k s) w p =
    way (passes (N.opens o) (head p)) refl (λ x q. sound F G l inner h (k x) (w.0 x) q)
    (sound F G l inner h s w.1 p)
  where
    way : (b : Bool) → passes (N.opens o) (head p) ≡ b
        → ((x : N.Inner o) (q : State) → IsSound (λ z. form F (k x) z) (λ z. form G (k x) z) q
        (read inner (k x) q))
        → IsSound (λ z. form F s z) (λ z. form G s z) p (read inner s p)
        → IsSound (form F (nested o k s)) (form G (nested o k s)) p
        (if b then inner o p >>= (λ x q. read inner (k x) q) else read inner s p)
    way true on i g =
        sound-nested (λ x. F o x) (λ x. G o x) (λ x z. form F (k x) z) (λ x z. form G (k x) z)
        (λ z. form F s z) (λ z. form G s z) p (inner o p)
        (λ x q. read inner (k x) q) (let less = past-shorter (N.opens o) p on in omega arith)
        (λ x. l o x)
        (λ x. (least (k x) (w.0 x), has F (k x) (w.0 x)))
        (λ x. (least (k x) (w.0 x), has G (k x) (w.0 x)))
        (least s w.1) (has F s w.1) (h o p on) i
    way false off i g =
        sound-as (λ z. form F s z) (λ z. form G s z) (form F (nested o k s)) (form G (nested o k s))
        p (read inner s p) (λ x v n t e. right e)
        (λ x v n t e. right e) g
sound F G l inner h (component_where ok r) w p =
    sound-spanned ok (λ x. form F r x) (λ x. form G r x) p (read inner r p)
    (sound F G l inner h r w p)
sound F G l inner h (omitted x) w p = record { is = reads-omitted x p }
sound F G l inner h (some m ok r) w p =
    sound-loop (λ x. form F r x) (λ x. form G r x) (λ x. lifts F G l r x) (suc (length p.rest))
    (λ q. passes ok (next m q)) (λ q. read inner r q)
    (λ q. sound F G l inner h r w.1 q) p
sound F G l inner h (relaxed r) w p = sound F G l inner h r w p
sound F G l inner h (loose r) w p = sound F G l inner h r w p
sound F G l inner h (until ok r) w p = sound F G l inner h r w.1 p
sound {N} F G l inner h (flat r) w p =
    sound (none_inside N) (none_inside N) (λ o x s n t e. e) (nothing N) (λ o q on. shut refl) r w p
