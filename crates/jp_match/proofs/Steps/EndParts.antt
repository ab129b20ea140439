-- Where the end is reached, part by part.
use Rattle.std.proofs.Common.{◌≡◌, ◌↔◌, inl, inr, ℕ, Bool, false, ◌||◌, List, [], ◌∷◌, ◌++◌, drop}
use Rattle.std.proofs.Common.{get_or, refl, sym, subst}
use Rattle.jp_iregexp.specs.declared.class.ClassElement.{ClassElement}
use Rattle.jp_iregexp.specs.Language.{Concatenation}
use Rattle.jp_match.specs.Private.Plain.{Plain, class, nothing, either, empty, sequence}
use Rattle.jp_match.specs.Private.Plain.{plus}
use Rattle.jp_match.specs.Private.Marks.{size, Ends}
use Rattle.jp_match.proofs.Bools.{or_is}

-- parts of the empty word are empty
pub joined_nil : {L M : List ℕ → Type 0} → Concatenation L M [] → L [] × M []
joined_nil {L} {M} j = parts j.prefix j.suffix j.is j.first j.second where
  parts : (prefix suffix : List ℕ) → [] ≡ prefix ++ suffix → L prefix → M suffix → L [] × M []
  parts [] suffix is first second = (first, subst M (sym is) second)
  parts (x ∷ prefix) suffix is first second = absurd (cc)

pub nil_before : {L M : List ℕ → Type 0} {w : List ℕ} → L [] → M w → Concatenation L M w
nil_before {w} first second = record {
  prefix = [];
  suffix = w;
  is = refl;
  first = first;
  second = second;
}

pub nil_is : {L M : List ℕ → Type 0} → (L [] × M []) ↔ Concatenation L M []
nil_is = (λ both. nil_before both.0 both.1, λ j. joined_nil j)

-- the same cut of a word, with other languages that hold its parts
pub joined_by : {L M N O : List ℕ → Type 0} {w : List ℕ} → (j : Concatenation L M w)
    → N j.prefix → O j.suffix → Concatenation N O w
joined_by j first second = record {
  prefix = j.prefix;
  suffix = j.suffix;
  is = j.is;
  first = first;
  second = second;
}

pub ends_class : {negated : Bool} {items : List ClassElement} {entered : Bool} {marks : List Bool}
    → Ends (class negated items) entered marks (get_or marks 0 false)
ends_class = record {
  is = (λ h. inl (h, refl), λ h. elim h [ inl x ↦ x.0 | inr y ↦ absurd (let e = y.1.2 in cc) ]);
}

pub ends_empty : {entered : Bool} {marks : List Bool} → Ends empty entered marks entered
ends_empty = record {
  is = (λ h. inr (h, refl), λ h. elim h [ inl x ↦ absurd x | inr y ↦ y.0 ]);
}

pub ends_nothing : {entered : Bool} {marks : List Bool} → Ends nothing entered marks false
ends_nothing = record {
  is = (λ h. absurd (cc), λ h. elim h [ inl x ↦ absurd x | inr y ↦ absurd y.1 ]);
}

pub ends_either : {a b : Plain} {entered : Bool} {marks : List Bool} {x y : Bool}
    → Ends a entered marks x → Ends b entered (drop (size a) marks) y
    → Ends (either a b) entered marks (x || y)
ends_either {x} {y} ha hb = record {
  is = (
    λ h. elim ((or_is x y).0 h) [
      | inl t ↦ elim (ha.is.0 t) [ inl r ↦ inl (inl r) | inr w ↦ inr (w.0, inl w.1) ]
      | inr t ↦ elim (hb.is.0 t) [ inl r ↦ inl (inr r) | inr w ↦ inr (w.0, inr w.1) ]
    ],
    λ h. (or_is x y).1 (elim h [
      | inl r ↦ elim r [ inl ra ↦ inl (ha.is.1 (inl ra)) | inr rb ↦ inr (hb.is.1 (inl rb)) ]
      | inr w ↦ elim w.1 [
        | inl wa ↦ inl (ha.is.1 (inr (w.0, wa)))
        | inr wb ↦ inr (hb.is.1 (inr (w.0, wb)))
      ]
    ]),
  );
}

pub ends_sequence : {a b : Plain} {entered : Bool} {marks : List Bool} {x y : Bool}
    → Ends a entered marks x → Ends b x (drop (size a) marks) y
    → Ends (sequence a b) entered marks y
ends_sequence ha hb = record {
  is = (
    λ h. elim (hb.is.0 h) [
      | inl r ↦ inl (inr r)
      | inr w ↦ elim (ha.is.0 w.0) [
        | inl r ↦ inl (inl (nil_before r w.1))
        | inr v ↦ inr (v.0, nil_before v.1 w.1)
      ]
    ],
    λ h. hb.is.1 (elim h [
      | inl r ↦ elim r [
        | inl j ↦ let p = joined_nil j in inr (ha.is.1 (inl p.0), p.1)
        | inr rb ↦ inl rb
      ]
      | inr w ↦ let p = joined_nil w.1 in inr (ha.is.1 (inr (w.0, p.0)), p.1)
    ]),
  );
}

pub ends_plus : {a : Plain} {entered : Bool} {marks : List Bool} {x : Bool}
    → Ends a entered marks x → Ends (plus a) entered marks x
ends_plus h = record {
  is = (
    λ t. elim (h.is.0 t) [
      | inl r ↦ inl (nil_before r (0, refl))
      | inr w ↦ inr (w.0, (0, nil_before w.1 refl))
    ],
    λ t. h.is.1 (elim t [
      | inl j ↦ inl (joined_nil j).0
      | inr w ↦ inr (w.0, (joined_nil w.1.1).0)
    ]),
  );
}
