-- Characters that no word of a pattern begins with, part by part.
use Rattle.std.proofs.Common.{◌≡◌, ◌↔◌, ◌⊎◌, inl, inr, ℕ, zero, suc, ◌≤◌, Bool, true}
use Rattle.std.proofs.Common.{false}
use Rattle.std.proofs.Common.{List, [], ◌∷◌, Option, get_or, refl, subst, arith}
use Rattle.std.specs.Bool.{IsTrue}
use Rattle.std.proofs.Math.ListN.{replicate}
use Rattle.jp_iregexp.specs.declared.class.ClassElement.{ClassElement}
use Rattle.jp_iregexp.specs.Class.{class_holds}
use Rattle.jp_iregexp.specs.Tree.{Tree, class, either, sequence, repeat}
use Rattle.jp_iregexp.specs.Language.{Power, Language}
use Rattle.jp_match.specs.Scan.{Sought}
use Rattle.jp_match.specs.Private.Plain.{unrolled}
use Rattle.jp_match.specs.Private.Marks.{Rest}
use Rattle.jp_match.specs.Private.Beginning.{NeverBegins}
use Rattle.jp_match.proofs.Steps.EndParts.{joined_nil}
use Rattle.jp_match.proofs.Steps.StepParts.{joined_cons, rest_none}
use Rattle.jp_match.proofs.Texts.Scanning.{suffix_cons, later_suffix, nil_suffix}

pub never_class : (negated : Bool) (items : List ClassElement) (c : ℕ)
    → class_holds negated items c ≡ false → NeverBegins (Language (class negated items)) c
never_class negated items c fails = record {
  not_empty = λ h. absurd (let e = h.2 in cc);
  not_first = λ rest h.
      let (d, holds, is) = h in
      let same : d ≡ c = cc in
      absurd (let held = subst (λ x. class_holds negated items x ≡ true) same holds in cc);
}

pub never_either : (a b : Tree) (c : ℕ) → NeverBegins (Language a) c → NeverBegins (Language b) c
    → NeverBegins (Language (either a b)) c
never_either a b c left right = record {
  not_empty = λ h. elim h [ inl l ↦ left.not_empty l | inr r ↦ right.not_empty r ];
  not_first = λ rest h. elim h [
    | inl l ↦ left.not_first rest l
    | inr r ↦ right.not_first rest r
  ];
}

pub never_sequence : (a b : Tree) (c : ℕ) → NeverBegins (Language a) c
    → NeverBegins (Language (sequence a b)) c
never_sequence a b c never = record {
  not_empty = λ h. never.not_empty (joined_nil {L = Language a} {M = Language b} h).0;
  not_first = λ rest h. elim (joined_cons {L = Language a} {M = Language b} h) [
    | inl empty ↦ never.not_empty empty.0
    | inr j ↦ never.not_first j.prefix j.first
  ];
}

power_not_empty : (L : List ℕ → Type 0) (c k : ℕ) → NeverBegins L c → 1 ≤ k → Power L k [] → ⊥
power_not_empty L c zero never some h = omega (arith, some)
power_not_empty L c (suc k) never some h = never.not_empty (joined_nil {L = L} {M = Power L k} h).0

power_not_first : (L : List ℕ → Type 0) (c k : ℕ) (rest : List ℕ) → NeverBegins L c → 1 ≤ k
    → Power L k (c ∷ rest) → ⊥
power_not_first L c zero rest never some h = omega (arith, some)
power_not_first L c (suc k) rest never some h = elim (joined_cons {L = L} {M = Power L k} h) [
  | inl empty ↦ never.not_empty empty.0
  | inr j ↦ never.not_first j.prefix j.first
]

pub never_repeat : (a : Tree) (least : ℕ) (most : Option ℕ) (c : ℕ) → 1 ≤ least
    → NeverBegins (Language a) c → NeverBegins (Language (repeat a least most)) c
never_repeat a least most c some never = record {
  not_empty = λ h. let (k, enough, within, power) = h in
      power_not_empty (Language a) c k never (omega (arith, some, enough)) power;
  not_first = λ rest h. let (k, enough, within, power) = h in
      power_not_first (Language a) c k rest never (omega (arith, some, enough)) power;
}

-- a scan without marks stays as it is over such a character
pub left_stays : (t : Tree) (anywhere start : Bool) (row : List Bool) (c : ℕ) → anywhere ≡ true
    → start ≡ true → ((k : ℕ) → IsTrue (get_or row k false) → ⊥) → NeverBegins (Language t) c
    → (w : List ℕ) → (Rest (unrolled t) row w ⊎ (IsTrue start × Sought t anywhere w)) ↔
    (Rest (unrolled t) row (c ∷ w) ⊎ (IsTrue start × Sought t anywhere (c ∷ w)))
left_stays t false start row c is begun none never w = absurd (cc)
left_stays t true false row c is begun none never w = absurd (cc)
left_stays t true true row c is begun none never w = (
  λ e. elim e [
    | inl r ↦ absurd (rest_none (unrolled t) row w none r)
    | inr s ↦ inr (refl, later_suffix (Language t) c w s.1)
  ],
  λ e. elim e [
    | inl r ↦ absurd (rest_none (unrolled t) row (c ∷ w) none r)
    | inr s ↦ elim (suffix_cons (Language t) c w s.1) [
      | inl l ↦ absurd (never.not_first w l)
      | inr l ↦ inr (refl, l)
    ]
  ],
)

-- and does not accept
pub left_never : (t : Tree) (anywhere start : Bool) (row : List Bool) (c : ℕ) → anywhere ≡ true
    → ((k : ℕ) → IsTrue (get_or row k false) → ⊥) → NeverBegins (Language t) c
    → (Rest (unrolled t) row [] ⊎ (IsTrue start × Sought t anywhere [])) → ⊥
left_never t false start row c is none never e = absurd (cc)
left_never t true start row c is none never (inl r) = rest_none (unrolled t) row [] none r
left_never t true start row c is none never (inr s) = never.not_empty (nil_suffix (Language t) s.1)

-- a row of false has no mark
pub none_in : (n k : ℕ) → IsTrue (get_or (replicate n false) k false) → ⊥
none_in zero k h = cc
none_in (suc n) zero h = cc
none_in (suc n) (suc k) h = none_in n k h
