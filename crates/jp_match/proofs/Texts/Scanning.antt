-- What a step leaves of what a scan accepts.
use Rattle.std.proofs.Common.{◌≡◌, ◌↔◌, ◌⊎◌, inl, inr, ℕ, Bool, true, false, ◌&&◌, List, [], ◌∷◌}
use Rattle.std.proofs.Common.{◌++◌, get_or, refl, sym, ap, subst}
use Rattle.std.specs.Bool.{IsTrue}
use Rattle.jp_iregexp.specs.Tree.{Tree}
use Rattle.jp_iregexp.specs.Language.{Language}
use Rattle.jp_match.specs.Scan.{HasSuffix, Sought}
use Rattle.jp_match.specs.Private.Plain.{unrolled}
use Rattle.jp_match.specs.Private.Marks.{Rest, Ends, Steps}
use Rattle.jp_match.proofs.Steps.StepParts.{rest_none}
use Rattle.jp_match.proofs.Steps.Unrolled.{unrolled-words}

-- a suffix of a word is the word, or one of what is after its first character
pub suffix_cons : (L : List ℕ → Type 0) (c : ℕ) (w : List ℕ) → HasSuffix L (c ∷ w)
    → L (c ∷ w) ⊎ HasSuffix L w
suffix_cons L c w h = parts h.before h.suffix h.is h.holds where
  parts : (before suffix : List ℕ) → c ∷ w ≡ before ++ suffix → L suffix → L (c ∷ w) ⊎ HasSuffix L w
  parts [] suffix is holds = inl (subst L (sym is) holds)
  parts (x ∷ before) suffix is holds = let rest : w ≡ before ++ suffix = cc in
      inr (record { before = before; suffix = suffix; is = rest; holds = holds })

whole_suffix : (L : List ℕ → Type 0) (w : List ℕ) → L w → HasSuffix L w
whole_suffix L w h = record { before = []; suffix = w; is = refl; holds = h }

pub later_suffix : (L : List ℕ → Type 0) (c : ℕ) (w : List ℕ) → HasSuffix L w → HasSuffix L (c ∷ w)
later_suffix L c w h = record {
  before = c ∷ h.before;
  suffix = h.suffix;
  is = ap (λ v. c ∷ v)
      h.is;
  holds = h.holds;
}

pub nil_suffix : (L : List ℕ → Type 0) → HasSuffix L [] → L []
nil_suffix L h = parts h.before h.suffix h.is h.holds where
  parts : (before suffix : List ℕ) → [] ≡ before ++ suffix → L suffix → L []
  parts [] suffix is holds = subst L (sym is) holds
  parts (x ∷ before) suffix is holds = absurd (cc)

pub left_step : (t : Tree) (anywhere start : Bool) (c : ℕ) (before after : List Bool) (ended :
    Bool) → Steps (unrolled t) c start before after ended → (w : List ℕ)
    → (Rest (unrolled t) after w ⊎ (IsTrue (start && anywhere) × Sought t anywhere w)) ↔ (Rest
    (unrolled t) before (c ∷ w) ⊎ (IsTrue start × Sought t anywhere (c ∷ w)))
left_step t false start c before after ended h w = (
  λ e. elim e [
    | inl r ↦ elim ((h.left w).0 r) [
      | inl s ↦ inl s
      | inr s ↦ inr (
        s.0,
        (unrolled-words t (c ∷ w)).0 s.1,
      )
    ]
    | inr s ↦ absurd (never start s.0)
  ],
  λ e. inl ((h.left w).1 (elim e [
    | inl r ↦ inl r
    | inr s ↦ inr (
      s.0,
      (unrolled-words t (c ∷ w)).1 s.1,
    )
  ])),
) where
  never : (b : Bool) → IsTrue (b && false) → ⊥
  never true e = cc
  never false e = cc
left_step t true true c before after ended h w = (
  λ e. elim e [
    | inl r ↦ elim ((h.left w).0 r) [
      | inl s ↦ inl s
      | inr s ↦ inr (
        refl,
        whole_suffix (Language t) (c ∷ w) ((unrolled-words t (c ∷ w)).0 s.1),
      )
    ]
    | inr s ↦ inr (refl, later_suffix (Language t) c w s.1)
  ],
  λ e. elim e [
    | inl r ↦ inl ((h.left w).1 (inl r))
    | inr s ↦ elim (suffix_cons (Language t) c w s.1) [
      | inl l ↦ inl ((h.left w).1 (inr (refl, (unrolled-words t (c ∷ w)).1 l)))
      | inr l ↦ inr (refl, l)
    ]
  ],
)
left_step t true false c before after ended h w = (
  λ e. elim e [
    | inl r ↦ elim ((h.left w).0 r) [ inl s ↦ inl s | inr s ↦ absurd (let f = s.0 in cc) ]
    | inr s ↦ absurd (let f = s.0 in cc)
  ],
  λ e. elim e [ inl r ↦ inl ((h.left w).1 (inl r)) | inr s ↦ absurd (let f = s.0 in cc) ],
)

sought_nil : (t : Tree) (anywhere : Bool) → Sought t anywhere [] ↔ Language t []
sought_nil t false = (λ h. h, λ h. h)
sought_nil t true = (nil_suffix (Language t), whole_suffix (Language t) [])

pub left_ends : (t : Tree) (anywhere start : Bool) (row : List Bool) (ended : Bool)
    → Ends (unrolled t) start row ended
    → IsTrue ended ↔ (Rest (unrolled t) row [] ⊎ (IsTrue start × Sought t anywhere []))
left_ends t anywhere start row ended h = (
  λ e. elim (h.is.0 e) [
    | inl r ↦ inl r
    | inr s ↦ inr (
      s.0,
      (sought_nil t anywhere).1 ((unrolled-words t []).0 s.1),
    )
  ],
  λ e. h.is.1 (elim e [
    | inl r ↦ inl r
    | inr s ↦ inr (
      s.0,
      (unrolled-words t []).1 ((sought_nil t anywhere).0 s.1),
    )
  ]),
)

pub left_first : (t : Tree) (anywhere : Bool) (row : List Bool) → ((k : ℕ)
    → IsTrue (get_or row k false) → ⊥) → (w : List ℕ)
    → (Rest (unrolled t) row w ⊎ (IsTrue true × Sought t anywhere w)) ↔ Sought t anywhere w
left_first t anywhere row none w = (
  λ e. elim e [
    | inl r ↦ absurd (rest_none (unrolled t) row w none
        r)
    | inr s ↦ s.1
  ],
  λ e. inr (refl, e),
)
