-- A step over one character, part by part.
use Rattle.std.proofs.Common.{◌≡◌, ◌↔◌, ◌⊎◌, inl, inr, ℕ, zero, suc, ◌+◌, ◌≤◌, ◌<◌, Bool, true}
use Rattle.std.proofs.Common.{false}
use Rattle.std.proofs.Common.{◌||◌, ◌&&◌, List, [], ◌∷◌, ◌++◌, drop, get_or, sym, ap}
use Rattle.std.proofs.Common.{◌∙◌, subst, arith}
use Rattle.std.specs.Bool.{IsTrue}
use Rattle.std.proofs.lemmas.List.{get_or-drop}
use Rattle.jp_iregexp.specs.declared.class.ClassElement.{ClassElement}
use Rattle.jp_iregexp.specs.Class.{class_holds}
use Rattle.jp_iregexp.specs.Language.{Concatenation, Power}
use Rattle.jp_match.specs.Private.Plain.{Plain, Words, class, nothing, either, empty, sequence}
use Rattle.jp_match.specs.Private.Plain.{plus}
use Rattle.jp_match.specs.Private.Marks.{Star, size, Rest, Ends, Steps}
use Rattle.jp_match.proofs.Bools.{and_is}
use Rattle.jp_match.proofs.Steps.EndParts.{ends_class, ends_empty, ends_nothing, ends_either}
use Rattle.jp_match.proofs.Steps.EndParts.{ends_sequence, ends_plus, joined_by, nil_before}

-- a word that begins with a character is joined so that the first part is empty or begins with it
pub joined_cons : {L M : List ℕ → Type 0} {c : ℕ} {w : List ℕ} → Concatenation L M (c ∷ w)
    → (L [] × M (c ∷ w)) ⊎ Concatenation (λ v. L (c ∷ v)) M w
joined_cons {L} {M} {c} {w} j = parts j.prefix j.suffix j.is j.first j.second where
  parts : (prefix suffix : List ℕ) → c ∷ w ≡ prefix ++ suffix → L prefix → M suffix
      → (L [] × M (c ∷ w)) ⊎ Concatenation (λ v. L (c ∷ v)) M w
  parts [] suffix is first second = inl (first, subst M (sym is) second)
  parts (x ∷ prefix) suffix is first second =
      let head : c ≡ x = cc in
      let tail : w ≡ prefix ++ suffix = cc in
      inr (record {
        prefix = prefix;
        suffix = suffix;
        is = tail;
        first = subst (λ d. L (d ∷ prefix)) (sym head) first;
        second = second;
      })

pub cons_joined : {L M : List ℕ → Type 0} {c : ℕ} {w : List ℕ}
    → Concatenation (λ v. L (c ∷ v)) M w → Concatenation L M (c ∷ w)
cons_joined {c} j = record {
  prefix = c ∷ j.prefix;
  suffix = j.suffix;
  is = ap (λ v. c ∷ v) j.is;
  first = j.first;
  second = j.second;
}

-- words that together begin with a character: the first that is not empty begins with it
pub power_cons : (L : List ℕ → Type 0) (k c : ℕ) (w : List ℕ) → Power L k (c ∷ w)
    → Concatenation (λ v. L (c ∷ v)) (Star L) w
power_cons L zero c w h = absurd (cc)
power_cons L (suc k) c w h = elim (joined_cons {L = L} {M = Power L k} h) [
  | inl none ↦ power_cons L k c w none.1
  | inr j ↦ joined_by j j.first (k, j.second)
]

pub step_class : {negated : Bool} {items : List ClassElement} {c : ℕ} {entered : Bool} {before after :
    List Bool} → get_or after 0 false ≡ (entered && class_holds negated items c)
    → Steps (class negated items) c entered before after (get_or before 0 false)
step_class {negated} {items} {c} {entered} is = record {
  left = λ word. (
    λ h. let t = (and_is entered (class_holds negated items c)).0 (sym is ∙ h.0) in
        inr (t.0, (c, t.1, ap (λ w. c ∷ w) h.1)),
    λ h. elim h [
      | inl x ↦ absurd (let e = x.1 in cc)
      | inr y ↦
          let (d, holds, one) = y.1 in
          let same : d ≡ c = cc in
          let none : word ≡ [] = cc in (
            is ∙ (and_is entered (class_holds negated items c)).1 (
              y.0,
              subst (λ x. class_holds negated items x ≡ true) same holds,
            ),
            none,
          )
    ],
  );
  ends = ends_class;
}

pub step_empty : {c : ℕ} {entered : Bool} {before after : List Bool}
    → Steps empty c entered before after entered
step_empty = record {
  left = λ word. (
    λ h. absurd h,
    λ h. elim h [ inl x ↦ absurd x | inr y ↦ absurd (let e = y.1 in cc) ],
  );
  ends = ends_empty;
}

pub step_nothing : {c : ℕ} {entered : Bool} {before after : List Bool}
    → Steps nothing c entered before after false
step_nothing = record {
  left = λ word. (λ h. absurd h, λ h. elim h [ inl x ↦ absurd x | inr y ↦ absurd y.1 ]);
  ends = ends_nothing;
}

pub step_either : {a b : Plain} {c : ℕ} {entered : Bool} {before after : List Bool} {p q : Bool}
    → Steps a c entered before after p
    → Steps b c entered (drop (size a) before) (drop (size a) after) q
    → Steps (either a b) c entered before after (p || q)
step_either ha hb = record {
  left = λ word. (
    λ h. elim h [
      | inl r ↦ elim ((ha.left word).0 r) [ inl s ↦ inl (inl s) | inr w ↦ inr (w.0, inl w.1) ]
      | inr r ↦ elim ((hb.left word).0 r) [ inl s ↦ inl (inr s) | inr w ↦ inr (w.0, inr w.1) ]
    ],
    λ h. elim h [
      | inl r ↦ elim r [
        | inl s ↦ inl ((ha.left word).1 (inl s))
        | inr s ↦ inr ((hb.left word).1 (inl s))
      ]
      | inr w ↦ elim w.1 [
        | inl s ↦ inl ((ha.left word).1 (inr (w.0, s)))
        | inr s ↦ inr ((hb.left word).1 (inr (w.0, s)))
      ]
    ],
  );
  ends = ends_either ha.ends hb.ends;
}

pub step_sequence : {a b : Plain} {c : ℕ} {entered : Bool} {before after : List Bool} {p q : Bool}
    → Steps a c entered before after p → Steps b c p (drop (size a) before) (drop (size a) after) q
    → Steps (sequence a b) c entered before after q
step_sequence ha hb = record {
  left = λ word. (
    λ h. elim h [
      | inl j ↦ elim ((ha.left j.prefix).0 j.first) [
        | inl s ↦ inl (inl (cons_joined (joined_by j s j.second)))
        | inr w ↦ inr (w.0, cons_joined (joined_by j w.1 j.second))
      ]
      | inr r ↦ elim ((hb.left word).0 r) [
        | inl s ↦ inl (inr s)
        | inr w ↦ elim (ha.ends.is.0 w.0) [
          | inl s ↦ inl (inl (nil_before s w.1))
          | inr v ↦ inr (v.0, nil_before v.1 w.1)
        ]
      ]
    ],
    λ h. elim h [
      | inl r ↦ elim r [
        | inl j ↦ elim (joined_cons j) [
          | inl n ↦ inr ((hb.left word).1 (inr (ha.ends.is.1 (inl n.0), n.1)))
          | inr k ↦ inl (joined_by k ((ha.left k.prefix).1 (inl k.first)) k.second)
        ]
        | inr s ↦ inr ((hb.left word).1 (inl s))
      ]
      | inr w ↦ elim (joined_cons w.1) [
        | inl n ↦ inr ((hb.left word).1 (inr (ha.ends.is.1 (inr (w.0, n.0)), n.1)))
        | inr k ↦ inl (joined_by k ((ha.left k.prefix).1 (inr (w.0, k.first))) k.second)
      ]
    ],
  );
  ends = ends_sequence ha.ends hb.ends;
}

-- a round may begin where the repeat is entered or where a round has ended
pub step_plus : {a : Plain} {c : ℕ} {entered again : Bool} {before after : List Bool} {p : Bool}
    → IsTrue again ↔ (IsTrue entered ⊎ Rest a before []) → Steps a c again before after p
    → Steps (plus a) c entered before after p
step_plus {a} {c} {entered} {again} {before} {after} {p} may ha = record {
  left = λ word. (
    λ j. elim ((ha.left j.prefix).0 j.first) [
      | inl s ↦ inl (cons_joined (joined_by j s j.second))
      | inr w ↦
          let (k, more) = j.second in
          let words : Concatenation (Words a) (Power (Words a) k) (c ∷ word) = cons_joined (record {
            prefix = j.prefix;
            suffix = j.suffix;
            is = j.is;
            first = w.1;
            second = more;
          }) in
          elim (may.0 w.0) [
            | inl e ↦ inr (e, (k, words))
            | inr r ↦ inl (nil_before r (suc k, words))
          ]
    ],
    λ h. elim h [
      | inl j ↦ elim (joined_cons j) [
        | inl n ↦ round word (may.1 (inr n.0)) n.1.0 n.1.1
        | inr k ↦ joined_by k ((ha.left k.prefix).1 (inl k.first)) k.second
      ]
      | inr w ↦ round word (may.1 (inl w.0)) (suc w.1.0) w.1.1
    ],
  );
  ends = ends_plus (record {
    is = (
      λ t. elim (ha.ends.is.0 t) [
        | inl r ↦ inl r
        | inr w ↦ elim (may.0 w.0) [ inl e ↦ inr (e, w.1) | inr r ↦ inl r ]
      ],
      λ t. ha.ends.is.1 (elim t [ inl r ↦ inl r | inr w ↦ inr (may.1 (inl w.0), w.1) ]),
    );
  });
} where
  round : (word : List ℕ) → IsTrue again → (k : ℕ) → Power (Words a) k (c ∷ word)
      → Rest (plus a) after word
  round word e k words =
      let j = power_cons (Words a) k c word words in
      joined_by j ((ha.left j.prefix).1 (inr (e, j.first))) j.second

pub none_dropped : (n : ℕ) (marks : List Bool) → ((k : ℕ) → IsTrue (get_or marks k false) → ⊥)
    → (k : ℕ) → IsTrue (get_or (drop n marks) k false) → ⊥
none_dropped n marks none k h = none (n + k) (sym (get_or-drop n marks k false) ∙ h)

-- no mark leads anywhere
pub rest_none : (a : Plain) (marks : List Bool) (word : List ℕ) → ((k : ℕ)
    → IsTrue (get_or marks k false) → ⊥) → Rest a marks word → ⊥
rest_none (class negated items) marks word none r = none 0 r.0
rest_none nothing marks word none r = r
rest_none (either a b) marks word none (inl r) = rest_none a marks word none r
rest_none (either a b) marks word none (inr r) = rest_none b (drop (size a) marks) word
    (none_dropped (size a) marks none) r
rest_none empty marks word none r = r
rest_none (sequence a b) marks word none (inl r) = rest_none a marks r.prefix none
    r.first
rest_none (sequence a b) marks word none (inr r) = rest_none b (drop (size a) marks) word
    (none_dropped (size a) marks none) r
rest_none (plus a) marks word none r = rest_none a marks r.prefix none r.first

-- where no mark is and the pattern is not entered, nothing happens
pub step_nowhere : (a : Plain) (c : ℕ) (marks : List Bool) → ((k : ℕ)
    → IsTrue (get_or marks k false) → ⊥) → Steps a c false marks marks false
step_nowhere a c marks none = record {
  left = λ word. (
    λ h. absurd (rest_none a marks word none h),
    λ h. elim h [
      | inl r ↦ absurd (rest_none a marks (c ∷ word) none r)
      | inr w ↦ absurd (let e = w.0 in cc)
    ],
  );
  ends = record {
    is = (
      λ h. absurd (cc),
      λ h. elim h [
        | inl r ↦ absurd (rest_none a marks [] none r)
        | inr w ↦ absurd (let e = w.0 in cc)
      ],
    );
  };
}

no_sum : (m n : ℕ) → m + n ≡ 0 → (m ≡ 0) × (n ≡ 0)
no_sum m n h = (omega arith, omega arith)

power_of_nil : (L : List ℕ → Type 0) → ((w : List ℕ) → L w → w ≡ []) → (k : ℕ) (w : List ℕ)
    → Power L k w → w ≡ []
power_of_nil L only zero w h = h
power_of_nil L only (suc k) w h = h.is ∙ ap (λ v. v ++ h.suffix) (only h.prefix h.first) ∙
    power_of_nil L only k h.suffix h.second

-- without positions there is no word but the empty one
pub only_nil : (a : Plain) → size a ≡ 0 → (w : List ℕ) → Words a w → w ≡ []
only_nil (class negated items) none w h = absurd (omega (arith, none))
only_nil nothing none w h = absurd h
only_nil (either a b) none w (inl h) = only_nil a (no_sum (size a) (size b) none).0 w h
only_nil (either a b) none w (inr h) = only_nil b (no_sum (size a) (size b) none).1 w h
only_nil empty none w h = h
only_nil (sequence a b) none w h =
    h.is ∙ ap (λ v. v ++ h.suffix) (only_nil a (no_sum (size a) (size b) none).0 h.prefix h.first) ∙
    only_nil b (no_sum (size a) (size b) none).1 h.suffix h.second
only_nil (plus a) none w h = power_of_nil (Words a) (only_nil a none) (suc h.0) w h.1

-- without positions no mark leads anywhere
pub rest_without : (a : Plain) (marks : List Bool) (word : List ℕ) → size a ≡ 0
    → Rest a marks word → ⊥
rest_without (class negated items) marks word none r = absurd (omega (arith, none))
rest_without nothing marks word none r = r
rest_without (either a b) marks word none (inl r) =
    rest_without a marks word (no_sum (size a) (size b) none).0 r
rest_without (either a b) marks word none (inr r) =
    rest_without b (drop (size a) marks) word (no_sum (size a) (size b) none).1 r
rest_without empty marks word none r = r
rest_without (sequence a b) marks word none (inl r) =
    rest_without a marks r.prefix (no_sum (size a) (size b) none).0 r.first
rest_without (sequence a b) marks word none (inr r) =
    rest_without b (drop (size a) marks) word (no_sum (size a) (size b) none).1 r
rest_without (plus a) marks word none r = rest_without a marks r.prefix none r.first

-- the end is then reached by the empty word alone
pub ends_without : {a : Plain} {entered : Bool} {marks : List Bool} {p : Bool} → size a ≡ 0
    → IsTrue p ↔ (IsTrue entered × Words a []) → Ends a entered marks p
ends_without {a} {marks} none is = record {
  is = (
    λ h. inr (is.0 h),
    λ h. elim h [ inl r ↦ absurd (rest_without a marks [] none r) | inr w ↦ is.1 w ],
  );
}

pub without_ends : {a : Plain} {entered : Bool} {marks : List Bool} {p : Bool} → size a ≡ 0
    → Ends a entered marks p → IsTrue p ↔ (IsTrue entered × Words a [])
without_ends {a} {marks} none ends = (
  λ h. elim (ends.is.0 h) [ inl r ↦ absurd (rest_without a marks [] none r) | inr w ↦ w ],
  λ w. ends.is.1 (inr w),
)

-- and a step takes nothing
pub step_without : {a : Plain} {c : ℕ} {entered : Bool} {before after : List Bool} {p : Bool}
    → size a ≡ 0 → Ends a entered before p → Steps a c entered before after p
step_without {a} {c} {before} {after} none ends = record {
  left = λ word. (
    λ h. absurd (rest_without a after word none h),
    λ h. elim h [
      | inl r ↦ absurd (rest_without a before (c ∷ word) none r)
      | inr w ↦ absurd (let e = only_nil a none (c ∷ word) w.1 in cc)
    ],
  );
  ends = ends;
}

-- the first marks are the same
pub record IsSameBefore (n : ℕ) (marks others : List Bool) : Type 0 where
  pub each : (k : ℕ) → k < n → get_or marks k false ≡ get_or others k false

pub same_back : {n : ℕ} {marks others : List Bool} → IsSameBefore n marks others
    → IsSameBefore n others marks
same_back same = record { each = λ k below. sym (same.each k below) }

pub same_fewer : {m n : ℕ} {marks others : List Bool} → IsSameBefore n marks others → m ≤ n
    → IsSameBefore m marks others
same_fewer same few = record { each = λ k below. same.each k (omega (arith, few, below)) }

pub same_dropped : (m n : ℕ) {marks others : List Bool} → IsSameBefore (m + n) marks others
    → IsSameBefore n (drop m marks) (drop m others)
same_dropped m n {marks} {others} same = record {
  each = λ k below. get_or-drop m marks k false ∙ same.each (m + k) (omega arith) ∙
      sym (get_or-drop m others k false);
}

-- what leads to the end is told by the first marks, one for each position
pub rest_same : (a : Plain) {marks others : List Bool} (word : List ℕ)
    → IsSameBefore (size a) marks others → Rest a marks word → Rest a others word
rest_same (class negated items) word same r = (sym (same.each 0 (omega arith)) ∙ r.0, r.1)
rest_same nothing word same r = r
rest_same (either a b) word same (inl r) = inl (rest_same a word (same_fewer same (omega arith)) r)
rest_same (either a b) word same (inr r) =
    inr (rest_same b word (same_dropped (size a) (size b) same) r)
rest_same empty word same r = r
rest_same (sequence a b) word same (inl r) =
    inl (joined_by r (rest_same a r.prefix (same_fewer same (omega arith)) r.first) r.second)
rest_same (sequence a b) word same (inr r) =
    inr (rest_same b word (same_dropped (size a) (size b) same) r)
rest_same (plus a) word same r = joined_by r (rest_same a r.prefix same r.first) r.second

pub ends_same : {a : Plain} {entered : Bool} {marks others : List Bool} {p : Bool}
    → IsSameBefore (size a) marks others → Ends a entered marks p → Ends a entered others p
ends_same {a} same ends = record {
  is = (
    λ h. elim (ends.is.0 h) [ inl r ↦ inl (rest_same a [] same r) | inr w ↦ inr w ],
    λ h. ends.is.1 (elim h [ inl r ↦ inl (rest_same a [] (same_back same) r) | inr w ↦ inr w ]),
  );
}

pub step_same : {a : Plain} {c : ℕ} {entered : Bool} {before before' after after' : List Bool} {p :
    Bool} → IsSameBefore (size a) before before' → IsSameBefore (size a) after after'
    → Steps a c entered before after p → Steps a c entered before' after' p
step_same {a} {c} same same' step = record {
  left = λ word. (
    λ h. elim ((step.left word).0 (rest_same a word (same_back same') h)) [
      | inl r ↦ inl (rest_same a (c ∷ word) same r)
      | inr w ↦ inr w
    ],
    λ h. rest_same a word same' ((step.left word).1 (elim h [
      | inl r ↦ inl (rest_same a (c ∷ word) (same_back same) r)
      | inr w ↦ inr w
    ])),
  );
  ends = ends_same same step.ends;
}
