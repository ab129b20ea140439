-- The rules of slices take exactly the texts that the grammar says, with the blanks after them.
use Rattle.std.proofs.Common.{ℕ, Bool, [], ◌∷◌, ◌++◌, Option, Some, None, refl, ap, ◌∙◌}
use Rattle.std.specs.Prelude.{codes, pos}
use Rattle.jp_reading.specs.Texts.{Text, is_blank}
use Rattle.jp_reading.specs.Forms.{Form, ◌⌢◌, word, Blank, Component, Omitted, AllPassing}
use Rattle.jp_reading.proofs.States.Between.{Within}
use Rattle.jp_reading.proofs.Forms.Levels.{Only, Made}
use Rattle.jp_reading.proofs.Forms.Joining.{before-within}
use Rattle.jp_reading.proofs.Forms.Same.{Same, same, back, ways, ◌⨾◌, after, before, either, only}
use Rattle.jp_reading.proofs.Forms.Same.{made}
use Rattle.jp_reading.proofs.Forms.Same.{component, assoc, nothing-before, after-either}
use Rattle.jp_reading.proofs.Forms.Same.{either-before}
use Rattle.jp_reading.proofs.Forms.Same.{after-only, only-before, after-value, made-before}
use Rattle.jp_reading.proofs.Forms.Same.{then-made}
use Rattle.jp_reading.proofs.Rules.Form.{Either, left, right, Inside, form}
use Rattle.jp_tree.specs.declared.tree.Numeral.{Numeral}
use Rattle.jp_tree.specs.declared.tree.Numeral.TheVariants.{Whole}
use Rattle.jp_tree.specs.declared.tree.Slice.{Slice}
use Rattle.jp_query.specs.Ints.{Int}
use Rattle.jp_query.specs.Slices.{Bound, no_bound, bound, SliceStep, no_step, empty_step}
use Rattle.jp_query.specs.Slices.{given_step}
use Rattle.jp_query.specs.Private.Rules.{nesting, slice_of}
use Rattle.jp_query.specs.Private.Rules as rule
use Rattle.jp_query.proofs.Forms.Numbers.{int-same}

-- ---- blanks

pub all-append : (ok : ℕ → Bool) (t u : Text) → AllPassing ok t → AllPassing ok u
    → AllPassing ok (t ++ u)
all-append ok [] u f g = g
all-append ok (c ∷ t) u f g = (f.0, all-append ok t u f.1 g)

pub blank-before : (P : Form) → Within P (Blank ⌢ P)
blank-before P s o t h =
    before-within (word []) Blank P (λ v i u w. record { none = w.none; blank = rw w.is tt }) s o t
    ((nothing-before {P = P}).from s o t h)

-- blanks around an omitted component may all come after it
blanks-omitted : Same (Blank ⌢ Omitted ⌢ Blank) (Omitted ⌢ Blank)
blanks-omitted = record {
  to = λ s o t h. record {
    first_spans = None ∷ [];
    second_spans = [];
    first = [];
    second = h.first ++ h.two.second;
    spans = h.spans ∙ rw (h.one.none, h.two.spans, h.two.one.spans, h.two.two.none) refl;
    is = h.is ∙ rw (h.two.is, h.two.one.is) refl;
    one = record { spans = refl; is = refl };
    two = record {
      none = refl;
      blank = all-append is_blank h.first h.two.second h.one.blank h.two.two.blank;
    };
  };
  from = blank-before (Omitted ⌢ Blank);
}

-- a bound, or none
pub bound-ways : (x : Option Numeral)
    → Same (Either (Made Some (λ i. Component (Int i) ⌢ Blank) x) (Only None (word []) x)) (Bound x)
bound-ways x = record {
  to = ways (λ s o t h. bound h.part h.same h.is) (λ s o t h. no_bound h.same h.is);
  from = λ s o t h. elim h [
    | bound i e g ↦ left (record { part = i; same = e; is = g })
    | no_bound e g ↦ right (record { same = e; is = g })
  ];
}

-- a slice from its first colon on, and the blanks after it
abbrev pub FromColon : Slice → Form
FromColon y = word (codes ":") ⌢ Blank ⌢ Bound y.end ⌢ SliceStep y.step ⌢ Blank

module _ (F : Inside nesting) where
  pub int_component-same : (x : Numeral) → Same (Component (form F rule.int x)) (Component (Int x))
  int_component-same x = component (int-same F x)

  -- ---- steps

  step-ways : (x : Numeral)
      → Same (Either (word (codes ":") ⌢ form F rule.later_step x) (Only (Whole (pos 1)) Omitted x))
      (SliceStep x)
  unfolding rule.later_step
  step-ways x =
      either (after-either ⨾ either (after (after (int_component-same x))) after-only) same
      ⨾ record {
        to = ways (ways (λ s o t. given_step) (λ s o t h. empty_step h.same h.is))
            (λ s o t h. no_step h.same h.is);
        from = λ s o t h. elim h [
          | given_step g ↦ left (left g)
          | empty_step e g ↦ left (right (record { same = e; is = g }))
          | no_step e g ↦ right (record { same = e; is = g })
        ];
      }

  -- an omitted step may have blanks before it
  omitted-same : (x y : Numeral)
      → Same (Only y Omitted x ⌢ Blank) (Blank ⌢ Only y Omitted x ⌢ Blank)
  omitted-same x y =
      only-before ⨾ only (back blanks-omitted) ⨾ back after-only ⨾ after (back only-before)

  step-same : (x : Numeral) → Same (form F rule.step x ⌢ Blank) (Blank ⌢ SliceStep x ⌢ Blank)
  unfolding rule.step
  step-same x =
      either-before
      ⨾ either assoc (omitted-same x (Whole (pos 1)))
      ⨾ back after-either
      ⨾ after (back either-before ⨾ before (step-ways x))

  -- ---- bounds

  bound-same : (x : Option Numeral) → Same (form F rule.bound x ⌢ Blank) (Blank ⌢ Bound x)
  unfolding rule.bound
  bound-same x =
      either-before
      ⨾ either (assoc ⨾ after (before (made int_component-same) ⨾ made-before))
      (only-before ⨾ only nothing-before ⨾ back after-value)
      ⨾ back after-either
      ⨾ after (bound-ways x)

  -- ---- from the first colon on

  slice-parts : (start : Option Numeral) (G : Option Numeral → Numeral → Form) (y : Slice)
      → Same (Made (λ (p : Option Numeral × Numeral). slice_of start p.0 p.1) (λ p. G p.0 p.1) y)
      (Only start (G y.end y.step) y.start)
  slice-parts start G y = record {
    to = λ s o t h. rw h.same (record { same = refl; is = h.is });
    from = λ s o t h. record {
      part = (y.end, y.step);
      same = ap (λ (x : Option Numeral). slice_of x y.end y.step) h.same;
      is = h.is;
    };
  }

  pub slice-same : (start : Option Numeral) (y : Slice)
      → Same (form F (rule.slice_from start) y ⌢ Blank) (Only start (FromColon y) y.start)
  unfolding rule.slice_from
  slice-same start y =
      before
      (after (then-made ⨾ slice-parts start (λ e d. form F rule.bound e ⌢ form F rule.step d) y)
      ⨾ after-only)
      ⨾ only-before
      ⨾ only (assoc ⨾ after (assoc
      ⨾ after (step-same y.step)
      ⨾ back assoc
      ⨾ before (bound-same y.end)
      ⨾ assoc))
