-- Patterns whose words have one width: what follows a word in a text, part by part.
use Rattle.std.proofs.Common.{◌≡◌, ◌↔◌, inl, inr, ℕ, zero, suc, ◌+◌, ◌*◌, ◌≤◌, Bool, true, false}
use Rattle.std.proofs.Common.{◌&&◌, nat_eq}
use Rattle.std.proofs.Common.{List, [], ◌∷◌, ◌++◌, length, Option, None, Some, refl, sym, ap}
use Rattle.std.proofs.Common.{subst, ◌∙◌, append_assoc, eq-eqb, arith}
use Rattle.std.specs.Bool.{IsTrue}
use Rattle.std.specs.Option.{is_some, option_map}
use Rattle.std.specs.Str.{chars, encode_utf8_all, IsUtf8}
use Rattle.std.proofs.Math.Nat.{suc-mul}
use Rattle.std.proofs.lemmas.Bool.{eqb-true, and_parts, and_from}
use Rattle.std.proofs.lemmas.List.{append-nil, length-append}
use Rattle.std.proofs.lemmas.Str.{chars-nil, encodes-chars}
use Rattle.jp_iregexp.specs.declared.class.ClassElement.{ClassElement}
use Rattle.jp_iregexp.specs.Class.{class_holds}
use Rattle.jp_iregexp.specs.Tree as tree
use Rattle.jp_iregexp.specs.Tree.{Tree, branches, pieces}
use Rattle.jp_iregexp.specs.Language.{Language, Power, Concatenation, IsAtMost}
use Rattle.jp_match.specs.Part.{HasPart}
use Rattle.jp_match.specs.Private.Beginning.{NeverBegins}
use Rattle.jp_match.specs.Private.OneWidth.{first_width, takes_one_count, has_width, HasOneWidth}
use Rattle.jp_match.specs.Private.OneWidth.{IsWidthOf, IsAlike, IsFollowed, Leaves, cut_first}
use Rattle.jp_match.specs.Private.OneWidth.{HasFirst, HasPrefix}

-- ---- what a width says of the parts

-- two patterns, one after the other, have a width
record SequenceParts (a b : Tree) (width : ℕ) : Type 0 where
  sum : width ≡ first_width a + first_width b
  first : IsTrue (has_width a (first_width a))
  second : IsTrue (has_width b (first_width b))

sequence-parts : (a b : Tree) (width : ℕ) → IsTrue (has_width (tree.sequence a b) width)
    → SequenceParts a b width
sequence-parts a b width is =
    let (sum, both) = and_parts (nat_eq width (first_width a + first_width b))
    (has_width a (first_width a) && has_width b (first_width b)) is in
    let (first, second) = and_parts (has_width a (first_width a)) (has_width b (first_width b))
    both in
    record {
      sum = eqb-true width (first_width a + first_width b) sum;
      first = first;
      second = second;
    }

-- a repeat has a width
record RepeatParts (a : Tree) (least : ℕ) (most : Option ℕ) (width : ℕ) : Type 0 where
  one : most ≡ Some least
  times : width ≡ least * first_width a
  inner : IsTrue (has_width a (first_width a))

one-count : (least : ℕ) (most : Option ℕ) → IsTrue (takes_one_count least most)
    → most ≡ Some least
one-count least None is = absurd (cc)
one-count least (Some most) is = ap Some (sym (eqb-true least most is))

repeat-parts : (a : Tree) (least : ℕ) (most : Option ℕ) (width : ℕ)
    → IsTrue (has_width (tree.repeat a least most) width) → RepeatParts a least most width
repeat-parts a least most width is =
    let (one, both) = and_parts (takes_one_count least most) (nat_eq width (least * first_width a)
    && has_width a (first_width a)) is in
    let (times, inner) = and_parts (nat_eq width (least * first_width a)) (has_width a (first_width
    a)) both in
    record {
      one = one-count least most one;
      times = eqb-true width (least * first_width a) times;
      inner = inner;
    }

pub width-branches : (a : Tree) (others : List Tree) → HasOneWidth (branches (a ∷ others))
    → HasOneWidth (branches others)
width-branches a others is = record {
  width = is.width;
  each = (and_parts (has_width a is.width) (has_width (branches others) is.width) is.each).1;
}

pub width-pieces : (a : Tree) (others : List Tree) → HasOneWidth (pieces (a ∷ others))
    → HasOneWidth (pieces others)
width-pieces a others is = record {
  width = first_width (pieces others);
  each = (sequence-parts a (pieces others) is.width is.each).second;
}

pub width-inner : (a : Tree) (least : ℕ) (most : Option ℕ)
    → HasOneWidth (tree.repeat a least most) → HasOneWidth a
width-inner a least most is = record {
  width = first_width a;
  each = (repeat-parts a least most is.width is.each).inner;
}

pub width-count : (a : Tree) (least : ℕ) (most : Option ℕ)
    → HasOneWidth (tree.repeat a least most) → most ≡ Some least
width-count a least most is = (repeat-parts a least most is.width is.each).one

-- ---- what parts say of a width

pub told-more : (a : Tree) (others : List Tree) (own rest : ℕ) → IsWidthOf a own
    → IsWidthOf (pieces others) rest → IsWidthOf (pieces (a ∷ others)) (own + rest)
told-more a others own rest is are =
    let sum : own + rest ≡ first_width a + first_width (pieces others) = omega (
      arith,
      is.first,
      are.first,
    ) in
    record {
      first = sum;
      each = and_from _ _ (eq-eqb (own + rest) (first_width a + first_width (pieces others)) sum)
          (and_from _ _ (subst (λ n. IsTrue (has_width a n)) is.first is.each)
          (subst (λ n. IsTrue (has_width (pieces others) n)) are.first are.each));
    }

-- ---- the width of words

-- each word of a language has so many characters
abbrev pub AreWide : (List ℕ → Type 0) → ℕ → Type 0
AreWide L width = (word : List ℕ) → L word → length word ≡ width

wide-power : (L : List ℕ → Type 0) (each : ℕ) → AreWide L each → (k : ℕ)
    → AreWide (Power L k) (k * each)
wide-power L each wide zero word h = let e : length word ≡ 0 = ap length h in omega arith
wide-power L each wide (suc k) word h =
    let all = ap length h.is ∙ length-append h.prefix h.suffix in
    let first = wide h.prefix h.first in
    let others = wide-power L each wide k h.suffix h.second in
    omega (arith, all, first, others, suc-mul k each)

pub words-are-wide : (t : Tree) (width : ℕ) → IsTrue (has_width t width)
    → AreWide (Language t) width
words-are-wide (tree.class negated items) width is word h =
    ap length h.2 ∙ sym (eqb-true width 1 is)
words-are-wide tree.nothing width is word h = absurd h
words-are-wide (tree.either a b) width is word (inl h) =
    words-are-wide a width (and_parts (has_width a width) (has_width b width) is).0 word h
words-are-wide (tree.either a b) width is word (inr h) =
    words-are-wide b width (and_parts (has_width a width) (has_width b width) is).1 word h
words-are-wide tree.empty width is word h = ap length h ∙ sym (eqb-true width 0 is)
words-are-wide (tree.sequence a b) width is word h =
    let parts = sequence-parts a b width is in
    let all = ap length h.is ∙ length-append h.prefix h.suffix in
    let left = words-are-wide a (first_width a) parts.first h.prefix h.first in
    let right = words-are-wide b (first_width b) parts.second h.suffix h.second in
    omega (arith, all, left, right, parts.sum)
words-are-wide (tree.repeat a least most) width is word (k, enough, within, words) =
    let parts = repeat-parts a least most width is in
    let above : k ≤ least = subst (λ m. IsAtMost m k) parts.one within in
    let exact : k ≡ least = omega arith in
    wide-power (Language a) (first_width a) (words-are-wide a (first_width a) parts.inner) k word
    words ∙ ap (λ n. n * first_width a) exact ∙ sym parts.times

same-rest : (u v r s : List ℕ) → length u ≡ length v → u ++ r ≡ v ++ s → r ≡ s
same-rest [] [] r s long is = is
same-rest [] (y ∷ v) r s long is = absurd (omega arith)
same-rest (x ∷ u) [] r s long is = absurd (omega arith)
same-rest (x ∷ u) (y ∷ v) r s long is =
    let tails : u ++ r ≡ v ++ s = cc in
    same-rest u v r s (omega arith) tails

pub only-rest : (t : Tree) (width : ℕ) (text r s : List ℕ) → IsTrue (has_width t width)
    → IsFollowed (Language t) text r → IsFollowed (Language t) text s → r ≡ s
only-rest t width text r s is f g = same-rest f.word g.word r s
    (words-are-wide t width is f.word f.holds ∙ sym (words-are-wide t width is g.word g.holds))
    (sym f.is ∙ g.is)

-- ---- classes

pub cut-is : (text : List ℕ) (c : ℕ) (rest : List ℕ) → Some (c, rest) ≡ cut_first text
    → text ≡ c ∷ rest
cut-is [] c rest is = absurd (cc)
cut-is (d ∷ others) c rest is =
    let first : ℕ × List ℕ = (c, rest) in
    let other : ℕ × List ℕ = (d, others) in
    let same : first ≡ other = cc in
    ap (λ (p : ℕ × List ℕ). p.0 ∷ p.1) (sym same)

pub leaves-held : (negated : Bool) (items : List ClassElement) (c : ℕ) (rest : List ℕ)
    → class_holds negated items c ≡ true
    → Leaves (Language (tree.class negated items)) (c ∷ rest) (Some rest)
leaves-held negated items c rest holds = record {
  exactly = λ r. (
    λ f. let e : c ∷ rest ≡ f.holds.0 ∷ r = f.is ∙ ap (λ w. w ++ r) f.holds.2 in cc,
    λ e. record { word = c ∷ []; is = cc; holds = (c, holds, refl) },
  );
}

-- ---- branches

pub leaves-branch : (a b : Tree) (width : ℕ) (text rest : List ℕ)
    → IsTrue (has_width (tree.either a b) width) → Leaves (Language a) text (Some rest)
    → Leaves (Language (tree.either a b)) text (Some rest)
leaves-branch a b width text rest is leaves =
    let here = (leaves.exactly rest).1 refl in
    let chosen : IsFollowed (Language (tree.either a b)) text rest = record {
      word = here.word;
      is = here.is;
      holds = inl here.holds;
    } in
    record {
      exactly = λ r. (
        λ f. ap Some (only-rest (tree.either a b) width text rest r is chosen f),
        λ e. subst (IsFollowed (Language (tree.either a b)) text) (let s : rest ≡ r = cc in s) chosen,
      );
    }

pub leaves-others : (a b : Tree) (text : List ℕ) (left : Option (List ℕ))
    → Leaves (Language a) text None → Leaves (Language b) text left
    → Leaves (Language (tree.either a b)) text left
leaves-others a b text left none others = record {
  exactly = λ r. (
    λ f. elim f.holds [
      | inl h ↦
          let e = (none.exactly r).0 (record { word = f.word; is = f.is; holds = h }) in
          absurd (cc)
      | inr h ↦ (others.exactly r).0 (record { word = f.word; is = f.is; holds = h })
    ],
    λ e.
        let f = (others.exactly r).1 e in
        record { word = f.word; is = f.is; holds = inr f.holds },
  );
}

pub alike-self : (t : Tree) → IsAlike t t
alike-self t = record { same = λ word. (λ h. h, λ h. h); positions = refl; wide = λ w. w }

pub alike-branch : (t : Tree) → IsAlike (branches (t ∷ [])) t
alike-branch t = record {
  same = λ word. (
    λ h. elim h [ inl holds ↦ holds | inr none ↦ absurd none ],
    λ holds. inl holds,
  );
  positions = omega arith;
  wide = λ w. record {
    width = w.width;
    each = (and_parts (has_width t w.width) true w.each).0;
  };
}

pub leaves-alike : (t other : Tree) (text : List ℕ) (left : Option (List ℕ)) → IsAlike t other
    → Leaves (Language other) text left → Leaves (Language t) text left
leaves-alike t other text left alike leaves = record {
  exactly = λ r. (
    λ f. (leaves.exactly r).0 (record {
      word = f.word;
      is = f.is;
      holds = (alike.same f.word).0 f.holds;
    }),
    λ e.
        let f = (leaves.exactly r).1 e in
        record { word = f.word; is = f.is; holds = (alike.same f.word).1 f.holds },
  );
}

-- ---- pieces and repeats

pub leaves-all : (text : List ℕ) → Leaves (λ word. word ≡ []) text (Some text)
leaves-all text = record {
  exactly = λ r. (
    λ f. ap Some (f.is ∙ ap (λ w. w ++ r) f.holds),
    λ e. record { word = []; is = cc; holds = refl },
  );
}

pub leaves-then : (L M : List ℕ → Type 0) (text rest : List ℕ) (left : Option (List ℕ))
    → Leaves L text (Some rest) → Leaves M rest left → Leaves (Concatenation L M) text left
leaves-then L M text rest left first others = record {
  exactly = λ r. (
    λ f.
        let cut = f.is ∙ ap (λ w. w ++ r) f.holds.is
        ∙ append_assoc f.holds.prefix f.holds.suffix r in
        let e = (first.exactly (f.holds.suffix ++ r)).0 (record {
          word = f.holds.prefix;
          is = cut;
          holds = f.holds.first;
        }) in
        let between : rest ≡ f.holds.suffix ++ r = cc in
        (others.exactly r).0 (record {
          word = f.holds.suffix;
          is = between;
          holds = f.holds.second;
        }),
    λ e.
        let f = (first.exactly rest).1 refl in
        let g = (others.exactly r).1 e in
        record {
          word = f.word ++ g.word;
          is = f.is ∙ ap (λ w. f.word ++ w) g.is ∙ sym (append_assoc f.word g.word r);
          holds = record {
            prefix = f.word;
            suffix = g.word;
            is = refl;
            first = f.holds;
            second = g.holds;
          };
        },
  );
}

pub leaves-none : (L M : List ℕ → Type 0) (text : List ℕ) → Leaves L text None
    → Leaves (Concatenation L M) text None
leaves-none L M text none = record {
  exactly = λ r. (
    λ f.
        let cut = f.is ∙ ap (λ w. w ++ r) f.holds.is
        ∙ append_assoc f.holds.prefix f.holds.suffix r in
        let e = (none.exactly (f.holds.suffix ++ r)).0 (record {
          word = f.holds.prefix;
          is = cut;
          holds = f.holds.first;
        }) in
        absurd (cc),
    λ e. absurd (cc),
  );
}

pub leaves-repeat : (a : Tree) (count : ℕ) (text : List ℕ) (left : Option (List ℕ))
    → Leaves (Power (Language a) count) text left
    → Leaves (Language (tree.repeat a count (Some count))) text left
leaves-repeat a count text left leaves = record {
  exactly = λ r. (
    λ f.
        let (k, enough, within, words) = f.holds in
        let exact : k ≡ count = omega arith in
        (leaves.exactly r).0 (record {
          word = f.word;
          is = f.is;
          holds = subst (λ n. Power (Language a) n f.word) exact words;
        }),
    λ e.
        let f = (leaves.exactly r).1 e in
        record {
          word = f.word;
          is = f.is;
          holds = (count, omega arith, omega arith, f.holds);
        },
  );
}

-- ---- whole texts

pub whole-is : (t : Tree) (text : List ℕ) (left : Option (List ℕ)) → Leaves (Language t) text left
    → Language t text ↔ (left ≡ Some [])
whole-is t text left leaves = (
  λ h. (leaves.exactly []).0 (record { word = text; is = sym (append-nil text); holds = h }),
  λ e.
      let f = (leaves.exactly []).1 e in
      subst (Language t) (sym (f.is ∙ append-nil f.word)) f.holds,
)

pub no-chars : (bytes : List ℕ) → IsUtf8 bytes → (length bytes ≡ 0) ↔ (chars bytes ≡ [])
no-chars [] text = (λ e. chars-nil, λ e. refl)
no-chars (b ∷ bytes) text = (
  λ e. absurd (omega arith),
  λ e. ap length (sym (encodes-chars (b ∷ bytes) text) ∙ ap encode_utf8_all e),
)

-- ---- parts of texts

pub prefix-found : {T : Type 0} (L : List ℕ → Type 0) (text : List ℕ) (f : T → List ℕ)
    (found : Option T) → Leaves L text (option_map f found) → is_some found ≡ true
    → HasPrefix L text
prefix-found L text f None leaves is = absurd (cc)
prefix-found L text f (Some rest) leaves is = record {
  rest = f rest;
  follows = (leaves.exactly (f rest)).1 refl;
}

pub no-prefix : {T : Type 0} (L : List ℕ → Type 0) (text : List ℕ) (f : T → List ℕ)
    (found : Option T) → Leaves L text (option_map f found) → is_some found ≡ false
    → HasPrefix L text → ⊥
no-prefix L text f None leaves is h = let e = (leaves.exactly h.rest).0 h.follows in cc
no-prefix L text f (Some rest) leaves is h = cc

never-cut : (L : List ℕ → Type 0) (c : ℕ) (rest word after : List ℕ) → NeverBegins L c
    → c ∷ rest ≡ word ++ after → L word → ⊥
never-cut L c rest [] after never is holds = never.not_empty holds
never-cut L c rest (d ∷ word) after never is holds =
    let same : d ≡ c = cc in
    never.not_first word (subst (λ x. L (x ∷ word)) same holds)

pub never-prefix : (L : List ℕ → Type 0) (c : ℕ) (text : List ℕ) → NeverBegins L c
    → HasFirst c text → HasPrefix L text → ⊥
never-prefix L c text never first h = never-cut L c first.rest h.follows.word h.rest never
    (sym first.is ∙ h.follows.is) h.follows.holds

pub part-here : (L : List ℕ → Type 0) (text : List ℕ) → HasPrefix L text → HasPart L text
part-here L text h = record {
  before = [];
  part = h.follows.word;
  after = h.rest;
  is = h.follows.is;
  holds = h.follows.holds;
}

part-cut : (L : List ℕ → Type 0) (c : ℕ) (rest before part after : List ℕ)
    → c ∷ rest ≡ before ++ (part ++ after) → L part → (HasPrefix L (c ∷ rest) → ⊥)
    → HasPart L rest
part-cut L c rest [] part after is holds none = absurd (none (record {
  rest = after;
  follows = record { word = part; is = is; holds = holds };
}))
part-cut L c rest (d ∷ before) part after is holds none = record {
  before = before;
  part = part;
  after = after;
  is = cc;
  holds = holds;
}

pub part-later : (L : List ℕ → Type 0) (c : ℕ) (rest : List ℕ) → (HasPrefix L (c ∷ rest) → ⊥)
    → HasPart L rest ↔ HasPart L (c ∷ rest)
part-later L c rest none = (
  λ h. record {
    before = c ∷ h.before;
    part = h.part;
    after = h.after;
    is = ap (λ x. c ∷ x) h.is;
    holds = h.holds;
  },
  λ h. part-cut L c rest h.before h.part h.after h.is h.holds none,
)

part-none : (L : List ℕ → Type 0) (before part after : List ℕ) → [] ≡ before ++ (part ++ after)
    → L part → L []
part-none L [] [] after is holds = holds
part-none L [] (c ∷ part) after is holds = absurd (cc)
part-none L (c ∷ before) part after is holds = absurd (cc)

pub part-end : (L : List ℕ → Type 0) → L [] ↔ HasPart L []
part-end L = (
  λ h. record { before = []; part = []; after = []; is = refl; holds = h },
  λ h. part-none L h.before h.part h.after h.is h.holds,
)

pub cut-end : (text : List ℕ) → None ≡ cut_first text → text ≡ []
cut-end [] is = refl
cut-end (c ∷ rest) is = absurd (cc)
