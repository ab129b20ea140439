-- Patterns that have a few words, which are looked for as they are.
use Rattle.std.proofs.Common.{◌≡◌, ◌↔◌, inl, inr, ℕ, zero, suc, ◌+◌, ◌<◌, Bool, true, false}
use Rattle.std.proofs.Common.{List, [], ◌∷◌, ◌++◌, map, take, drop, length, get_or, nat_eq, nat_le}
use Rattle.std.proofs.Common.{◌&&◌, ◌||◌, refl, sym, ap, ◌∙◌, subst, eq-eqb, arith}
use Rattle.std.specs.Bool.{IsTrue}
use Rattle.std.specs.Char.{encode_utf8}
use Rattle.std.specs.List.{list_any, Any, starts_with}
use Rattle.std.specs.Str.{chars, encode_utf8_all, bytes_eq, IsUtf8, IsCharBoundary}
use Rattle.std.specs.Str.Iter.{HasSubslice}
use Rattle.std.proofs.lemmas.Bool.{and_parts, and_from, or_cases, or_left, or_right, leb-true}
use Rattle.std.proofs.lemmas.Bool.{le-leb}
use Rattle.std.proofs.lemmas.Bool.{eqb-true}
use Rattle.std.proofs.lemmas.List.{append-nil, take_at, length-append, map-append, take_more}
use Rattle.std.proofs.lemmas.List.Folds.{Any-from_list_any, list_any_at}
use Rattle.std.proofs.lemmas.Bool.Decides.{Decides-eqb}
use Rattle.std.proofs.lemmas.Slice.Eq.{bytes_eq-Decides, starts_is}
use Rattle.std.proofs.lemmas.Str.{chars-nil, chars-append, encodes-append, encodes-chars}
use Rattle.std.proofs.lemmas.Str.{chars_from_encodes}
use Rattle.std.proofs.lemmas.Str.{IsUtf8-take, IsCharBoundary-start}
use Rattle.jp_iregexp.specs.declared.class.ClassElement.TheVariants.{Range}
use Rattle.jp_iregexp.specs.declared.pattern.Pattern.{Pattern}
use Rattle.jp_iregexp.specs.Class.{class_holds, element_holds}
use Rattle.jp_iregexp.specs.Tree.{Tree, tree, class, sequence, branches, pieces}
use Rattle.jp_iregexp.specs.Language.{Language}
use Rattle.jp_iregexp.specs.Membership.{is_word}
use Rattle.jp_iregexp.proofs.Membership.{words_are_tested}
use Rattle.jp_match.specs.Part.{HasPart}
use Rattle.jp_match.specs.Private.OnlyWords.{IsOnlyWord, AreOnlyWords, HasOnlyWords}
use Rattle.jp_match.specs.Private.OnlyWords.{is_prefix, is_part, alone}
use Rattle.jp_match.specs.Private.Beginning.{AllBegin}

-- ---- one character

range_of_one : (c d : ℕ) → ((nat_le c d && nat_le d c) || false) ≡ true → d ≡ c
range_of_one c d h = elim (or_cases (nat_le c d && nat_le d c) false h) [
  | inl both ↦
      let sides = and_parts (nat_le c d) (nat_le d c) both in
      omega (arith, leb-true c d sides.0, leb-true d c sides.1)
  | inr none ↦ absurd (cc)
]

one_in_range : (c : ℕ) → ((nat_le c c && nat_le c c) || false) ≡ true
one_in_range c =
    let here : nat_le c c ≡ true = le-leb c c (omega arith) in
    or_left (nat_le c c && nat_le c c) false (and_from (nat_le c c) (nat_le c c) here here)

pub only_class : (c : ℕ) → IsOnlyWord (class false (Range c c ∷ [])) (alone c)
unfolding class_holds element_holds
only_class c = record {
  is = λ word. (
    λ h. let (d, holds, is) = h in is ∙ ap (λ x. x ∷ []) (range_of_one c d holds),
    λ is. (c, one_in_range c, is),
  );
}

-- ---- pieces and branches of one word

only_sequence : (a b : Tree) (u v : List ℕ) → IsOnlyWord a u → IsOnlyWord b v
    → IsOnlyWord (sequence a b) (u ++ v)
only_sequence a b u v first second = record {
  is = λ word. (
    λ j.
        let p : j.prefix ≡ u = (first.is j.prefix).0 j.first in
        let s : j.suffix ≡ v = (second.is j.suffix).0 j.second in
        j.is ∙ ap (λ x. x ++ j.suffix) p ∙ ap (λ x. u ++ x) s,
    λ is. record {
      prefix = u;
      suffix = v;
      is = is;
      first = (first.is u).1 refl;
      second = (second.is v).1 refl;
    },
  );
}

pub only_pieces : (ts : List Tree) (word : List ℕ) → AreOnlyWords ts (map alone word)
    → IsOnlyWord (pieces ts) word
only_pieces [] [] all = record { is = λ word. (λ h. h, λ h. h) }
only_pieces [] (c ∷ word) all = absurd all
only_pieces (t ∷ ts) [] all = absurd all
only_pieces (t ∷ ts) (c ∷ word) all = only_sequence t (pieces ts) (alone c) word all.0 (only_pieces
    ts word all.1)

bools_same : (a b : Bool) → (IsTrue a → IsTrue b) → (IsTrue b → IsTrue a) → a ≡ b
bools_same true true to from = refl
bools_same true false to from = sym (to refl)
bools_same false true to from = from refl
bools_same false false to from = refl

same_is : (a b : List ℕ) → IsTrue (bytes_eq a b) ↔ (a ≡ b)
same_is a b = bytes_eq-Decides a b

tests_only_word : (t : Tree) (word text : List ℕ) → IsOnlyWord t word
    → is_word t text ≡ bytes_eq word text
tests_only_word t word text only = bools_same _ _
    (λ h. (same_is word text).1 (sym ((only.is text).0 ((words_are_tested t text).0 h))))
    (λ h. (words_are_tested t text).1 ((only.is text).1 (sym ((same_is word text).0 h))))

pub only_branches : (ts : List Tree) (words : List (List ℕ)) → AreOnlyWords ts words
    → HasOnlyWords (branches ts) words
unfolding is_word
only_branches [] [] all text = refl
only_branches [] (word ∷ words) all text = absurd all
only_branches (t ∷ ts) [] all text = absurd all
only_branches (t ∷ ts) (word ∷ words) all text =
    ap (λ b. b || is_word (branches ts) text) (tests_only_word t word text all.0)
    ∙ ap (λ b. bytes_eq word text || b) (only_branches ts words all.1 text)

only_push : (ts : List Tree) (words : List (List ℕ)) (t : Tree) (word : List ℕ)
    → AreOnlyWords ts words → IsOnlyWord t word → AreOnlyWords (ts ++ t ∷ []) (words ++ word ∷ [])
only_push [] [] t word all last = (last, tt)
only_push [] (x ∷ words) t word all last = absurd all
only_push (u ∷ ts) [] t word all last = absurd all
only_push (u ∷ ts) (x ∷ words) t word all last = (all.0, only_push ts words t word all.1 last)

-- one more pattern of a list, and its word
pub only_more : (parts : List Pattern) (words : List (List ℕ)) (i : ℕ) (p : Pattern) (word : List
    ℕ) → i < length parts → p ≡ get_or parts i p → AreOnlyWords (map tree (take i parts)) words
    → IsOnlyWord (tree p) word → AreOnlyWords (map tree (take (i + 1) parts)) (words ++ word ∷ [])
only_more parts words i p word below item all last =
    let more : take (i + 1) parts ≡ take i parts ++ p ∷ [] = take_more parts i p below ∙ ap (λ r.
    take i parts ++ r ∷ []) (sym item) in
    rw (more, map-append tree (take i parts) (p ∷ [])) (only_push (map tree (take i parts)) words
    (tree p) word all last)

-- ---- parts of texts

prefix_is : (word text : List ℕ)
    → IsTrue (is_prefix word text) ↔ ((after : List ℕ) × (text ≡ word ++ after))
unfolding is_prefix
prefix_is [] text = (λ h. (text, refl), λ h. refl)
prefix_is (c ∷ word) [] = (λ h. absurd (cc), λ h. absurd (let is = h.1 in cc))
prefix_is (c ∷ word) (d ∷ text) =
    let rest = prefix_is word text in (
      λ h.
          let sides = and_parts (nat_eq c d) (is_prefix word text) h in
          let same : c ≡ d = eqb-true c d sides.0 in
          let (after, is) = rest.0 sides.1 in
          (after, cc),
      λ h.
          let (after, is) = h in
          let same : c ≡ d = cc in
          let left : text ≡ word ++ after = cc in
          and_from (nat_eq c d) (is_prefix word text) (eq-eqb c d same) (rest.1 (after, left)),
    )

prefix_of_empty : (word before after : List ℕ) → [] ≡ before ++ (word ++ after)
    → IsTrue (is_prefix word [])
prefix_of_empty word [] after is = (prefix_is word []).1 (after, is)
prefix_of_empty word (x ∷ before) after is = absurd (cc)

part_or_later : (word text before after : List ℕ) (d : ℕ)
    → (HasSubslice text word → IsTrue (is_part word text)) → d ∷ text ≡ before ++ (word ++ after)
    → IsTrue (is_prefix word (d ∷ text) || is_part word text)
part_or_later word text [] after d later is = or_left (is_prefix word (d ∷ text)) _ ((prefix_is word
    (d ∷ text)).1 (after, is))
part_or_later word text (x ∷ before) after d later is =
    let rest : text ≡ before ++ (word ++ after) = cc in
    or_right (is_prefix word (d ∷ text)) _ (later (before, after, rest))

pub part_is : (word text : List ℕ) → IsTrue (is_part word text) ↔ HasSubslice text word
unfolding is_part
part_is word [] = (
  λ h. let (after, is) = (prefix_is word []).0 h in ([], after, is),
  λ h. let (before, after, is) = h in prefix_of_empty word before after is,
)
part_is word (d ∷ text) =
    let here = prefix_is word (d ∷ text) in
    let later = part_is word text in (
      λ h. elim (or_cases (is_prefix word (d ∷ text)) (is_part word text) h) [
        | inl first ↦ let (after, is) = here.0 first in ([], after, is)
        | inr rest ↦
            let (before, after, is) = later.0 rest in
            (d ∷ before, after, ap (λ x. d ∷ x) is)
      ],
      λ h. let (before, after, is) = h in part_or_later word text before after d later.1 is,
    )

-- ---- texts in UTF-8

at_cut : (text before after : List ℕ) (d : ℕ) → text ≡ before ++ (d ∷ after)
    → get_or text (length before) 0 ≡ d
at_cut text [] after d is = ap (λ x. get_or x 0 0) is
at_cut text (x ∷ before) after d is = ap (λ y. get_or y (suc (length before)) 0) is ∙ at_cut (before
    ++ (d ∷ after)) before after d refl

cut_at_word : (text before word after : List ℕ) (d : ℕ) → IsUtf8 text → IsUtf8 (d ∷ word)
    → text ≡ before ++ ((d ∷ word) ++ after) → HasSubslice (chars text) (chars (d ∷ word))
cut_at_word text before word after d one two is =
    let size : length text ≡ length before + length ((d ∷ word) ++ after) = ap length is ∙
    length-append before ((d ∷ word) ++ after) in
    let at : get_or text (length before) 0 ≡ d = at_cut text before (word ++ after) d is in
    let starts = IsCharBoundary-start (d ∷ word) two in
    let here : IsCharBoundary text (length before) = (
      omega (arith, size),
      λ inside above. rw at (starts.1 (omega arith) (rw at at above)),
    ) in
    let front : take (length before) text ≡ before = ap (take (length before)) is ∙ take_at before
    ((d ∷ word) ++ after) (length before) refl in
    let first : IsUtf8 before = subst IsUtf8 front (IsUtf8-take text (length before) one here) in (
      chars before,
      chars after,
      ap chars is ∙ chars-append before ((d ∷ word) ++ after) first ∙ ap (λ x. chars before ++ x)
          (chars-append (d ∷ word) after two),
    )

find_to : (text word : List ℕ) → IsUtf8 text → IsUtf8 word → HasSubslice text word
    → HasSubslice (chars text) (chars word)
find_to text [] one two h = ([], chars text, ap (λ x. x ++ chars text) (sym chars-nil))
find_to text (d ∷ word) one two h =
    let (before, after, is) = h in cut_at_word text before word after d one two is

find_from : (text word : List ℕ) → IsUtf8 text → IsUtf8 word
    → HasSubslice (chars text) (chars word) → HasSubslice text word
find_from text word one two h =
    let (before, after, is) = h in (
      encode_utf8_all before,
      encode_utf8_all after,
      sym (encodes-chars text one) ∙ ap encode_utf8_all is ∙ encodes-append before (chars word ++
          after) ∙ ap (λ x. encode_utf8_all before ++ x) (encodes-append (chars word) after ∙ ap
          (λ x. x ++ encode_utf8_all after) (encodes-chars word two)),
    )

-- a search of the bytes answers whether the word is a part
pub finds_part : (found : Bool) (word text : List ℕ) → IsUtf8 text → IsUtf8 word
    → IsTrue found ↔ HasSubslice text word → found ≡ is_part (chars word) (chars text)
finds_part found word text one two finds = bools_same _ _
    (λ h. (part_is (chars word) (chars text)).1 (find_to text word one two (finds.0 h)))
    (λ h. finds.1 (find_from text word one two ((part_is (chars word) (chars text)).0 h)))

same_chars : (word text : List ℕ) → IsUtf8 text → IsUtf8 word → chars word ≡ chars text
    → word ≡ text
same_chars word text one two is = sym (encodes-chars word two) ∙ ap encode_utf8_all is ∙
    encodes-chars text one

pub finds_same : (word text : List ℕ) → IsUtf8 text → IsUtf8 word
    → bytes_eq word text ≡ bytes_eq (chars word) (chars text)
finds_same word text one two = bools_same _ _
    (λ h. (same_is (chars word) (chars text)).1 (ap chars ((same_is word text).0 h)))
    (λ h. (same_is word text).1 (same_chars word text one two ((same_is (chars word) (chars
    text)).0 h)))

-- one more character of a text
pub alone_push : (text more : List ℕ) (c : ℕ) → IsUtf8 text → IsUtf8 more
    → more ≡ text ++ encode_utf8 c → map alone (chars more) ≡ map alone (chars text) ++ alone c ∷ []
alone_push text more c one two is =
    let spelled : encode_utf8_all (chars text ++ c ∷ []) ≡ more = encodes-append (chars text) (c ∷
    []) ∙ ap (λ x. x ++ encode_utf8_all (c ∷ [])) (encodes-chars text one) ∙ ap (λ x. text ++ x)
    (append-nil (encode_utf8 c)) ∙ sym is in
    let joined : chars more ≡ chars text ++ c ∷ [] = sym (chars_from_encodes (chars text ++ c ∷ [])
    more two spelled) in
    ap (map alone) joined ∙ map-append alone (chars text) (c ∷ [])

pub mapped_any : {X Y : Type 0} (p : Y → Bool) (f : X → Y) (xs : List X)
    → list_any (λ x. p (f x)) xs ≡ list_any p (map f xs)
mapped_any p f [] = refl
mapped_any p f (x ∷ xs) = ap (λ b. p (f x) || b) (mapped_any p f xs)

-- ---- what every word begins with

-- pieces of one character each stand at the front of each word
pub begin-pieces : (parts : List Pattern) (i : ℕ) (prefix : List ℕ)
    → AreOnlyWords (map tree (take i parts)) (map alone prefix)
    → AllBegin prefix (Language (pieces (map tree parts)))
begin-pieces parts i [] all word h = (prefix_is [] word).1 (word, refl)
begin-pieces [] zero (c ∷ prefix) all word h = absurd all
begin-pieces [] (suc i) (c ∷ prefix) all word h = absurd all
begin-pieces (p ∷ parts) zero (c ∷ prefix) all word h = absurd all
begin-pieces (p ∷ parts) (suc i) (c ∷ prefix) all word h =
    let first : h.prefix ≡ alone c = (all.0.is h.prefix).0 h.first in
    let (after, is) = (prefix_is prefix h.suffix).0 (begin-pieces parts i prefix all.1 h.suffix
    h.second) in
    let whole : word ≡ c ∷ (prefix ++ after) = h.is ∙ ap (λ x. x ++ h.suffix) first ∙ ap (λ x. c ∷
    x) is in
    (prefix_is (c ∷ prefix) word).1 (after, whole)

pub begin-branch : (t : Tree) (prefix : List ℕ) → AllBegin prefix (Language t)
    → AllBegin prefix (Language (branches (t ∷ [])))
begin-branch t prefix begin word (inl h) = begin word h
begin-branch t prefix begin word (inr h) = absurd h

-- a comparison of the bytes answers whether the text begins with the word
pub finds_prefix : (found : Bool) (word text : List ℕ) → IsUtf8 text → IsUtf8 word
    → found ≡ starts_with nat_eq text word → found ≡ is_prefix (chars word) (chars text)
finds_prefix found word text one two compared =
    let starts = starts_is Decides-eqb text word found compared in
    bools_same _ _
    (λ h. (prefix_is (chars word) (chars text)).1 (
      chars (drop (length word) text),
      ap chars (starts.0 h) ∙ chars-append word (drop (length word) text) two,
    ))
    (λ h.
    let (after, is) = (prefix_is (chars word) (chars text)).0 h in
    starts.1 (encode_utf8_all after)
    (sym (encodes-chars text one) ∙ ap encode_utf8_all is ∙ encodes-append (chars word)
    after ∙ ap (λ x. x ++ encode_utf8_all after) (encodes-chars word two)))

-- ---- what is answered

pub answers_whole : (t : Tree) (words : List (List ℕ)) (text : List ℕ) (answer : Bool)
    → HasOnlyWords t words → answer ≡ list_any (λ word. bytes_eq word text) words
    → IsTrue answer ↔ Language t text
answers_whole t words text answer only is =
    let same : answer ≡ is_word t text = is ∙ sym (only text) in
    let told = words_are_tested t text in
    (λ h. told.0 (sym same ∙ h), λ h. same ∙ told.1 h)

part_from : (t : Tree) (words : List (List ℕ)) (text : List ℕ) → HasOnlyWords t words
    → Any (λ word. is_part word text ≡ true) words → HasPart (Language t) text
part_from t words text only h =
    let (k, word, below, at, found) = h in
    let (before, after, is) = (part_is word text).0 found in
    let here : bytes_eq (get_or words k word) word ≡ true = (same_is _ _).1 at in
    record {
      before = before;
      part = word;
      after = after;
      is = is;
      holds = (words_are_tested t word).0 (only word ∙ list_any_at (λ w. bytes_eq w word) words k
          word below here);
    }

part_to : (t : Tree) (words : List (List ℕ)) (text : List ℕ) (h : HasPart (Language t) text)
    → Any (λ word. bytes_eq word h.part ≡ true) words
    → list_any (λ word. is_part word text) words ≡ true
part_to t words text h any =
    let (k, word, below, at, same) = any in
    let is : word ≡ h.part = (same_is word h.part).0 same in
    let found : is_part h.part text ≡ true = (part_is h.part text).1 (h.before, h.after, h.is) in
    let here : is_part (get_or words k word) text ≡ true = ap (λ w. is_part w text) (at ∙ is) ∙
    found in
    list_any_at (λ w. is_part w text) words k word below here

pub answers_part : (t : Tree) (words : List (List ℕ)) (text : List ℕ) (answer : Bool)
    → HasOnlyWords t words → answer ≡ list_any (λ word. is_part word text) words
    → IsTrue answer ↔ HasPart (Language t) text
answers_part t words text answer only is = (
  λ h. part_from t words text only (Any-from_list_any (λ word. is_part word text) words (sym is ∙
      h)),
  λ h. is ∙ part_to t words text h (Any-from_list_any (λ word. bytes_eq word h.part) words (sym
      (only h.part) ∙ (words_are_tested t h.part).1 h.holds)),
)
