-- The tests of membership tell exactly the words of a pattern, and the texts that have one: for the
-- law `tested_words`, and for the matchers.
use Rattle.std.proofs.Common.{◌≡◌, ◌⊎◌, inl, inr, refl, sym, ap, ◌∙◌, subst, arith}
use Rattle.std.proofs.Common.{ℕ, zero, suc, ◌+◌, ◌-◌, ◌<◌, ◌≤◌, Bool, true, false, ◌&&◌, ◌||◌}
use Rattle.std.proofs.Common.{List, [], ◌∷◌, ◌++◌, length, take, drop, Option, Some, None}
use Rattle.std.specs.Prelude.{⊤}
use Rattle.std.specs.List.{list_any, range_with_len}
use Rattle.std.proofs.lemmas.Bool.{and_parts, or_cases, and_from}
use Rattle.std.proofs.lemmas.Bool.{or_left, or_right, leb-true, le-leb}
use Rattle.std.proofs.lemmas.Bool.{cases_eq, cases_lt}
use Rattle.std.proofs.lemmas.List.{take-append-drop, take_at, drop_at, length-append}
use Rattle.jp_iregexp.specs.Class.{class_holds}
use Rattle.jp_iregexp.specs.Language.{Concatenation, Power, IsAtMost, Language}
use Rattle.jp_iregexp.specs.Membership.{is_empty, is_one, is_concatenation, is_power, is_at_most}
use Rattle.jp_iregexp.specs.Membership.{is_repeat, is_word, has_word}
use Rattle.jp_iregexp.specs.Membership.{WordsAreTested, PartsAreTested}
use Rattle.jp_iregexp.specs.Part.{HasPart}
use Rattle.jp_iregexp.specs.Tree.{Tree, class, nothing, either, empty, sequence, repeat}

-- ---- a number of a run that passes

passing_number : (test : ℕ → Bool) (a n : ℕ) → list_any test (range_with_len a n) ≡ true
    → (k : ℕ) × (a ≤ k) × (test k ≡ true)
passing_number test a zero h = cc
passing_number test a (suc n) h =
    elim (or_cases (test a) (list_any test (range_with_len (a + 1) n)) h) [
      | inl here ↦ (a, omega arith, here)
      | inr later ↦
          let (k, from, passes) = passing_number test (a + 1) n later in
          (k, omega (arith, from), passes)
    ]

passed : (test : ℕ → Bool) (a n k : ℕ) → a ≤ k → k < a + n → test k ≡ true
    → list_any test (range_with_len a n) ≡ true
passed test a zero k from below h = absurd (omega arith)
passed test a (suc n) k from below h =
    elim (cases_eq k a) [
      | inl same ↦ or_left (test a) _ (subst (λ m. test m ≡ true) same h)
      | inr other ↦
          or_right (test a) _ (passed test (a + 1) n k (omega (arith, other)) (omega arith) h)
    ]

-- ---- tests that tell languages

-- a test tells a language: it answers true for its words alone
pub record Tells (test : List ℕ → Bool) (L : List ℕ → Type 0) : Type 0 where
  pub sound : (word : List ℕ) → test word ≡ true → L word
  pub whole : (word : List ℕ) → L word → test word ≡ true

any_told : Tells (λ word. true) (λ word. ⊤)
any_told = record { sound = λ word h. tt; whole = λ word h. refl }

none_told : Tells (λ word. false) (λ word. ⊥)
none_told = record { sound = λ word h. absurd (cc); whole = λ word h. absurd h }

only_empty : (word : List ℕ) → is_empty word ≡ true → word ≡ []
only_empty [] h = refl
only_empty (c ∷ word) h = cc

empty_told : Tells is_empty (λ word. word ≡ [])
empty_told = record { sound = only_empty; whole = λ word h. ap is_empty h }

-- the words of one character that passes
abbrev One : (ℕ → Bool) → List ℕ → Type 0
One test word = (c : ℕ) × (test c ≡ true) × (word ≡ c ∷ [])

only_one : (test : ℕ → Bool) (word : List ℕ) → is_one test word ≡ true → One test word
only_one test [] h = cc
only_one test (c ∷ []) h = (c, h, refl)
only_one test (c ∷ d ∷ word) h = cc

one_told : (test : ℕ → Bool) → Tells (is_one test) (One test)
one_told test = record {
  sound = only_one test;
  whole = λ word h. ap (is_one test) h.2 ∙ h.1;
}

module _ (f g : List ℕ → Bool) (A B : List ℕ → Type 0) (one : Tells f A) (two : Tells g B) where
  either_told : Tells (λ word. f word || g word) (λ word. A word ⊎ B word)
  either_told = record {
    sound = λ word h.
        elim (or_cases (f word) (g word) h) [
          | inl first ↦ inl (one.sound word first)
          | inr second ↦ inr (two.sound word second)
        ];
    whole = λ word h.
        elim h [
          | inl first ↦ or_left (f word) (g word) (one.whole word first)
          | inr second ↦ or_right (f word) (g word) (two.whole word second)
        ];
  }

  abbrev cut_passes : List ℕ → ℕ → Bool
  cut_passes word k = f (take k word) && g (drop k word)

  cut_found : (word : List ℕ) → is_concatenation f g word ≡ true → Concatenation A B word
  cut_found word h =
      let (k, from, here) = passing_number (cut_passes word) 0 (length word + 1) h in
      let sides = and_parts (f (take k word)) (g (drop k word)) here in
      record {
        prefix = take k word;
        suffix = drop k word;
        is = sym (take-append-drop k word);
        first = one.sound (take k word) sides.0;
        second = two.sound (drop k word) sides.1;
      }

  cut_passed : (prefix suffix : List ℕ) → A prefix → B suffix
      → is_concatenation f g (prefix ++ suffix) ≡ true
  cut_passed prefix suffix first second =
      let long = length-append prefix suffix in
      let here = ap f (take_at prefix suffix (length prefix) refl) ∙ one.whole prefix first in
      let there = ap g (drop_at prefix suffix (length prefix) refl) ∙ two.whole suffix second in
      passed (cut_passes (prefix ++ suffix)) 0 (length (prefix ++ suffix) + 1) (length prefix)
      (omega arith) (omega (arith, long)) (and_from _ _ here there)

  concatenation_told : Tells (is_concatenation f g) (Concatenation A B)
  concatenation_told = record {
    sound = cut_found;
    whole = λ word h.
        ap (is_concatenation f g) h.is ∙ cut_passed h.prefix h.suffix h.first h.second;
  }

-- ---- repeats

at_most_from : (most : Option ℕ) (k : ℕ) → is_at_most most k ≡ true → IsAtMost most k
at_most_from None k h = tt
at_most_from (Some most) k h = leb-true k most h

to_at_most : (most : Option ℕ) (k : ℕ) → IsAtMost most k → is_at_most most k ≡ true
to_at_most None k h = refl
to_at_most (Some most) k h = le-leb k most h

-- a repeat that allows so many words allows fewer
pub at_most_below : (most : Option ℕ) (k m : ℕ) → m ≤ k → IsAtMost most k → IsAtMost most m
at_most_below None k m below within = tt
at_most_below (Some most) k m below within = omega arith

module _ (L : List ℕ → Type 0) where
  -- of more words than characters one is empty, and is left out
  without_first : (k : ℕ) (prefix suffix : List ℕ) → length (prefix ++ suffix) ≤ suc k
      → ((word : List ℕ) → length word ≤ k → Power L (suc k) word → Power L k word)
      → L prefix → Power L (suc k) suffix → Power L (suc k) (prefix ++ suffix)
  without_first k [] suffix short fewer first second = second
  without_first k (c ∷ prefix) suffix short fewer first second =
      let long = length-append prefix suffix in
      record {
        prefix = c ∷ prefix;
        suffix = suffix;
        is = refl;
        first = first;
        second = fewer suffix (omega (arith, long)) second;
      }

  one_fewer : (k : ℕ) (word : List ℕ) → length word ≤ k → Power L (suc k) word → Power L k word
  one_fewer zero [] short h = refl
  one_fewer zero (c ∷ word) short h = absurd (omega arith)
  one_fewer (suc k) word short h =
      let short_parts = subst (λ w. length w ≤ suc k) h.is short in
      let parts = without_first k h.prefix h.suffix short_parts (one_fewer k) h.first h.second in
      subst (Power L (suc k)) (sym h.is) parts

  fewer : (more k : ℕ) (word : List ℕ) → length word ≤ k → Power L (more + k) word → Power L k word
  fewer zero k word short h = subst (λ n. Power L n word) {y = k} (omega arith) h
  fewer (suc more) k word short h =
      let same : suc more + k ≡ suc (more + k) = omega arith in
      let all = subst (λ n. Power L n word) same h in
      fewer more k word short (one_fewer (more + k) word (omega arith) all)

module _ (f : List ℕ → Bool) (A : List ℕ → Type 0) (told : Tells f A) where
  power_told : (k : ℕ) → Tells (is_power f k) (Power A k)
  power_told zero = empty_told
  power_told (suc k) = concatenation_told f (is_power f k) A (Power A k) told (power_told k)

  module _ (least : ℕ) (most : Option ℕ) where
    -- the words of a repeat
    abbrev Repeated : List ℕ → Type 0
    Repeated word = (k : ℕ) × (least ≤ k) × IsAtMost most k × Power A k word

    abbrev count_passes : List ℕ → ℕ → Bool
    count_passes word k = is_at_most most k && is_power f k word

    count_found : (word : List ℕ) → is_repeat f least most word ≡ true → Repeated word
    count_found word h =
        let (k, from, here) = passing_number (count_passes word) least (length word + 1) h in
        let sides = and_parts (is_at_most most k) (is_power f k word) here in
        (k, from, at_most_from most k sides.0, (power_told k).sound word sides.1)

    count_passed : (word : List ℕ) (k : ℕ) → least ≤ k → k < least + (length word + 1)
        → IsAtMost most k → Power A k word → is_repeat f least most word ≡ true
    count_passed word k from below within h =
        let here = and_from _ _ (to_at_most most k within) ((power_told k).whole word h) in
        passed (count_passes word) least (length word + 1) k from below here

    repeat_passed : (word : List ℕ) → Repeated word → is_repeat f least most word ≡ true
    repeat_passed word (k, from, within, h) =
        let last = least + length word in
        elim (cases_lt last k) [
          | inl above ↦
              let same : k ≡ (k - last) + last = omega arith in
              let all = subst (λ n. Power A n word) same h in
              let within_last = at_most_below most k last (omega arith) within in
              let some = fewer A (k - last) last word (omega arith) all in
              count_passed word last (omega arith) (omega arith) within_last some
          | inr below ↦ count_passed word k from (omega arith) within h
        ]

    repeat_told : Tells (is_repeat f least most) Repeated
    repeat_told = record { sound = count_found; whole = repeat_passed }

-- ---- patterns

word_told : (a : Tree) → Tells (is_word a) (Language a)
unfolding is_word
word_told (class negated items) = one_told (class_holds negated items)
word_told nothing = none_told
word_told (either a b) =
    either_told (is_word a) (is_word b) (Language a) (Language b) (word_told a) (word_told b)
word_told empty = empty_told
word_told (sequence a b) =
    concatenation_told (is_word a) (is_word b) (Language a) (Language b) (word_told a) (word_told b)
word_told (repeat a least most) = repeat_told (is_word a) (Language a) (word_told a) least most

pub words_are_tested : WordsAreTested
words_are_tested a word = ((word_told a).sound word, (word_told a).whole word)

-- any text, a word of the pattern, and any text
abbrev Around : Tree → List ℕ → Type 0
Around a = Concatenation (λ before. ⊤) (Concatenation (Language a) (λ after. ⊤))

around_told : (a : Tree) → Tells (has_word a) (Around a)
unfolding has_word
around_told a =
    concatenation_told _ _ _ _ any_told (concatenation_told _ _ _ _ (word_told a) any_told)

part_around : (a : Tree) (text : List ℕ) → Around a text → HasPart (Language a) text
part_around a text h = record {
  before = h.prefix;
  part = h.second.prefix;
  after = h.second.suffix;
  is = h.is ∙ ap (λ rest. h.prefix ++ rest) h.second.is;
  holds = h.second.first;
}

around_part : (a : Tree) (text : List ℕ) → HasPart (Language a) text → Around a text
around_part a text h = record {
  prefix = h.before;
  suffix = h.part ++ h.after;
  is = h.is;
  first = tt;
  second = record { prefix = h.part; suffix = h.after; is = refl; first = h.holds; second = tt };
}

pub parts_are_tested : PartsAreTested
parts_are_tested a text = (
  λ h. part_around a text ((around_told a).sound text h),
  λ h. (around_told a).whole text (around_part a text h),
)
