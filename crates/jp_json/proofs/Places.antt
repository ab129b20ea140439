-- Lines and columns, character by character.
use Rattle.std.proofs.Common.{◌≡◌, ◌-◌, ◌+◌, ◌==◌, not, ℕ, Bool, true, false, [], ◌∷◌, ◌++◌, refl, ap, sym, ◌∙◌, arith}
use Rattle.std.proofs.Common.{append_assoc, reverse, append-nil, cond}
use Rattle.std.proofs.lemmas.Bool.{eq-eqb, eqb-true, false_from_ne_true}
use Rattle.std.proofs.lemmas.List.{reverse-append}
use Rattle.std.proofs.lemmas.List.Sums.{sum_by-append}
use Rattle.std.specs.Char.{len_utf8}
use Rattle.std.specs.List.{count_by, suffix_len, prefix_len}
use Rattle.jp_reading.specs.Texts.{Text}
use Rattle.jp_json.specs.Place.{front_of, line_number, column}

abbrev pub is_feed : ℕ → Bool
is_feed c = c == 10

abbrev pub is_other : ℕ → Bool
is_other c = not (c == 10)

-- so much of the text is passed before the byte, with so many line feeds, and so many characters
-- after the last
pub record IsPassed (text rest : Text) (offset left feeds since : ℕ) : Type 0 where
  pub front : Text
  pub parts : front_of offset text ≡ front ++ front_of left rest
  pub feeds_is : feeds ≡ count_by is_feed front
  pub since_is : since ≡ suffix_len is_other front

pub passed-nothing : (text : Text) (offset : ℕ) → IsPassed text text offset offset 0 0
passed-nothing text offset = record { front = []; parts = refl; feeds_is = refl; since_is = refl }

count-last : (p : ℕ → Bool) (t : Text) (c : ℕ)
    → count_by p (t ++ c ∷ []) ≡ count_by p t + count_by p (c ∷ [])
count-last p t c = sum_by-append (λ x. cond (p x) 1 0) t (c ∷ [])

suffix-last : (p : ℕ → Bool) (t : Text) (c : ℕ)
    → suffix_len p (t ++ c ∷ []) ≡ prefix_len p (c ∷ reverse t)
suffix-last p t c = ap (prefix_len p) (reverse-append t (c ∷ []))

-- one character more
more-front : (text rest more : Text) (offset left after : ℕ) (c : ℕ) (front : Text)
    → front_of offset text ≡ front ++ front_of left rest
    → front_of left rest ≡ c ∷ front_of after more
    → front_of offset text ≡ (front ++ c ∷ []) ++ front_of after more
more-front text rest more offset left after c front parts is =
    parts ∙ ap (λ r. front ++ r) is ∙ sym (append_assoc front (c ∷ []) (front_of after more))

pub passed-feed : (text rest more : Text) (offset left after feeds since c : ℕ)
    → IsPassed text rest offset left feeds since
    → front_of left rest ≡ c ∷ front_of after more → (c == 10) ≡ true
    → IsPassed text more offset after (feeds + 1) 0
passed-feed text rest more offset left after feeds since c h is feed = record {
  front = h.front ++ c ∷ [];
  parts = more-front text rest more offset left after c h.front h.parts is;
  feeds_is =
      let one : count_by is_feed (c ∷ []) ≡ 1 = rw feed refl in
      omega (arith, h.feeds_is, count-last is_feed h.front c, one);
  since_is =
      let none : prefix_len is_other (c ∷ reverse h.front) ≡ 0 = rw feed refl in
      sym (suffix-last is_other h.front c ∙ none);
}

pub passed-other : (text rest more : Text) (offset left after feeds since c : ℕ)
    → IsPassed text rest offset left feeds since
    → front_of left rest ≡ c ∷ front_of after more → (c == 10) ≡ false
    → IsPassed text more offset after feeds (since + 1)
passed-other text rest more offset left after feeds since c h is other = record {
  front = h.front ++ c ∷ [];
  parts = more-front text rest more offset left after c h.front h.parts is;
  feeds_is =
      let none : count_by is_feed (c ∷ []) ≡ 0 = rw other refl in
      omega (arith, h.feeds_is, count-last is_feed h.front c, none);
  since_is =
      let one : prefix_len is_other (c ∷ reverse h.front) ≡ 1 + suffix_len is_other h.front
      = rw other refl in
      let last = suffix-last is_other h.front c in omega (arith, h.since_is, last, one);
}

pub passed-feed-sized : (text rest more : Text) (offset left feeds since c size : ℕ)
    → size ≡ len_utf8 c
    → IsPassed text rest offset left feeds since
    → front_of left rest ≡ c ∷ front_of (left - len_utf8 c) more → c ≡ 10
    → IsPassed text more offset (left - size) (feeds + 1) 0
passed-feed-sized text rest more offset left feeds since c size e h is feed =
    rw e (passed-feed text rest more offset left (left - len_utf8 c) feeds since c h is (eq-eqb c 10 feed))

pub passed-other-sized : (text rest more : Text) (offset left feeds since c size : ℕ)
    → size ≡ len_utf8 c
    → IsPassed text rest offset left feeds since
    → front_of left rest ≡ c ∷ front_of (left - len_utf8 c) more → (c ≡ 10 → ⊥)
    → IsPassed text more offset (left - size) feeds (since + 1)
passed-other-sized text rest more offset left feeds since c size e h is other =
    rw e (passed-other text rest more offset left (left - len_utf8 c) feeds since c h is (false_from_ne_true _ (λ x. other (eqb-true c 10 x))))

pub passed-line : (text rest : Text) (offset left feeds since : ℕ)
    → IsPassed text rest offset left feeds since
    → front_of left rest ≡ []
    → feeds + 1 ≡ line_number (front_of offset text)
passed-line text rest offset left feeds since h end =
    let whole : front_of offset text ≡ h.front
    = h.parts ∙ ap (λ r. h.front ++ r) end ∙ append-nil h.front in
    rw whole (ap (λ n. n + 1) h.feeds_is)

pub passed-column : (text rest : Text) (offset left feeds since : ℕ)
    → IsPassed text rest offset left feeds since
    → front_of left rest ≡ []
    → since + 1 ≡ column (front_of offset text)
passed-column text rest offset left feeds since h end =
    let whole : front_of offset text ≡ h.front
    = h.parts ∙ ap (λ r. h.front ++ r) end ∙ append-nil h.front in
    rw whole (ap (λ n. n + 1) h.since_is)
