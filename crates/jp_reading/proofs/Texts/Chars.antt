-- Steps over one character, and over blanks.
use Rattle.std.proofs.Common.{◌≡◌, ℕ, ◌+◌, ◌<◌, ◌≤◌, Bool, true, false, List, [], ◌∷◌, ◌++◌}
use Rattle.std.proofs.Common.{append-nil, length, Some, None, inl, inr, refl, sym, ap, ◌∙◌, arith}
use Rattle.std.proofs.lemmas.Bool.{cases_Bool}
use Rattle.std.proofs.lemmas.Str.{chars_past_char, chars-append, chars-nil, IsUtf8-encode}
use Rattle.std.specs.Char.{len_utf8, encode_utf8, IsScalar}
use Rattle.std.specs.Str.{chars, IsUtf8}
use Rattle.jp_reading.specs.Texts.{Text, Spans, is_blank}
use Rattle.jp_reading.specs.Outcome.{State, head, past, past_first, past_blanks, skip}
use Rattle.jp_reading.specs.Texts.{first_of}
use Rattle.jp_reading.specs.Outcome.{after_blank, passes}

past_first-shorter : (ok : ℕ → Bool) (at : ℕ) (found : Spans) (t : Text)
    → passes ok (first_of t) ≡ true → length (past_first at found t).rest < length t
past_first-shorter ok at found [] h = cc
past_first-shorter ok at found (c ∷ t) h = omega arith

-- past a character the text is shorter
pub past-shorter : (ok : ℕ → Bool) (p : State) → passes ok (head p) ≡ true
    → length (past p).rest < length p.rest
past-shorter ok p h = past_first-shorter ok p.at p.found p.rest h

past_blanks-on : (at : ℕ) (found : Spans) (t : Text) → passes is_blank (first_of t) ≡ true
    → skip (past_first at found t) ≡ past_blanks at found t
unfolding past_blanks
past_blanks-on at found [] h = cc
past_blanks-on at found (c ∷ t) h = rw h refl

-- a blank is skipped like any character, and then the blanks after it
pub skip-past : (p : State) → passes is_blank (head p) ≡ true → skip (past p) ≡ skip p
skip-past p h = past_blanks-on p.at p.found p.rest h

past_blanks-off : (at : ℕ) (found : Spans) (t : Text) → passes is_blank (first_of t) ≡ false
    → past_blanks at found t ≡ record { at = at; rest = t; found = found }
unfolding past_blanks
past_blanks-off at found [] h = refl
past_blanks-off at found (c ∷ t) h = rw h refl

-- where no blank stands there is nothing to skip
pub skip-none : (p : State) → passes is_blank (head p) ≡ false → skip p ≡ p
skip-none p h = past_blanks-off p.at p.found p.rest h

-- what stands after the blanks does not hang on where they stand
pub past_blanks-rest : (at place : ℕ) (found spans : Spans) (t : Text)
    → (past_blanks at found t).rest ≡ (past_blanks place spans t).rest
unfolding past_blanks
past_blanks-rest at place found spans [] = refl
past_blanks-rest at place found spans (c ∷ t) =
    elim (cases_Bool (is_blank c)) [
      | inl blank ↦ rw blank (past_blanks-rest (at + len_utf8 c) (place + len_utf8 c) found spans t)
      | inr other ↦ rw other refl
    ]

-- the next character that is no blank hangs on the text alone
pub after_blank-same : (p q : State) → p.rest ≡ q.rest → after_blank p ≡ after_blank q
after_blank-same p q e =
    ap first_of (past_blanks-rest p.at q.at p.found q.found p.rest
    ∙ ap (λ t. (past_blanks q.at q.found t).rest) e)

-- of a text alone: where it ends, where it begins with a blank, and where with another character
pub first_past-end : (t : Text) → t ≡ []
    → after_blank (record { at = 0; rest = t; found = [] }) ≡ None
unfolding past_blanks
first_past-end t e = rw e refl

pub first_past-blank : (t u : Text) (c : ℕ) → t ≡ c ∷ u → is_blank c ≡ true
    → after_blank (record { at = 0; rest = u; found = [] }) ≡ after_blank
    (record { at = 0; rest = t; found = [] })
unfolding past_blanks
first_past-blank t u c e blank =
    rw (e, blank) (ap first_of (past_blanks-rest 0 (0 + len_utf8 c) [] [] u))

pub first_past-other : (t u : Text) (c : ℕ) → t ≡ c ∷ u → is_blank c ≡ false
    → after_blank (record { at = 0; rest = t; found = [] }) ≡ Some c
unfolding past_blanks
first_past-other t u c e other = rw (e, other) refl

past_blanks-shorter : (at : ℕ) (found : Spans) (t : Text)
    → length (past_blanks at found t).rest ≤ length t
unfolding past_blanks
past_blanks-shorter at found [] = omega arith
past_blanks-shorter at found (c ∷ t) =
    elim (cases_Bool (is_blank c)) [
      | inl blank ↦ rw blank (let h = past_blanks-shorter (at + len_utf8 c) found t in omega arith)
      | inr other ↦ rw other (omega arith)
    ]

-- blanks that are skipped leave no longer text
pub skip-shorter : (p : State) → length (skip p).rest ≤ length p.rest
skip-shorter p = past_blanks-shorter p.at p.found p.rest

-- a character pushed to the end of a text
pub chars_push : (s : List ℕ) (c : ℕ) → IsUtf8 s → IsScalar c
    → chars (s ++ encode_utf8 c) ≡ chars s ++ c ∷ []
chars_push s c text scalar =
    chars-append s (encode_utf8 c) text
    ∙ ap (λ t. chars s ++ t)
    (chars_past_char (encode_utf8 c) [] c (IsUtf8-encode c scalar)
    (sym (append-nil (encode_utf8 c))) ∙ ap (λ t. c ∷ t) chars-nil)
