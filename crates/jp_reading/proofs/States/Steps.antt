-- What single steps of a rule do: taking a character, or stopping at it; and passing blanks.
use Rattle.std.proofs.Common.{◌≡◌, ℕ, ◌+◌, Bool, true, false, [], ◌∷◌, Option, Some, None, inl, inr}
use Rattle.std.proofs.Common.{refl, sym, ap, ◌∙◌, append-nil, arith}
use Rattle.std.proofs.lemmas.Bool.{cases_Bool, eqb-true}
use Rattle.std.specs.Char.{len_utf8}
use Rattle.jp_reading.specs.Texts.{Text, Spans, is_blank}
use Rattle.jp_reading.specs.Forms.{Blank}
use Rattle.jp_reading.proofs.States.Between.{Between, Reads, between-same, between-then}
use Rattle.jp_reading.specs.Outcome.{State, took, head, past, past_first, past_blanks}
use Rattle.jp_reading.specs.Texts.{first_of}
use Rattle.jp_reading.specs.Outcome.{skip, passes, is, is_at, take_passing, take_if}

take_passing-takes : (ok : ℕ → Bool) (p : State) (o : Option ℕ) (c : ℕ) → o ≡ Some c → ok c ≡ true
    → take_passing ok p o ≡ took c (past p)
take_passing-takes ok p o c e h = rw (e, h) refl

-- a character that passes is taken
pub take_if-takes : (ok : ℕ → Bool) (p : State) (c : ℕ) → head p ≡ Some c → ok c ≡ true
    → take_if ok p ≡ took c (past p)
take_if-takes ok p c e h = take_passing-takes ok p (head p) c e h

-- the character that a test found
pub head-is : (c : ℕ) (p : State) → is_at c p ≡ true → head p ≡ Some c
head-is c p h = found (head p) h
  where
    found : (o : Option ℕ) → passes (is c) o ≡ true → o ≡ Some c
    found None h = cc
    found (Some d) h = ap Some (eqb-true d c h)

-- a character that passes one test is none that another refuses
pub is-other : (ok : ℕ → Bool) (c d : ℕ) → ok c ≡ true → ok d ≡ false → is d c ≡ false
is-other ok c d passing failing =
    elim (cases_Bool (is d c)) [
      | inl same ↦ let e : ok c ≡ ok d = ap ok (eqb-true c d same) in cc
      | inr apart ↦ apart
    ]

pub is_at-other : (ok : ℕ → Bool) (c d : ℕ) (p : State) → head p ≡ Some c → ok c ≡ true
    → ok d ≡ false → is_at d p ≡ false
is_at-other ok c d p e passing failing = ap (passes (is d)) e ∙ is-other ok c d passing failing

past_first-way : (at : ℕ) (found : Spans) (t : Text) (c : ℕ) → first_of t ≡ Some c
    → Between (record { at = at; rest = t; found = found }) [] (c ∷ []) (past_first at found t)
past_first-way at found [] c e = cc
past_first-way at found (d ∷ t) c e =
    let same : d ≡ c = cc in
    record {
      rest = ap (λ x. x ∷ t) same;
      at = rw same (omega arith);
      found = sym (append-nil found);
    }

-- past a character lies that character
pub past-way : (p : State) (c : ℕ) → head p ≡ Some c → Between p [] (c ∷ []) (past p)
past-way p c e = past_first-way p.at p.found p.rest c e

past_blanks-way : (at : ℕ) (found : Spans) (t : Text)
    → Reads Blank (record { at = at; rest = t; found = found }) (past_blanks at found t)
unfolding past_blanks
past_blanks-way at found [] = record {
  spans = [];
  text = [];
  way = between-same (record { at = at; rest = []; found = found });
  is = record { none = refl; blank = tt };
}
past_blanks-way at found (c ∷ t) =
    elim (cases_Bool (is_blank c)) [
      | inl blank ↦ rw blank (let p : State = record { at = at; rest = c ∷ t; found = found } in
          let q : State = record { at = at + len_utf8 c; rest = t; found = found } in
          let more = past_blanks-way (at + len_utf8 c) found t in
          record {
            spans = more.spans;
            text = c ∷ more.text;
            way = between-then p q (past_blanks (at + len_utf8 c) found t) [] more.spans
                (c ∷ []) more.text (past-way p c refl) more.way;
            is = record { none = more.is.none; blank = (blank, more.is.blank) };
          })
      | inr other ↦ rw other (record {
        spans = [];
        text = [];
        way = between-same (record { at = at; rest = c ∷ t; found = found });
        is = record { none = refl; blank = tt };
      })
    ]

-- blanks lie between a reader and where it stands once they are skipped
pub skip-way : (p : State) → Reads Blank p (skip p)
skip-way p = past_blanks-way p.at p.found p.rest
