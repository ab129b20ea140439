-- Runs of characters over which the automaton goes at once.
use Rattle.std.proofs.Common.{◌≡◌, ◌+◌, ◌≤◌, ◌<◌, ℕ, true, false, List, [], ◌∷◌, ◌++◌, length, refl, ap, sym, ◌∙◌, arith}
use Rattle.std.proofs.Common.{append_assoc, length-append, drop, inl, inr, subst}
use Rattle.std.proofs.lemmas.Bool.{cases_Bool, cases_lt}
use Rattle.std.proofs.lemmas.Bool.Decides.{nat_tests}
use Rattle.std.proofs.Math.Seq.{drop-append-add}
use Rattle.std.proofs.lemmas.List.Sums.{prefix_len-le-length, prefix_len_stops}
use Rattle.std.proofs.lemmas.Str.{IsCharBoundary-before_ascii, IsUtf8-nil, IsUtf8-past_char}
use Rattle.std.proofs.lemmas.Str.{chars_past_char, encode_ascii, encodes-chars, length-encode}
use Rattle.std.specs.Char.{encode_utf8, len_utf8}
use Rattle.std.specs.List.{prefix_len}
use Rattle.std.specs.Prelude.{IsCharBoundary, IsUtf8}
use Rattle.std.specs.Str.{chars, encode_utf8_all}
use Rattle.json.specs.Run.{is_plain}
use Rattle.jp_reading.specs.Forms.{AllPassing}
use Rattle.jp_reading.specs.Texts.{Text, bytes}
use Rattle.jp_reading.proofs.States.Between.{bytes-append}
use Rattle.jp_json.specs.Grammar.{is_unescaped}
use Rattle.jp_json.specs.declared.state.Level.{Level}
use Rattle.jp_json.specs.declared.state.Role.{Role}
use Rattle.jp_json.specs.declared.state.State.{State}
use Rattle.jp_json.specs.declared.state.State.TheVariants.{Text as InText}
use Rattle.jp_json.specs.Private.Machine.{on, walk}
use Rattle.jp_json.specs.Private.Reading.{IsReadTo}
use Rattle.jp_json.specs.Private.Runs.{IsBehindRun, IsBehindText}
use Rattle.jp_json.proofs.Strings.{bytes-passing}
use Rattle.jp_json.proofs.Viable.{walk-append}

-- ---- bytes of characters that a string has as they are

high-plain : (b : ℕ) → 128 ≤ b → is_plain b ≡ true
high-plain b high = grind (arith, nat_tests)

unescaped-plain : (c : ℕ) → is_unescaped c ≡ true → is_plain c ≡ true
unescaped-plain c h = grind (arith, nat_tests)

other-low : (c : ℕ) → is_unescaped c ≡ false → (c < 128) × (is_plain c ≡ false)
other-low c h = (grind (arith, nat_tests), grind (arith, nat_tests))

stop-low : (c : ℕ) → is_plain c ≡ false → c < 128
stop-low c h = grind (arith, nat_tests)

bytes-plain : (c : ℕ) → is_unescaped c ≡ true → AllPassing is_plain (encode_utf8 c)
bytes-plain c h = bytes-passing is_plain high-plain c (unescaped-plain c h)

over-plain : (bs r : List ℕ) → AllPassing is_plain bs
    → prefix_len is_plain (bs ++ r) ≡ length bs + prefix_len is_plain r
over-plain [] r h = omega arith
over-plain (b ∷ bs) r h = rw h.0 (omega (arith, over-plain bs r h.1))

-- ---- as characters

-- the first bytes are those of characters that a string has as they are
record IsFront (bs : List ℕ) (n : ℕ) : Type 0 where
  run : Text
  parts : chars bs ≡ run ++ chars (drop n bs)
  size : length bs ≡ bytes run + length (drop n bs)
  plain : AllPassing is_unescaped run
  utf8 : IsUtf8 (drop n bs)

no-front : (bs : List ℕ) → IsUtf8 bs → IsFront bs 0
no-front bs utf8 = record { run = []; parts = refl; size = omega arith; plain = tt; utf8 = utf8 }

more-front : (bs more : List ℕ) (c n : ℕ) → IsUtf8 bs → bs ≡ encode_utf8 c ++ more → is_unescaped c ≡ true
    → IsFront more n → IsFront bs (len_utf8 c + n)
more-front bs more c n utf8 parts passes h =
    let long = length-encode c in
    let behind : drop (len_utf8 c + n) bs ≡ drop n more =
    ap (λ m. drop (m + n) bs) (sym long) ∙ ap (drop (length (encode_utf8 c) + n)) parts
    ∙ drop-append-add (encode_utf8 c) more n in
    record {
      run = c ∷ h.run;
      parts = chars_past_char bs more c utf8 parts ∙ ap (λ t. c ∷ t) (h.parts)
          ∙ ap (λ x. c ∷ (h.run ++ chars x)) (sym behind);
      size = omega (arith, ap length parts, length-append (encode_utf8 c) more, long, h.size, ap length behind);
      plain = (passes, h.plain);
      utf8 = subst IsUtf8 (sym behind) h.utf8;
    }

front-of : (cs : Text) (bs : List ℕ) → IsUtf8 bs → encode_utf8_all cs ≡ bs
    → IsFront bs (prefix_len is_plain bs)
front-of [] bs utf8 is = subst (λ x. IsFront x (prefix_len is_plain x)) is (no-front [] IsUtf8-nil)
front-of (c ∷ cs) bs utf8 is =
    elim (cases_Bool (is_unescaped c)) [
      | inl passes ↦
          subst (IsFront bs)
          (ap (λ n. n + prefix_len is_plain (encode_utf8_all cs)) (sym (length-encode c))
          ∙ sym (over-plain (encode_utf8 c) (encode_utf8_all cs) (bytes-plain c passes))
          ∙ ap (prefix_len is_plain) is)
          (more-front bs (encode_utf8_all cs) c _ utf8 (sym is) passes
          (front-of cs (encode_utf8_all cs) (IsUtf8-past_char bs (encode_utf8_all cs) c utf8 (sym is)) refl))
      | inr other ↦
          let low = other-low c other in
          let stops : prefix_len is_plain (c ∷ encode_utf8_all cs) ≡ 0 = rw low.1 refl in
          subst (IsFront bs)
          (sym stops
          ∙ ap (λ t. prefix_len is_plain (t ++ encode_utf8_all cs)) (sym (encode_ascii c low.0))
          ∙ ap (prefix_len is_plain) is)
          (no-front bs utf8)
    ]

-- ---- the automaton

stays-unescaped : (r : Role) (t : Text) → AllPassing is_unescaped t
    → (n : ℕ) (k : List Level) → walk n k (InText r) t ≡ on n k (InText r)
stays-unescaped r [] h n k = refl
stays-unescaped r (c ∷ t) h n k = rw h.0 (stays-unescaped r t h.1 n k)

pub behind-front : (text : List ℕ) → IsUtf8 text
    → IsBehindText text (drop (prefix_len is_plain text) text)
    × IsUtf8 (drop (prefix_len is_plain text) text)
behind-front text utf8 =
    let front = front-of (chars text) text utf8 (encodes-chars text utf8) in (
      λ r. record {
        run = front.run;
        parts = front.parts;
        size = front.size;
        leads = stays-unescaped r front.run front.plain;
      },
      front.utf8,
    )

-- a text may be cut behind them
pub front-boundary : (text : List ℕ) → IsUtf8 text → IsCharBoundary text (prefix_len is_plain text)
front-boundary text utf8 =
    elim (cases_lt (prefix_len is_plain text) (length text)) [
      | inl within ↦
          IsCharBoundary-before_ascii text (prefix_len is_plain text) within
          (stop-low _ (prefix_len_stops is_plain text 0 within))
      | inr past ↦ (prefix_len-le-length is_plain text, λ within high. absurd (omega (arith, within, past)))
    ]

-- one run behind another
pub run-then : (s m e : State) (text between rest : List ℕ) → IsBehindRun s m text between
    → IsBehindRun m e between rest
    → IsBehindRun s e text rest
run-then s m e text between rest h g = record {
  run = h.run ++ g.run;
  parts = h.parts ∙ ap (λ t. h.run ++ t) g.parts ∙ sym (append_assoc h.run g.run (chars rest));
  size = omega (arith, h.size, g.size, bytes-append h.run g.run);
  leads = λ n k. walk-append h.run n n k k s m g.run (h.leads n k) ∙ g.leads n k;
}

pub text-then : (text between rest : List ℕ) → IsBehindText text between → IsBehindText between rest
    → IsBehindText text rest
text-then text between rest h g =
    λ r. run-then (InText r) (InText r) (InText r) text between rest (h r) (g r)

-- read so far, the automaton reads on over the run
pub read-run : (text : Text) (after rest : List ℕ) (offset further : ℕ) (k : List Level) (s e : State)
    → IsReadTo text (chars after) offset k s → IsBehindRun s e after rest
    → further + length rest ≡ offset + length after
    → IsReadTo text (chars rest) further k e
read-run text after rest offset further k s e h run is = record {
  front = h.front ++ run.run;
  parts = h.parts ∙ ap (λ r. h.front ++ r) run.parts ∙ sym (append_assoc h.front run.run (chars rest));
  offset_is = omega (arith, is, h.offset_is, run.size, bytes-append h.front run.run);
  way = walk-append h.front 127 _ [] k _ s run.run h.way ∙ run.leads _ k;
}
