-- What is told of bytes, from how far they are read.
use Rattle.std.proofs.Common.{◌≡◌, ◌⊎◌, ℕ, Bool, true, false, ◌==◌, ◌||◌, List, ◌∷◌, take, inl, inr, refl, ap, sym, ◌∙◌, subst}
use Rattle.std.proofs.Common.{if◌then◌else◌, Option, Some, None, String, length, min, arith}
use Rattle.std.proofs.lemmas.Bool.{eqb-true}
use Rattle.std.proofs.lemmas.List.{length-take}
use Rattle.std.proofs.lemmas.Str.{utf8_valid_len_le}
use Rattle.std.specs.Prelude.{IsUtf8, string_bytes}
use Rattle.std.specs.Str.{chars}
use Rattle.std.specs.Str.Lossy.{utf8_valid_len}
use Rattle.jp_reading.specs.Numbers.{is_digit}
use Rattle.jp_reading.specs.Texts.{Text}
use Rattle.jp_decimal.specs.declared.numbers.Numbers.{Numbers}
use Rattle.jp_decimal.specs.declared.numbers.Numbers.TheVariants.{Whole as WholeNumbers, Decimal}
use Rattle.jp_document.specs.Document.{HasDefect, not_whole}
use Rattle.jp_exact.specs.Defects.{HasExactDefect, number_range}
use Rattle.jp_json.specs.declared.misreading.Misreading.{Misreading}
use Rattle.jp_json.specs.declared.reading.Reading.{Reading}
use Rattle.jp_json.specs.declared.reading.Stop.TheVariants as stop
use Rattle.jp_json.specs.declared.reason.JsonReason.{JsonReason}
use Rattle.jp_json.specs.declared.reason.JsonReason.TheVariants.{Gzip, NotUtf8, TooManyLevels, Utf16}
use Rattle.jp_json.specs.declared.reason.JsonReason.TheVariants.{SingleQuote, Comment, MissingValue}
use Rattle.jp_json.specs.declared.reason.JsonReason.TheVariants.{WrongNumber, WrongWord, Unexpected}
use Rattle.jp_json.specs.declared.reason.JsonReason.TheVariants.{TrailingComma, WrongBracket}
use Rattle.jp_json.specs.declared.reason.JsonReason.TheVariants.{UnquotedName, MissingName, StrayColon}
use Rattle.jp_json.specs.declared.reason.JsonReason.TheVariants.{MissingComma, AfterValue, LeadingZero}
use Rattle.jp_json.specs.declared.reason.JsonReason.TheVariants.{MissingColon, EndInNumber}
use Rattle.jp_json.specs.declared.state.Level.{Level}
use Rattle.jp_json.specs.declared.state.Level.TheVariants.{Array, Object}
use Rattle.jp_json.specs.declared.state.Part.{Part}
use Rattle.jp_json.specs.declared.state.Part.TheVariants.{Minus, Zero, Whole, Point, Fraction}
use Rattle.jp_json.specs.declared.state.Part.TheVariants.{Exponent, Sign, Power}
use Rattle.jp_json.specs.declared.state.State.{State}
use Rattle.jp_json.specs.declared.state.State.TheVariants as state
use Rattle.jp_json.specs.Private.Parts.{IsBlamed}
use Rattle.jp_json.specs.Misreading.{IsBeyondDecimal, IsNoJson, range}
use Rattle.jp_json.specs.Misreading.{IsNoValue, IsNotWhole, IsPlaceIn, utf8_text, named, syntax, scalar, fraction, cause_of, IsCausedBy, IsMisreading}
use Rattle.jp_json.specs.Misreading.{IsNoUtf8At, is_gzip, is_utf16}
use Rattle.jp_json.specs.ViablePrefix.{IsUnexpectedAt}
use Rattle.jp_json.specs.Place.{column, front_of, line_number}
use Rattle.jp_reading.specs.Sentences.{is_sentence}
use Rattle.jp_json.specs.Private.Reading.{IsReading}
use Rattle.jp_json.specs.Private.Machine.{ends_number}
use Rattle.jp_json.specs.Private.Reasons.{is_comment, is_word}
use Rattle.jp_json.specs.Private.Reasons.{bracket_reason, brace_reason, mark_reason, separator_reason, value_reason}
use Rattle.jp_json.specs.Private.Reasons.{colon_reason, encoding_reason, outside_reason, wrong_reason}
use Rattle.jp_json.specs.Private.Reasons.{name_reason, joint_reason, level_reason, after_reason}
use Rattle.jp_json.specs.Private.Reasons.{past_number_reason, number_reason}
use Rattle.jp_json.specs.Private.Reasons.{unexpected_reason, open_reason, end_reason, stop_reason}
use Rattle.jp_json.proofs.Cuts.{place-end, place-further, place-read}
use Rattle.jp_json.proofs.Readings.{unexpected-at, too_deep-at, unfinished-at, whole-text}
use Rattle.jp_json.proofs.Readings.{unfinished-viable, whole-viable}

-- ---- what stands where a text is wrong is a reason of syntax

record IsSyntax (r : JsonReason) : Type 0 where
  is : cause_of r ≡ syntax

sure : (r : JsonReason) → cause_of r ≡ syntax → IsSyntax r
sure r h = record { is = h }

-- by a test
chosen : (b : Bool) (x y : JsonReason) → IsSyntax x → IsSyntax y → IsSyntax (if b then x else y)
chosen true x y h g = h
chosen false x y h g = g

past : (b : Bool) (x y : JsonReason) → cause_of x ≡ syntax → IsSyntax y → IsSyntax (if b then x else y)
past b x y h g = chosen b x y (sure x h) g

bracket-syntax : (l : Option Level) → IsSyntax (bracket_reason l)
bracket-syntax None = sure _ refl
bracket-syntax (Some Array) = sure _ refl
bracket-syntax (Some Object) = sure _ refl

brace-syntax : (l : Option Level) → IsSyntax (brace_reason l)
brace-syntax None = sure _ refl
brace-syntax (Some Array) = sure _ refl
brace-syntax (Some Object) = sure _ refl

-- at that character
record IsWrong (c : ℕ) (r : JsonReason) : Type 0 where
  is : (cause_of r ≡ syntax) ⊎ (cause_of r ≡ named c)

wrong : (c : ℕ) (r : JsonReason) → IsSyntax r → IsWrong c r
wrong c r h = record { is = inl h.is }

by-test : (c : ℕ) (b : Bool) (x y : JsonReason) → (b ≡ true → IsWrong c x) → IsWrong c y
    → IsWrong c (if b then x else y)
by-test c true x y h g = h refl
by-test c false x y h g = g

-- a reason that names another character
naming : (c d : ℕ) (r : JsonReason) → cause_of r ≡ named d → (c == d) ≡ true → IsWrong c r
naming c d r h is = record { is = inr (h ∙ ap named (sym (eqb-true c d is))) }

mark-wrong : (l : Option Level) (c : ℕ) → (c == 65279) ≡ true → IsWrong c (mark_reason l)
mark-wrong None c is = naming c 65279 _ refl is
mark-wrong (Some l) c is = wrong c _ (sure _ refl)

separator-wrong : (l : Option Level) (c : ℕ) → (c == 30) ≡ true → IsWrong c (separator_reason l)
separator-wrong None c is = naming c 30 _ refl is
separator-wrong (Some l) c is = wrong c _ (sure _ refl)

value-wrong : (l : Option Level) (c : ℕ) → IsWrong c (value_reason l c)
value-wrong l c =
    by-test c (c == 65279) (mark_reason l) _ (mark-wrong l c)
    (by-test c (c == 30) (separator_reason l) _ (separator-wrong l c)
    (wrong c _
    (past (c == 39) SingleQuote _ refl
    (past (is_comment c) Comment _ refl
    (chosen (c == 93) (bracket_reason l) _ (bracket-syntax l)
    (chosen (c == 125) (brace_reason l) _ (brace-syntax l)
    (past (c == 44 || c == 58) MissingValue _ refl
    (past (c == 43 || c == 46) WrongNumber _ refl
    (past (is_word c) WrongWord _ refl (sure Unexpected refl))))))))))

name-syntax : (c : ℕ) → IsSyntax (name_reason c)
name-syntax c =
    past (c == 39) SingleQuote _ refl
    (past (is_comment c) Comment _ refl
    (past (c == 125) TrailingComma _ refl
    (past (c == 93) WrongBracket _ refl
    (past (c == 45 || is_word c) UnquotedName _ refl (sure MissingName refl)))))

joint-syntax : (c : ℕ) → IsSyntax (joint_reason c)
joint-syntax c =
    past (c == 93 || c == 125) WrongBracket _ refl (past (c == 58) StrayColon _ refl (sure MissingComma refl))

level-syntax : (l : Option Level) (c : ℕ) → IsSyntax (level_reason l c)
level-syntax None c = sure AfterValue refl
level-syntax (Some l) c = joint-syntax c

after-syntax : (l : Option Level) (c : ℕ) → IsSyntax (after_reason l c)
after-syntax l c = past (is_comment c) Comment (level_reason l c) refl (level-syntax l c)

past_number-syntax : (l : Option Level) (c : ℕ) → IsSyntax (past_number_reason l c)
past_number-syntax l c =
    past (is_word c || c == 46 || c == 43 || c == 45) WrongNumber (after_reason l c) refl (after-syntax l c)

number-syntax : (p : Part) (l : Option Level) (c : ℕ) → IsSyntax (number_reason p l c)
number-syntax Minus l c = past (c == 73) WrongWord _ refl (sure WrongNumber refl)
number-syntax Zero l c = past (is_digit c) LeadingZero _ refl (past_number-syntax l c)
number-syntax Whole l c = past_number-syntax l c
number-syntax Point l c = sure _ refl
number-syntax Fraction l c = past_number-syntax l c
number-syntax Exponent l c = sure _ refl
number-syntax Sign l c = sure _ refl
number-syntax Power l c = past_number-syntax l c

colon-syntax : (c : ℕ) → IsSyntax (colon_reason c)
colon-syntax c = past (is_comment c) Comment _ refl (sure MissingColon refl)

outside-wrong : (c : ℕ) (other : JsonReason) → IsWrong c other → IsWrong c (outside_reason c other)
outside-wrong c other h =
    by-test c (c == 0) _ _ (naming c 0 _ refl) (by-test c (c == 160) _ other (naming c 160 _ refl) h)

unexpected-wrong : (l : Option Level) (s : State) (c : ℕ) → IsWrong c (unexpected_reason l s c)
unexpected-wrong l state.Value c = outside-wrong c _ (value-wrong l c)
unexpected-wrong l state.Item c = outside-wrong c _ (value-wrong l c)
unexpected-wrong l state.Member c = outside-wrong c _ (wrong c _ (name-syntax c))
unexpected-wrong l state.Name c = outside-wrong c _ (wrong c _ (name-syntax c))
unexpected-wrong l state.Colon c = outside-wrong c _ (wrong c _ (colon-syntax c))
unexpected-wrong l state.After c = outside-wrong c _ (wrong c _ (after-syntax l c))
unexpected-wrong l (state.Text r) c = wrong c _ (sure _ refl)
unexpected-wrong l (state.Escape r) c = wrong c _ (sure _ refl)
unexpected-wrong l (state.Hex r w) c = wrong c _ (sure _ refl)
unexpected-wrong l (state.Number p) c = outside-wrong c _ (wrong c _ (number-syntax p l c))
unexpected-wrong l (state.Letters w) c = outside-wrong c WrongWord (wrong c _ (sure _ refl))

open-syntax : (l : Option Level) → IsSyntax (open_reason l)
open-syntax None = sure _ refl
open-syntax (Some Array) = sure _ refl
open-syntax (Some Object) = sure _ refl

end-syntax : (l : Option Level) (s : State) → IsSyntax (end_reason l s)
end-syntax l state.Value = open-syntax l
end-syntax l state.Item = open-syntax l
end-syntax l state.Member = open-syntax l
end-syntax l state.Name = open-syntax l
end-syntax l state.Colon = open-syntax l
end-syntax l state.After = open-syntax l
end-syntax l (state.Text r) = sure _ refl
end-syntax l (state.Escape r) = sure _ refl
end-syntax l (state.Hex r w) = sure _ refl
end-syntax l (state.Number p) =
    chosen (ends_number p) (open_reason l) EndInNumber (open-syntax l) (sure EndInNumber refl)
end-syntax l (state.Letters w) = sure _ refl

-- where reading stops at a character
stopped-wrong : (l : Option Level) (s : State) (t : Text) (c : ℕ) (more : Text) → t ≡ c ∷ more
    → IsWrong c (stop_reason stop.Unexpected l s t)
stopped-wrong l s t c more is = rw is (unexpected-wrong l s c)

-- ---- what is told

-- a reason at a byte of the front that is UTF-8
pub told-so : (numbers : Numbers) (bytes text : List ℕ) (m : Misreading) (offset : ℕ) (reason : JsonReason)
    → IsPlaceIn bytes offset
    → text ≡ take (utf8_valid_len bytes) bytes → m.offset ≡ offset → m.reason ≡ reason
    → m.line ≡ line_number (front_of offset (chars text))
    → m.column ≡ column (front_of offset (chars text))
    → is_sentence m.sentence.now ≡ true
    → IsCausedBy numbers (cause_of reason) bytes offset m.path
    → IsMisreading numbers bytes m
told-so numbers bytes text m offset reason there is offset_is reason_is line_is column_is sentence cause = record {
  place = rw offset_is there;
  cause = rw (offset_is, reason_is) cause;
  line = rw offset_is (line_is ∙ ap (λ t. line_number (front_of offset (chars t))) is);
  column = rw offset_is (column_is ∙ ap (λ t. column (front_of offset (chars t))) is);
  sentence = sentence;
}

-- the front is read so
read-front : (bytes text : List ℕ) (r : Reading) → text ≡ take (utf8_valid_len bytes) bytes
    → IsReading (chars text) r
    → IsReading (utf8_text bytes) r
read-front bytes text r is h = subst (λ t. IsReading (chars t) r) is h

-- the place after what is read of the front
pub read-place : (bytes text : List ℕ) (r : Reading) → text ≡ take (utf8_valid_len bytes) bytes
    → IsUtf8 text → IsReading (chars text) r
    → IsPlaceIn bytes r.offset
read-place bytes text r is utf8 h =
    place-further bytes text (utf8_valid_len bytes) r.offset is
    (subst (λ n. IsPlaceIn text n) (sym h.read.offset_is)
    (place-read text h.read.front (chars r.rest.now) utf8 h.read.parts))

-- the place after all of the front
pub front-place : (bytes text : List ℕ) → text ≡ take (utf8_valid_len bytes) bytes → IsUtf8 text
    → IsPlaceIn bytes (length text)
front-place bytes text is utf8 =
    place-further bytes text (utf8_valid_len bytes) (length text) is (place-end text utf8)

-- by a test of how the bytes begin
wrong-cause : {Z : Type 0} (numbers : Numbers) (bytes : List ℕ) (place : ℕ) (path : Option (String Z)) (reason other : JsonReason)
    (b : Bool) → is_gzip bytes ≡ b → reason ≡ (if b then Gzip else other)
    → IsNoJson numbers bytes → (u : IsUnexpectedAt 127 (utf8_text bytes) place)
    → IsWrong u.there.character other
    → IsCausedBy numbers (cause_of reason) bytes place path
wrong-cause numbers bytes place path reason other true begins is defect u h = rw is (defect, inl u, begins)
wrong-cause numbers bytes place path reason other false begins is defect u h =
    elim h.is [
      | inl k ↦ rw (is, k) (defect, inl u)
      | inr k ↦ rw (is, k) (defect, (u, refl))
    ]

pub unexpected-cause : {Z : Type 0} (numbers : Numbers) (bytes text : List ℕ) (r : Reading) (reason : JsonReason) (path : Option (String Z))
    → IsNoJson numbers bytes → text ≡ take (utf8_valid_len bytes) bytes
    → IsReading (chars text) r → r.stop ≡ stop.Unexpected
    → (other : JsonReason) → reason ≡ wrong_reason bytes other
    → other ≡ stop_reason r.stop r.top r.state (chars r.rest.now)
    → IsCausedBy numbers (cause_of reason) bytes r.offset path
unexpected-cause numbers bytes text r reason path defect is h stops other reason_is other_is =
    let there = unexpected-at (utf8_text bytes) r (read-front bytes text r is h) stops in
    let u = there.0 in
    let whole : other ≡ stop_reason stop.Unexpected r.top r.state (chars r.rest.now)
    = rw stops at other_is in
    wrong-cause numbers bytes r.offset path reason other (is_gzip bytes) refl reason_is defect u
    (subst (λ x. IsWrong u.there.character x) (sym whole)
    (stopped-wrong r.top r.state (chars r.rest.now) u.there.character u.there.after there.1))

pub too_deep-cause : {Z : Type 0} (numbers : Numbers) (bytes text : List ℕ) (r : Reading) (path : Option (String Z))
    → IsNoJson numbers bytes → text ≡ take (utf8_valid_len bytes) bytes
    → IsReading (chars text) r → r.stop ≡ stop.TooDeep
    → IsCausedBy numbers (cause_of TooManyLevels) bytes r.offset path
too_deep-cause numbers bytes text r path defect is h stops =
    (defect, too_deep-at (utf8_text bytes) r (read-front bytes text r is h) stops)

pub unfinished-cause : {Z : Type 0} (numbers : Numbers) (bytes text : List ℕ) (r : Reading) (reason : JsonReason) (path : Option (String Z))
    → IsNoJson numbers bytes → text ≡ take (utf8_valid_len bytes) bytes → IsUtf8 bytes
    → IsReading (chars text) r → r.stop ≡ stop.Unfinished
    → reason ≡ stop_reason r.stop r.top r.state (chars r.rest.now)
    → IsCausedBy numbers (cause_of reason) bytes r.offset path
unfinished-cause numbers bytes text r reason path defect is utf8 h stops reason_is =
    let whole : reason ≡ end_reason r.top r.state = rw stops at reason_is in
    let kind : cause_of reason ≡ syntax = ap cause_of whole ∙ (end-syntax r.top r.state).is in
    rw kind (defect, inr (utf8, unfinished-at (utf8_text bytes) r (read-front bytes text r is h) stops))

pub whole-cause : {Z : Type 0} (numbers : Numbers) (bytes text : List ℕ) (r : Reading) (reason : JsonReason) (path : Option (String Z))
    → IsNoJson numbers bytes → text ≡ take (utf8_valid_len bytes) bytes → IsUtf8 bytes
    → IsReading (chars text) r → r.stop ≡ stop.Whole
    → (offset : ℕ) → IsBlamed scalar (IsNoValue numbers) bytes offset reason
    → IsCausedBy numbers (cause_of reason) bytes offset path
whole-cause numbers bytes text r reason path defect is utf8 h stops offset blame =
    elim blame [
      | inl b ↦
          rw b.0
          (defect, utf8, whole-text (utf8_text bytes) r (read-front bytes text r is h) stops, b.1)
      | inr e ↦
          rw e
          (inl (defect, utf8, whole-text (utf8_text bytes) r (read-front bytes text r is h) stops))
    ]

-- by a test of how the bytes begin
encoded-cause : {Z : Type 0} (numbers : Numbers) (bytes : List ℕ) (place : ℕ) (path : Option (String Z)) (reason : JsonReason)
    (b : Bool) → is_utf16 bytes ≡ b → reason ≡ (if b then Utf16 else NotUtf8)
    → IsNoJson numbers bytes → IsNoUtf8At bytes place
    → IsCausedBy numbers (cause_of reason) bytes place path
encoded-cause numbers bytes place path reason true begins is defect there = rw is (defect, there, begins)
encoded-cause numbers bytes place path reason false begins is defect there = rw is (defect, there)

-- the bytes are no UTF-8, and what is before is read whole, or as far as it goes
pub encoding-cause : {Z : Type 0} (numbers : Numbers) (bytes text : List ℕ) (r : Reading) (offset : ℕ) (reason : JsonReason)
    (path : Option (String Z))
    → IsNoJson numbers bytes → text ≡ take (utf8_valid_len bytes) bytes → (IsUtf8 bytes → ⊥)
    → IsReading (chars text) r → (r.stop ≡ stop.Unfinished) ⊎ (r.stop ≡ stop.Whole)
    → offset ≡ length text
    → reason ≡ encoding_reason bytes
    → IsCausedBy numbers (cause_of reason) bytes offset path
encoding-cause numbers bytes text r offset reason path defect is none h stops offset_is reason_is =
    let front = read-front bytes text r is h in
    encoded-cause numbers bytes offset path reason (is_utf16 bytes) refl reason_is defect
    (record {
      none = none;
      place_is = offset_is ∙ ap length is ∙ length-take (utf8_valid_len bytes) bytes ∙ min_eq;
      is_viable =
          elim stops [
            | inl e ↦ unfinished-viable (utf8_text bytes) r front e
            | inr e ↦ whole-viable (utf8_text bytes) r front e
          ];
    })
  where
    min_eq : min (utf8_valid_len bytes) (length bytes) ≡ utf8_valid_len bytes
    min_eq = let le = utf8_valid_len_le bytes in omega (arith, le)

pub fraction-cause : {Z : Type 0} (bytes : List ℕ) (reason : JsonReason) (offset : ℕ) (p : String Z) (path : Option (String Z))
    → HasDefect bytes (not_whole (string_bytes p)) → path ≡ Some p
    → IsBlamed fraction IsNotWhole bytes offset reason
    → IsCausedBy WholeNumbers (cause_of reason) bytes offset path
fraction-cause bytes reason offset p path defect is blame =
    elim blame [
      | inl b ↦ rw (b.0, is) (defect, b.1)
      | inr e ↦ rw (e, is) (inr defect)
    ]

pub range-cause : {Z : Type 0} (bytes : List ℕ) (reason : JsonReason) (offset : ℕ) (p : String Z) (path : Option (String Z))
    → HasExactDefect bytes (number_range (string_bytes p)) → path ≡ Some p
    → IsBlamed range IsBeyondDecimal bytes offset reason
    → IsCausedBy Decimal (cause_of reason) bytes offset path
range-cause bytes reason offset p path defect is blame =
    elim blame [
      | inl b ↦ rw (b.0, is) (defect, b.1)
      | inr e ↦ rw (e, is) (inr defect)
    ]

pub not-utf8 : (b : Bool) (bytes : List ℕ) → (IsUtf8 bytes → b ≡ true) → b ≡ false → IsUtf8 bytes → ⊥
not-utf8 b bytes whole other utf8 = let here = whole utf8 in cc
