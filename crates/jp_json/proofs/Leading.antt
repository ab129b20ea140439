-- ASCII characters over which the automaton goes at once.
use Rattle.std.proofs.Common.{◌≡◌, ◌≤◌, ◌<◌, ◌+◌, ℕ, zero, suc, Bool, true, List, [], ◌∷◌, ◌++◌}
use Rattle.std.proofs.Common.{length, take, drop, get_or, refl, ap, ◌∙◌, arith}
use Rattle.std.proofs.lemmas.Bool.Decides.{nat_tests}
use Rattle.std.proofs.lemmas.Str.{IsCharBoundary-from_drop}
use Rattle.std.specs.Char.{len_utf8}
use Rattle.std.specs.Prelude.{IsCharBoundary, IsUtf8}
use Rattle.std.specs.Str.{chars}
use Rattle.jp_reading.specs.Forms.{AllPassing}
use Rattle.jp_reading.specs.Numbers.{is_digit}
use Rattle.jp_reading.specs.Texts.{Text, bytes, is_blank}
use Rattle.jp_json.specs.declared.state.Level.{Level}
use Rattle.jp_json.specs.declared.state.Part.TheVariants.{Whole, Fraction, Power}
use Rattle.jp_json.specs.declared.state.State.{State}
use Rattle.jp_json.specs.declared.state.State.TheVariants.{Value, Item, Member, Name, Colon, After}
use Rattle.jp_json.specs.declared.state.State.TheVariants.{Number, Text as InText}
use Rattle.jp_json.specs.declared.state.Role.{Role}
use Rattle.jp_json.specs.declared.state.Role.TheVariants.{Key}
use Rattle.jp_json.specs.Grammar.{is_hex_digit}
use Rattle.jp_json.specs.Private.Machine.{move, on, walk}
use Rattle.jp_json.specs.Private.Runs.{IsBehindRun, LeadsOver, FrontPasses, is_ascii}
use Rattle.jp_json.proofs.Classes.{blank-outside, blank-no-bracket, blank-no-brace, of-blanks}
use Rattle.jp_json.proofs.Fronts.{first-plain}

-- ---- as characters

-- the first bytes are the characters that they are
record IsCutAt (bs : List ℕ) (n : ℕ) : Type 0 where
  parts : chars bs ≡ take n bs ++ chars (drop n bs)
  size : length bs ≡ bytes (take n bs) + length (drop n bs)
  utf8 : IsUtf8 (drop n bs)

ascii-low : (c : ℕ) → is_ascii c ≡ true → c < 128
ascii-low c h = grind (arith, nat_tests)

ascii-one : (c : ℕ) → is_ascii c ≡ true → len_utf8 c ≡ 1
ascii-one c h = rw h refl

cut-at : (n : ℕ) (bs : List ℕ) → IsUtf8 bs → n ≤ length bs → AllPassing is_ascii (take n bs) → IsCutAt bs n
cut-at zero bs utf8 within ascii = record { parts = refl; size = omega arith; utf8 = utf8 }
cut-at (suc n) [] utf8 within ascii = absurd (omega arith)
cut-at (suc n) (b ∷ bs) utf8 within ascii =
    let step = first-plain b bs utf8 (ascii-low b ascii.0) in
    let more = cut-at n bs step.1 (omega arith) ascii.1 in
    record {
      parts = step.0 ∙ ap (λ t. b ∷ t) more.parts;
      size = omega (arith, more.size, ascii-one b ascii.0);
      utf8 = more.utf8;
    }

pub led-behind : (s e : State) (text : List ℕ) (size : ℕ) → IsUtf8 text → LeadsOver s e text size
    → IsBehindRun s e text (drop size text)
led-behind s e text size utf8 h =
    let cut = cut-at size text utf8 h.within h.ascii in
    record { run = take size text; parts = cut.parts; size = cut.size; leads = h.leads }

pub led-utf8 : (s e : State) (text : List ℕ) (size : ℕ) → IsUtf8 text → LeadsOver s e text size
    → IsUtf8 (drop size text)
led-utf8 s e text size utf8 h = (cut-at size text utf8 h.within h.ascii).utf8

-- a text may be cut behind them
pub led-boundary : (s e : State) (text : List ℕ) (size : ℕ) → IsUtf8 text → LeadsOver s e text size
    → IsCharBoundary text size
led-boundary s e text size utf8 h =
    IsCharBoundary-from_drop text size h.within (led-utf8 s e text size utf8 h)

-- ---- characters over which the automaton stays in its state

pub led-none : (s : State) (text : List ℕ) → LeadsOver s s text 0
led-none s text = record { within = omega arith; ascii = tt; leads = λ n k. refl }

-- each of them passes the test
all-passing : (p : ℕ → Bool) (n : ℕ) (bs : List ℕ) → n ≤ length bs
    → ((k : ℕ) → k < n → p (get_or bs k 0) ≡ true)
    → AllPassing p (take n bs)
all-passing p zero bs within passes = tt
all-passing p (suc n) [] within passes = absurd (omega arith)
all-passing p (suc n) (b ∷ bs) within passes =
    (passes 0 (omega arith), all-passing p n bs (omega arith) (λ k early. passes (suc k) (omega arith)))

module _ (p : ℕ → Bool) (low : (c : ℕ) → p c ≡ true → is_ascii c ≡ true) (s : State)
    (stays : (c : ℕ) → p c ≡ true → (n : ℕ) (k : List Level) → move n k s c ≡ on n k s) where
  all-ascii : (t : Text) → AllPassing p t → AllPassing is_ascii t
  all-ascii [] h = tt
  all-ascii (c ∷ t) h = (low c h.0, all-ascii t h.1)

  walk-stays : (t : Text) → AllPassing p t → (n : ℕ) (k : List Level) → walk n k s t ≡ on n k s
  walk-stays [] h n k = refl
  walk-stays (c ∷ t) h n k = rw (stays c h.0 n k) (walk-stays t h.1 n k)

  led-stays : (text : List ℕ) (size : ℕ) → FrontPasses p text size → LeadsOver s s text size
  led-stays text size h =
      let all = all-passing p size text h.within h.passes in
      record {
        within = h.within;
        ascii = all-ascii (take size text) all;
        leads = walk-stays (take size text) all;
      }

-- ---- blanks and digits

blank-ascii : (c : ℕ) → is_blank c ≡ true → is_ascii c ≡ true
blank-ascii = of-blanks (λ c. is_ascii c ≡ true) refl refl refl refl

digit-ascii : (c : ℕ) → is_digit c ≡ true → is_ascii c ≡ true
unfolding is_digit
digit-ascii c h = grind (arith, nat_tests)

pub value-blanks : (text : List ℕ) (size : ℕ) → FrontPasses is_blank text size → LeadsOver Value Value text size
value-blanks = led-stays is_blank blank-ascii Value (λ c h n k. rw ((blank-outside c h).leading, h) refl)

pub item-blanks : (text : List ℕ) (size : ℕ) → FrontPasses is_blank text size → LeadsOver Item Item text size
item-blanks = led-stays is_blank blank-ascii Item (λ c h n k. rw (blank-no-bracket c h, h) refl)

pub member-blanks : (text : List ℕ) (size : ℕ) → FrontPasses is_blank text size → LeadsOver Member Member text size
member-blanks = led-stays is_blank blank-ascii Member (λ c h n k. rw (blank-no-brace c h, h) refl)

pub name-blanks : (text : List ℕ) (size : ℕ) → FrontPasses is_blank text size → LeadsOver Name Name text size
name-blanks = led-stays is_blank blank-ascii Name (λ c h n k. rw h refl)

pub colon-blanks : (text : List ℕ) (size : ℕ) → FrontPasses is_blank text size → LeadsOver Colon Colon text size
colon-blanks = led-stays is_blank blank-ascii Colon (λ c h n k. rw h refl)

pub after-blanks : (text : List ℕ) (size : ℕ) → FrontPasses is_blank text size → LeadsOver After After text size
after-blanks = led-stays is_blank blank-ascii After (λ c h n k. rw h refl)

pub whole-digits : (text : List ℕ) (size : ℕ) → FrontPasses is_digit text size
    → LeadsOver (Number Whole) (Number Whole) text size
whole-digits = led-stays is_digit digit-ascii (Number Whole) (λ c h n k. rw h refl)

pub fraction-digits : (text : List ℕ) (size : ℕ) → FrontPasses is_digit text size
    → LeadsOver (Number Fraction) (Number Fraction) text size
fraction-digits = led-stays is_digit digit-ascii (Number Fraction) (λ c h n k. rw h refl)

pub power-digits : (text : List ℕ) (size : ℕ) → FrontPasses is_digit text size
    → LeadsOver (Number Power) (Number Power) text size
power-digits = led-stays is_digit digit-ascii (Number Power) (λ c h n k. rw h refl)

-- ---- escapes and quotation marks

hex-ascii : (c : ℕ) → is_hex_digit c ≡ true → is_ascii c ≡ true
unfolding is_digit
hex-ascii c h = grind (arith, nat_tests)

pub escape-leads : (text : List ℕ) → 6 ≤ length text → get_or text 0 0 ≡ 92 → get_or text 1 0 ≡ 117
    → is_hex_digit (get_or text 2 0) ≡ true → is_hex_digit (get_or text 3 0) ≡ true
    → is_hex_digit (get_or text 4 0) ≡ true → is_hex_digit (get_or text 5 0) ≡ true
    → (r : Role) → LeadsOver (InText r) (InText r) text 6
escape-leads (x ∷ u ∷ a ∷ b ∷ c ∷ d ∷ text) long backslash letter one two three four r =
    let is_x : x ≡ 92 = backslash in
    let is_u : u ≡ 117 = letter in
    record {
      within = omega (arith, long);
      ascii = (
        rw is_x refl,
        (rw is_u refl, (hex-ascii a one, (hex-ascii b two, (hex-ascii c three, (hex-ascii d four, tt))))),
      );
      leads = λ n k. rw (is_x, is_u, one, two, three, four) refl;
    }
escape-leads [] long backslash letter one two three four r = absurd (omega (arith, long))
escape-leads (x ∷ []) long backslash letter one two three four r = absurd (omega (arith, long))
escape-leads (x ∷ u ∷ []) long backslash letter one two three four r = absurd (omega (arith, long))
escape-leads (x ∷ u ∷ a ∷ []) long backslash letter one two three four r = absurd (omega (arith, long))
escape-leads (x ∷ u ∷ a ∷ b ∷ []) long backslash letter one two three four r = absurd (omega (arith, long))
escape-leads (x ∷ u ∷ a ∷ b ∷ c ∷ []) long backslash letter one two three four r =
    absurd (omega (arith, long))

pub colon-leads : (text : List ℕ) → 1 < length text → get_or text 0 0 ≡ 34 → get_or text 1 0 ≡ 58
    → LeadsOver (InText Key) Value text 2
unfolding is_blank
colon-leads (x ∷ y ∷ text) long quote colon =
    let is_x : x ≡ 34 = quote in
    let is_y : y ≡ 58 = colon in
    record {
      within = omega (arith, long);
      ascii = (rw is_x refl, (rw is_y refl, tt));
      leads = λ n k. rw (is_x, is_y) refl;
    }
colon-leads [] long quote colon = absurd (omega (arith, long))
colon-leads (x ∷ []) long quote colon = absurd (omega (arith, long))
