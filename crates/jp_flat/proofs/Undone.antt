-- Texts whose escapes are undone piece by piece: for `push_content`.
use Rattle.std.proofs.Common.{◌≡◌, ℕ, ◌+◌, ◌-◌, ◌*◌, ◌<◌, ◌≤◌, ◌&&◌, true, false, cond}
use Rattle.std.proofs.Common.{List, [], ◌∷◌, ◌++◌, length, take, drop, get_or, Option, Some, None}
use Rattle.std.proofs.Common.{option_and_then, refl, sym, ap, ◌∙◌, subst, arith}
use Rattle.std.proofs.Common.{append_assoc, take-add}
use Rattle.std.proofs.lemmas.Bool.{lt-ltb, ne_eqb}
use Rattle.std.proofs.lemmas.Bool.Decides.{nat_tests}
use Rattle.std.proofs.lemmas.List.{append-nil, drop-drop, drop_at, drop_more, get_or-drop}
use Rattle.std.proofs.lemmas.List.{length-drop, take_rest}
use Rattle.std.proofs.lemmas.List.Sums.{prefix_len_stops}
use Rattle.std.proofs.lemmas.Option.{none-some, same_Some}
use Rattle.std.proofs.lemmas.Str.{IsCharBoundary-after_ascii, IsCharBoundary-before_ascii, encode_ascii}
use Rattle.std.specs.Char.{IsScalar, digit_value, encode_utf8, is_digit}
use Rattle.std.specs.List.{prefix_len, slice_range}
use Rattle.std.specs.Str.{IsCharBoundary, IsUtf8}
use Rattle.json.specs.Run.{is_plain}
use Rattle.json.specs.Text.{Within, after_backslash, after_high, after_u, code_unit, content}
use Rattle.json.specs.Text.{is_high_surrogate, is_low_surrogate, plain, prepend, short_escape}
use Rattle.json.specs.Text.{surrogate_pair}
use Rattle.jp_flat.specs.Private.Escapes.{GoesOn, IsCodeUnit, IsEscape, IsPastEscape}
use Rattle.jp_flat.specs.Private.Tokens.{IsEndOf, IsSaid}
use Rattle.jp_flat.proofs.Lexed.{first_is, prepend-prepend, read_ends, read_to}

-- ---- pieces one behind another

pub goes-on : (d a b c : List ℕ) (from via to : ℕ) → GoesOn d a from b via → GoesOn d b via c to
    → GoesOn d a from c to
goes-on d a b c from via to one two = record {
  within = two.within;
  after_from = omega arith;
  reads = one.reads ∙ two.reads;
}

pub goes-nowhere : (d a : List ℕ) → GoesOn d a 0 a 0
goes-nowhere d a = record { within = omega arith; after_from = omega arith; reads = refl }

slice-more : (d : List ℕ) (first at to : ℕ) → first ≤ at → at ≤ to
    → slice_range d first at ++ slice_range d at to ≡ slice_range d first to
slice-more d first at to one two =
    let there : first + (at - first) ≡ at = omega arith in
    let long : at - first + (to - at) ≡ to - first = omega arith in
    ap (λ k. slice_range d first at ++ take (to - at) (drop k d)) (sym there)
    ∙ ap (λ l. slice_range d first at ++ take (to - at) l) (sym (drop-drop (at - first) first d))
    ∙ sym (take-add (at - first) (to - at) (drop first d)) ∙ ap (λ n. take n (drop first d)) long

-- a piece that was there up to an offset, and the bytes behind it that stand for themselves
pub run-goes-on : (d before after : List ℕ) (first at to : ℕ) → first ≤ at
    → to ≡ at + prefix_len is_plain (drop at d) → to ≤ length d
    → after ≡ before ++ slice_range d first to
    → GoesOn d (before ++ slice_range d first at) at after to
run-goes-on d before after first at to order is within wrote =
    let behind : at ≤ to = omega arith in
    record {
      within = within;
      after_from = behind;
      reads = ap (prepend (before ++ slice_range d first at)) (read_to d at to is)
          ∙ prepend-prepend (before ++ slice_range d first at) _ _
          ∙ ap (λ s. prepend s (content plain (drop to d)))
          (append_assoc before (slice_range d first at) (slice_range d at to)
          ∙ ap (λ s. before ++ s) (slice-more d first at to order behind) ∙ sym wrote);
    }

-- a piece of which nothing is there yet
pub empty-piece : (d before : List ℕ) (at : ℕ) → before ++ slice_range d at at ≡ before
empty-piece d before at =
    let none : at - at ≡ 0 = omega arith in
    ap (λ n. before ++ take n (drop at d)) none ∙ append-nil before

pub escape-goes-on : (d before after : List ℕ) (from c to : ℕ) → IsEscape d plain from c to
    → after ≡ before ++ encode_utf8 c → GoesOn d before from after to
escape-goes-on d before after from c to is wrote = record {
  within = is.within;
  after_from = let past = is.after_from in omega arith;
  reads = ap (prepend before) is.reads ∙ prepend-prepend before _ _
      ∙ ap (λ s. prepend s (content plain (drop to d))) (sym wrote);
}

pub goes-to-quote : (d before after : List ℕ) (to : ℕ) → GoesOn d before 0 after to → to < length d
    → get_or d to 0 ≡ 34 → prepend before (content plain d) ≡ Some after
goes-to-quote d before after to goes within quote =
    goes.reads ∙ ap (prepend after) (read_ends d to within quote) ∙ ap Some (append-nil after)

-- ---- a text that is read and not kept

-- the text from its front up to an offset is read as some bytes
pub record HasGone (d : List ℕ) (to : ℕ) : Type 0 where
  pub read : List ℕ
  pub goes : GoesOn d [] 0 read to

pub gone-nowhere : (d : List ℕ) → HasGone d 0
gone-nowhere d = record { read = []; goes = goes-nowhere d [] }

pub gone-over : (d : List ℕ) (at to : ℕ) → to ≡ at + prefix_len is_plain (drop at d)
    → to ≤ length d → HasGone d at → HasGone d to
gone-over d at to is within so = record {
  read = so.read ++ slice_range d at to;
  goes = goes-on d _ _ _ 0 at to so.goes
      (subst (λ s. GoesOn d s at (so.read ++ slice_range d at to) to) (empty-piece d so.read at)
      (run-goes-on d so.read _ at at to (omega arith) is within refl));
}

pub gone-past : (d : List ℕ) (at to : ℕ) → IsPastEscape d at to → HasGone d at → HasGone d to
gone-past d at to past so = record {
  read = so.read ++ encode_utf8 past.character;
  goes = goes-on d _ _ _ 0 at to so.goes
      (escape-goes-on d so.read _ at past.character to past.is refl);
}

-- ---- what is appended in the end

behind : (before after : List ℕ) (o : Option (List ℕ)) → prepend before o ≡ Some after
    → o ≡ Some (drop (length before) after)
behind before after None is = absurd (cc is)
behind before after (Some s) is =
    ap Some (sym (drop_at before s (length before) refl))
    ∙ ap (λ xs. Some (drop (length before) xs)) (same_Some (before ++ s) after is)

-- the content of a text is what stands behind what was there before
pub appended : (text quoted before after : List ℕ) (old : ℕ) → text ≡ drop 1 quoted
    → old ≡ length before → prepend before (content plain text) ≡ Some after
    → content plain (drop 1 quoted) ≡ Some (drop old after)
appended text quoted before after old same long is =
    ap (content plain) (sym same) ∙ behind before after (content plain text) is
    ∙ ap (λ n. Some (drop n after)) (sym long)

-- a text that has gone up to its last quote has a content
pub gone-to-quote : (d : List ℕ) (to : ℕ) → HasGone d to → to < length d → get_or d to 0 ≡ 34
    → IsSaid (content plain d)
gone-to-quote d to so within quote = record {
  text = drop 0 so.read;
  says = behind [] so.read (content plain d) (goes-to-quote d [] so.read to so.goes within quote);
}

-- the end of a document, without its first byte
pub end-past-first : (d q : List ℕ) (at : ℕ) → at ≡ length d - length q → IsEndOf d q
    → take (length d - (at + 1)) (drop (at + 1) d) ≡ drop 1 q
end-past-first d q at is end =
    take_rest d (at + 1) ∙ sym (drop-drop 1 at d) ∙ ap (λ k. drop 1 (drop k d)) is ∙ ap (drop 1) end

-- ---- where pieces end

stop-is_ascii : (x : ℕ) → is_plain x ≡ false → x < 128
stop-is_ascii x stop = grind (arith, nat_tests)

pub run-boundary : (d : List ℕ) (from to : ℕ) → to ≡ from + prefix_len is_plain (drop from d)
    → to ≤ length d → IsCharBoundary d to
run-boundary d from to is within =
    (within, λ inside high. let low : get_or d to 0 < 128 = ascii inside in absurd (omega arith))
  where
    ascii : to < length d → get_or d to 0 < 128
    ascii inside =
        stop-is_ascii (get_or d to 0)
        (ap (λ k. is_plain (get_or d k 0)) is ∙ ap is_plain (sym (get_or-drop from d _ 0))
        ∙ prefix_len_stops is_plain (drop from d) 0 (omega (arith, length-drop from d)))

pub escape-boundary : (d : List ℕ) (w : Within) (from c to : ℕ) → IsUtf8 d → IsEscape d w from c to
    → IsCharBoundary d to
escape-boundary d w from c to utf8 is =
    let past = is.after_from in
    let within = is.within in
    let back : to - 1 + 1 ≡ to = omega arith in
    subst (IsCharBoundary d) back
    (IsCharBoundary-after_ascii d (to - 1) utf8 (omega arith) is.ascii)

-- ---- escapes of two characters

no-number : (x c : ℕ) → short_escape x ≡ Some c → x ≡ 117 → ⊥
unfolding short_escape
no-number x c short is = none-some c (ap short_escape (sym is) ∙ short)

pub lettered : (d : List ℕ) (at x c : ℕ) → at + 2 ≤ length d → get_or d at 0 ≡ 92
    → get_or d (at + 1) 0 ≡ x → x < 128 → c < 128 → short_escape x ≡ Some c
    → IsEscape d plain at c (at + 2)
unfolding content
lettered d at x c within slash is low small short =
    let next : at + 1 + 1 ≡ at + 2 = omega arith in
    let last : at + 2 - 1 ≡ at + 1 = omega arith in
    let letter : x ≡ 117 → ⊥ = no-number x c short in
    record {
      within = within;
      after_from = omega arith;
      reads = ap (content plain) (first_is d at 92 (omega arith) slash)
          ∙ ap (content after_backslash) (first_is d (at + 1) x (omega arith) is)
          ∙ ap (λ b. cond b (content after_u (drop (at + 1 + 1) d))
          (option_and_then (λ y. prepend (y ∷ []) (content plain (drop (at + 1 + 1) d)))
          (short_escape x))) (ne_eqb x 117 letter)
          ∙ ap (option_and_then (λ y. prepend (y ∷ []) (content plain (drop (at + 1 + 1) d)))) short
          ∙ ap (λ s. prepend s (content plain (drop (at + 1 + 1) d))) (sym (encode_ascii c small))
          ∙ ap (λ k. prepend (encode_utf8 c) (content plain (drop k d))) next;
      ascii = subst (λ k. get_or d k 0 < 128) (sym last) (subst (λ y. y < 128) (sym is) low);
    }

pub itself : (d : List ℕ) (at : ℕ) → at + 2 ≤ length d → get_or d at 0 ≡ 92
    → short_escape (get_or d (at + 1) 0) ≡ Some (get_or d (at + 1) 0) → get_or d (at + 1) 0 < 128
    → IsEscape d plain at (get_or d (at + 1) 0) (at + 2)
itself d at within slash short low =
    lettered d at (get_or d (at + 1) 0) (get_or d (at + 1) 0) within slash refl low low short

-- where the escape stands for its own second character, a piece begins there
pub itself-goes-on : (d before : List ℕ) (at : ℕ)
    → IsEscape d plain at (get_or d (at + 1) 0) (at + 2)
    → GoesOn d before at (before ++ slice_range d (at + 1) (at + 2)) (at + 2)
itself-goes-on d before at is =
    let within = is.within in
    let one : at + 2 - (at + 1) ≡ 1 = omega arith in
    let last : at + 2 - 1 ≡ at + 1 = omega arith in
    let low : get_or d (at + 1) 0 < 128 = subst (λ k. get_or d k 0 < 128) last is.ascii in
    let piece : slice_range d (at + 1) (at + 2) ≡ encode_utf8 (get_or d (at + 1) 0) =
    ap (λ n. take n (drop (at + 1) d)) one ∙ ap (take 1) (drop_more d (at + 1) 0 (omega arith))
    ∙ sym (encode_ascii (get_or d (at + 1) 0) low) in
    escape-goes-on d before _ at (get_or d (at + 1) 0) (at + 2) is (ap (λ s. before ++ s) piece)

pub itself-boundary : (d : List ℕ) (at : ℕ) → IsEscape d plain at (get_or d (at + 1) 0) (at + 2)
    → IsCharBoundary d (at + 1)
itself-boundary d at is =
    let within = is.within in
    let last : at + 2 - 1 ≡ at + 1 = omega arith in
    IsCharBoundary-before_ascii d (at + 1) (omega arith)
    (subst (λ k. get_or d k 0 < 128) last is.ascii)

-- ---- escapes by numbers

pub numbered : (d : List ℕ) (at c to : ℕ) → at + 2 ≤ length d → get_or d at 0 ≡ 92
    → get_or d (at + 1) 0 ≡ 117 → IsEscape d after_u (at + 2) c to → IsEscape d plain at c to
unfolding content
numbered d at c to within slash letter is =
    let next : at + 1 + 1 ≡ at + 2 = omega arith in
    let past = is.after_from in
    record {
      within = is.within;
      after_from = omega arith;
      reads = ap (content plain) (first_is d at 92 (omega arith) slash)
          ∙ ap (content after_backslash) (first_is d (at + 1) 117 (omega arith) letter)
          ∙ ap (λ k. content after_u (drop k d)) next ∙ is.reads;
      ascii = is.ascii;
    }

four-from : (d : List ℕ) (i : ℕ) → i + 4 ≤ length d
    → drop i d ≡ get_or d i 0 ∷ get_or d (i + 1) 0 ∷ get_or d (i + 2) 0 ∷ get_or d (i + 3) 0
    ∷ drop (i + 4) d
four-from d i within =
    one i (i + 1) refl (omega arith) ∙ ap (λ l. get_or d i 0 ∷ l)
    (one (i + 1) (i + 2) (omega arith) (omega arith) ∙ ap (λ l. get_or d (i + 1) 0 ∷ l)
    (one (i + 2) (i + 3) (omega arith) (omega arith) ∙ ap (λ l. get_or d (i + 2) 0 ∷ l)
    (one (i + 3) (i + 4) (omega arith) (omega arith))))
  where
    one : (j k : ℕ) → k ≡ j + 1 → j < length d → drop j d ≡ get_or d j 0 ∷ drop k d
    one j k e inside = drop_more d j 0 inside ∙ ap (λ n. get_or d j 0 ∷ drop n d) (sym e)

-- what a code unit stands for, with what follows it
abbrev of_unit : List ℕ → ℕ → Option (List ℕ)
of_unit xs u =
    cond (is_high_surrogate u) (content (after_high u) xs)
    (cond (is_low_surrogate u) None (prepend (encode_utf8 u) (content plain xs)))

unit-reads : (d : List ℕ) (from u : ℕ) → IsCodeUnit d from u
    → content after_u (drop from d) ≡ of_unit (drop (from + 4) d) u
unfolding content
unit-reads d from u is =
    ap (content after_u) (four-from d from is.within)
    ∙ ap (option_and_then (of_unit (drop (from + 4) d))) is.spelled

not-surrogate : (u : ℕ) → IsScalar u → (is_high_surrogate u ≡ false) × (is_low_surrogate u ≡ false)
not-surrogate u scalar = (grind (arith, nat_tests), grind (arith, nat_tests))

unit-ascii : (d : List ℕ) (from u to : ℕ) → to ≡ from + 4 → IsCodeUnit d from u
    → get_or d (to - 1) 0 < 128
unit-ascii d from u to e is =
    let last : to - 1 ≡ from + 3 = omega arith in
    subst (λ k. get_or d k 0 < 128) (sym last) is.ascii

pub alone : (d : List ℕ) (from u : ℕ) → IsCodeUnit d from u → IsScalar u
    → IsEscape d after_u from u (from + 4)
alone d from u is scalar =
    let not = not-surrogate u scalar in
    record {
      within = is.within;
      after_from = omega arith;
      reads = unit-reads d from u is
          ∙ (λ i. cond (not.0 i) (content (after_high u) (drop (from + 4) d))
          (cond (not.1 i) None (prepend (encode_utf8 u) (content plain (drop (from + 4) d)))));
      ascii = unit-ascii d from u (from + 4) refl is;
    }

pub first-half : (d : List ℕ) (from u c to : ℕ) → IsCodeUnit d from u → is_high_surrogate u ≡ true
    → IsEscape d (after_high u) (from + 4) c to → IsEscape d after_u from c to
first-half d from u c to unit high is =
    let past = is.after_from in
    record {
      within = is.within;
      after_from = omega arith;
      reads = unit-reads d from u unit
          ∙ ap (λ b. cond b (content (after_high u) (drop (from + 4) d))
          (cond (is_low_surrogate u) None
          (prepend (encode_utf8 u) (content plain (drop (from + 4) d))))) high
          ∙ is.reads;
      ascii = is.ascii;
    }

pub second-half : (d : List ℕ) (at high low : ℕ) → get_or d at 0 ≡ 92 → get_or d (at + 1) 0 ≡ 117
    → IsCodeUnit d (at + 2) low → is_low_surrogate low ≡ true
    → IsEscape d (after_high high) at (surrogate_pair high low) (at + 6)
unfolding content
second-half d at high low slash letter unit is =
    let inside = unit.within in
    let two : at + 1 + 1 ≡ at + 2 = omega arith in
    let six : at + 2 + 4 ≡ at + 6 = omega arith in
    let whole : drop at d ≡ 92 ∷ 117 ∷ drop (at + 2) d =
    first_is d at 92 (omega arith) slash
    ∙ ap (λ l. 92 ∷ l) (first_is d (at + 1) 117 (omega arith) letter)
    ∙ ap (λ k. 92 ∷ 117 ∷ drop k d) two in
    let pair : List ℕ → ℕ → Option (List ℕ) = λ xs l. cond (is_low_surrogate l)
    (prepend (encode_utf8 (surrogate_pair high l)) (content plain xs)) None in
    record {
      within = omega arith;
      after_from = omega arith;
      reads = ap (content (after_high high))
          (whole ∙ ap (λ l. 92 ∷ 117 ∷ l) (four-from d (at + 2) inside))
          ∙ ap (option_and_then (pair (drop (at + 2 + 4) d))) unit.spelled
          ∙ ap (λ b. cond b (prepend (encode_utf8 (surrogate_pair high low))
          (content plain (drop (at + 2 + 4) d))) None) is
          ∙ ap (λ k. prepend (encode_utf8 (surrogate_pair high low)) (content plain (drop k d))) six;
      ascii = unit-ascii d (at + 2) low (at + 6) (omega arith) unit;
    }

-- four digits below 16 spell a code unit
pub unit-spelled : (a b c e x y z w : ℕ) → x ≡ digit_value a → y ≡ digit_value b
    → z ≡ digit_value c → w ≡ digit_value e → x < 16 → y < 16 → z < 16 → w < 16
    → code_unit a b c e ≡ Some (x * 4096 + y * 256 + z * 16 + w)
unfolding code_unit
unit-spelled a b c e x y z w one two three four i j k l =
    let low : (n m : ℕ) → m ≡ digit_value n → m < 16 → is_digit n 16 ≡ true =
    λ n m is small. lt-ltb (digit_value n) 16 (subst (λ v. v < 16) is small) in
    (λ t. cond (low a x one i t && low b y two j t && low c z three k t && low e w four l t)
    (Some (sym one t * 4096 + sym two t * 256 + sym three t * 16 + sym four t)) None)
