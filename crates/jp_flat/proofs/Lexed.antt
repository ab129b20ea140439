-- What the lexer of JSON makes of a text at an offset.
use Rattle.std.proofs.Common.{◌≡◌, ℕ, suc, ◌+◌, ◌-◌, ◌<◌, ◌≤◌, Bool, true, false, ◌||◌, cond}
use Rattle.std.proofs.Common.{◌==◌}
use Rattle.std.proofs.Common.{List, [], ◌∷◌, ◌++◌, length, take, drop, get_or, Option, Some, None}
use Rattle.std.proofs.Common.{refl, sym, ap, ◌∙◌, arith}
use Rattle.std.proofs.lemmas.Bool.{not-true, or_parts}
use Rattle.std.proofs.lemmas.List.{append_assoc, append-nil, drop_more, drop-drop}
use Rattle.std.proofs.lemmas.List.{length-drop, length-take-le, take_rest}
use Rattle.std.specs.List.{prefix_len}
use Rattle.json.specs.Lex.{Mode, Lexeme, between, in_escape, in_string, lex, lex_byte}
use Rattle.json.specs.Lex.{operator, other, space}
use Rattle.json.specs.Run.{is_plain}
use Rattle.json.specs.Text.{after_backslash, content}
use Rattle.json.specs.Text.{plain, prepend}
use Rattle.json.specs.Word.{is_operator, is_space}
use Rattle.jp_flat.specs.Private.Tokens.{IsEndOf, StandsAt}

-- ---- bytes of a text that stand for themselves

pub prepend-prepend : (a b : List ℕ) (r : Option (List ℕ))
    → prepend a (prepend b r) ≡ prepend (a ++ b) r
prepend-prepend a b None = refl
prepend-prepend a b (Some s) = ap Some (sym (append_assoc a b s))

prepend-nil : (r : Option (List ℕ)) → prepend [] r ≡ r
prepend-nil None = refl
prepend-nil (Some s) = refl

-- what the readers of a text make of its first bytes, so many of them, which are plain
record Passes (n : ℕ) (xs : List ℕ) : Type 0 where
  pub read : content plain xs ≡ prepend (take n xs) (content plain (drop n xs))
  pub lexed : lex in_string xs ≡ lex in_string (drop n xs)

inside : (o s : Bool) (x : ℕ) (r : List ℕ) (k : Mode → List Lexeme)
    → lex_byte in_string (cond o operator (cond s space other)) x r k ≡ k in_string
inside true s x r k = refl
inside false true x r k = refl
inside false false x r k = refl

passes_byte : (p : Bool) (x n : ℕ) (xs : List ℕ) → p ≡ is_plain x → Passes n xs
    → Passes (cond p (1 + n) 0) (x ∷ xs)
unfolding content lex
passes_byte false x n xs e so = record { read = sym (prepend-nil _); lexed = refl }
passes_byte true x n xs e so =
    let next : suc n ≡ 1 + n = omega arith in
    let none = or_parts ((x == 34) || (x == 92)) _ (not-true _ (sym e)) in
    let tests = or_parts (x == 34) _ none.0 in
    record {
      read =
          (λ i. cond (tests.0 i) (Some []) (cond (tests.1 i) (content after_backslash xs)
          (cond (none.1 i) None (prepend (x ∷ []) (so.read i)))))
          ∙ prepend-prepend (x ∷ []) (take n xs) _
          ∙ ap (λ k. prepend (take k (x ∷ xs)) (content plain (drop k (x ∷ xs)))) next;
      lexed =
          rw (tests.0, tests.1) (inside (is_operator x) (is_space x) x xs (λ m. lex m xs))
          ∙ so.lexed ∙ ap (λ k. lex in_string (drop k (x ∷ xs))) next;
    }

passes_run : (xs : List ℕ) → Passes (prefix_len is_plain xs) xs
passes_run [] = record { read = sym (prepend-nil _); lexed = refl }
passes_run (x ∷ xs) =
    passes_byte (is_plain x) x (prefix_len is_plain xs) xs refl (passes_run xs)

-- from an offset on up to the one where the plain bytes stop
pub run_to : (d : List ℕ) (from to : ℕ) → to ≡ from + prefix_len is_plain (drop from d)
    → lex in_string (drop from d) ≡ lex in_string (drop to d)
run_to d from to is =
    (passes_run (drop from d)).lexed ∙ ap (lex in_string) (drop-drop _ from d)
    ∙ ap (λ k. lex in_string (drop k d)) (sym is)

pub read_to : (d : List ℕ) (from to : ℕ) → to ≡ from + prefix_len is_plain (drop from d)
    → content plain (drop from d) ≡ prepend (take (to - from) (drop from d)) (content plain (drop to d))
read_to d from to is =
    let n : prefix_len is_plain (drop from d) ≡ to - from = omega arith in
    (passes_run (drop from d)).read
    ∙ ap (λ l. prepend (take (prefix_len is_plain (drop from d)) (drop from d)) (content plain l))
    (drop-drop _ from d ∙ ap (λ k. drop k d) (sym is))
    ∙ ap (λ k. prepend (take k (drop from d)) (content plain (drop to d))) n

-- ---- the end of a text

pub first_is : (d : List ℕ) (at x : ℕ) → at < length d → get_or d at 0 ≡ x
    → drop at d ≡ x ∷ drop (at + 1) d
first_is d at x within e = drop_more d at 0 within ∙ ap (λ y. y ∷ drop (at + 1) d) e

pub string_ends : (d : List ℕ) (at : ℕ) → at < length d → get_or d at 0 ≡ 34
    → lex in_string (drop at d) ≡ lex between (drop (at + 1) d)
unfolding lex
string_ends d at within e = ap (lex in_string) (first_is d at 34 within e)

pub read_ends : (d : List ℕ) (at : ℕ) → at < length d → get_or d at 0 ≡ 34
    → content plain (drop at d) ≡ Some []
unfolding content
read_ends d at within e = ap (content plain) (first_is d at 34 within e)

pub escape_passes : (d : List ℕ) (at : ℕ) → at + 2 ≤ length d → get_or d at 0 ≡ 92
    → lex in_string (drop at d) ≡ lex in_string (drop (at + 2) d)
unfolding lex
escape_passes d at within e =
    let next : at + 1 + 1 ≡ at + 2 = omega arith in
    ap (lex in_string) (first_is d at 92 (omega arith) e)
    ∙ ap (lex in_escape) (drop_more d (at + 1) 0 (omega arith))
    ∙ ap (λ k. lex in_string (drop k d)) next

pub plain_text : (d : List ℕ) (from to : ℕ) → to ≡ from + prefix_len is_plain (drop from d)
    → to < length d → get_or d to 0 ≡ 34
    → content plain (drop from d) ≡ Some (take (to - from) (drop from d))
plain_text d from to is within quote =
    read_to d from to is
    ∙ ap (prepend (take (to - from) (drop from d))) (read_ends d to within quote)
    ∙ ap Some (append-nil _)

-- a part of a text stands where it is cut
pub part_stands : (d : List ℕ) (first end : ℕ) → first ≤ end → end ≤ length d
    → StandsAt d first (take (end - first) (drop first d))
part_stands d first end after within =
    let long : length (take (end - first) (drop first d)) ≡ end - first =
    length-take-le (end - first) (drop first d) (omega (arith, length-drop first d)) in
    record { within = omega (arith, long); is = ap (λ n. take n (drop first d)) long }

-- ---- a text with escapes stands to the end of the document

pub end-stands : (d : List ℕ) (at : ℕ) → at ≤ length d
    → IsEndOf d (take (length d - at) (drop at d))
end-stands d at within =
    let all : take (length d - at) (drop at d) ≡ drop at d = take_rest d at in
    let long : length d - length (drop at d) ≡ at = omega (arith, length-drop at d) in
    rw all (ap (λ k. drop k d) long)

pub past-quote : (d : List ℕ) (from : ℕ) → 0 < from
    → drop 1 (take (length d - (from - 1)) (drop (from - 1) d)) ≡ drop from d
past-quote d from some =
    let back : from - 1 + 1 ≡ from = omega arith in
    ap (drop 1) (take_rest d (from - 1)) ∙ drop-drop 1 (from - 1) d ∙ ap (λ k. drop k d) back
