-- The tokens from an offset on, by what stands there.
use Rattle.std.proofs.Common.{◌≡◌, ℕ, ◌+◌, ◌-◌, ◌<◌, ◌≤◌, Bool, true, false, ◌||◌, ◌==◌, cond, List}
use Rattle.std.proofs.Common.{[]}
use Rattle.std.proofs.Common.{◌∷◌, ◌++◌, ◌⊎◌, inl, inr, length, take, drop, get_or, Option, Some}
use Rattle.std.proofs.Common.{None}
use Rattle.std.proofs.Common.{option_and_then, refl, sym, ap, ◌∙◌, subst, arith}
use Rattle.std.proofs.lemmas.Bool.{eqb-true, ne_eqb, or_cases}
use Rattle.std.proofs.lemmas.List.{get_or-drop, drop_all, drop-drop, take-append-drop}
use Rattle.std.specs.Char.{is_ascii_digit}
use Rattle.std.specs.List.{prefix_len}
use Rattle.json.specs.Align.{is_good}
use Rattle.json.specs.Lex.{Lexeme, Place, after_comma, after_key, after_value, begins_colon}
use Rattle.json.specs.Lex.{between}
use Rattle.json.specs.Lex.{colon, comma, fresh, in_string, in_word, lex, may_begin, may_close}
use Rattle.json.specs.Lex.{place_token, punctuate, string_token}
use Rattle.json.specs.Text.{content, plain}
use Rattle.json.specs.Token as spec
use Rattle.json.specs.Word.{after_digits, after_exponent, after_fraction, after_minus, after_number}
use Rattle.json.specs.Word.{after_sign, after_whole, ends_word, is_space, word}
use Rattle.json.proofs.Printed.Numbers.{in_word-ended, lex-number, number_alone}
use Rattle.jp_flat.specs.Private.Tokens.{EndsWhole, GivesToken, IsLiteral, IsSpelledFrom, ends_byte}
use Rattle.jp_flat.specs.Private.Tokens.{key_token}
use Rattle.jp_flat.specs.Private.Tokens.{said, tokens_from, expected_of}
use Rattle.jp_flat.specs.declared.cursor.Point.{Point}
use Rattle.jp_flat.specs.declared.token.Spelled.{Spelled}
use Rattle.jp_flat.proofs.Lexed.{first_is}

-- ---- what stands at an offset

pub blank_at : (d : List ℕ) (at : ℕ) → at < length d → is_space (get_or d at 0) ≡ true
    → lex between (drop at d) ≡ lex between (drop (at + 1) d)
unfolding lex
blank_at d at within e = go (or_cases _ _ e)
  where
    x : ℕ
    x = get_or d at 0

    is : (y : ℕ) → lex between (y ∷ drop (at + 1) d) ≡ lex between (drop (at + 1) d)
        → (x == y) ≡ true → lex between (drop at d) ≡ lex between (drop (at + 1) d)
    is y so same = ap (lex between) (first_is d at y within (eqb-true _ _ same)) ∙ so

    go3 : ((x == 32) ≡ true) ⊎ ((x == 9) ≡ true)
        → lex between (drop at d) ≡ lex between (drop (at + 1) d)
    go3 (inl a) = is 32 refl a
    go3 (inr a) = is 9 refl a

    go2 : (((x == 32) || (x == 9)) ≡ true) ⊎ ((x == 10) ≡ true)
        → lex between (drop at d) ≡ lex between (drop (at + 1) d)
    go2 (inl a) = go3 (or_cases _ _ a)
    go2 (inr a) = is 10 refl a

    go : (((x == 32) || (x == 9) || (x == 10)) ≡ true) ⊎ ((x == 13) ≡ true)
        → lex between (drop at d) ≡ lex between (drop (at + 1) d)
    go (inl a) = go2 (or_cases _ _ a)
    go (inr a) = is 13 refl a

pub comma_at : (d : List ℕ) (at : ℕ) → at < length d → get_or d at 0 ≡ 44
    → lex between (drop at d) ≡ comma ∷ lex between (drop (at + 1) d)
unfolding lex
comma_at d at within e = ap (lex between) (first_is d at 44 within e)

colon_at : (d : List ℕ) (at : ℕ) → at < length d → get_or d at 0 ≡ 58
    → lex between (drop at d) ≡ colon ∷ lex between (drop (at + 1) d)
unfolding lex
colon_at d at within e = ap (lex between) (first_is d at 58 within e)

quote_at : (d : List ℕ) (at : ℕ) → at < length d → get_or d at 0 ≡ 34
    → lex between (drop at d)
    ≡ Lexeme.token (string_token (content plain (drop (at + 1) d))) ∷ lex in_string (drop (at + 1) d)
unfolding lex
quote_at d at within e = ap (lex between) (first_is d at 34 within e)

pub end_object_at : (d : List ℕ) (at : ℕ) → at < length d → get_or d at 0 ≡ 125
    → lex between (drop at d) ≡ Lexeme.token spec.end_object ∷ lex between (drop (at + 1) d)
unfolding lex
end_object_at d at within e = ap (lex between) (first_is d at 125 within e)

pub end_array_at : (d : List ℕ) (at : ℕ) → at < length d → get_or d at 0 ≡ 93
    → lex between (drop at d) ≡ Lexeme.token spec.end_array ∷ lex between (drop (at + 1) d)
unfolding lex
end_array_at d at within e = ap (lex between) (first_is d at 93 within e)

object_at : (d : List ℕ) (at : ℕ) → at < length d → get_or d at 0 ≡ 123
    → lex between (drop at d) ≡ Lexeme.token spec.begin_object ∷ lex between (drop (at + 1) d)
unfolding lex
object_at d at within e = ap (lex between) (first_is d at 123 within e)

array_at : (d : List ℕ) (at : ℕ) → at < length d → get_or d at 0 ≡ 91
    → lex between (drop at d) ≡ Lexeme.token spec.begin_array ∷ lex between (drop (at + 1) d)
unfolding lex
array_at d at within e = ap (lex between) (first_is d at 91 within e)

-- no colon at the end, and none where one of these bytes stands
pub no_colon_end : (d : List ℕ) (at : ℕ) → length d ≤ at
    → begins_colon (lex between (drop at d)) ≡ false
unfolding lex
no_colon_end d at over = ap (λ r. begins_colon (lex between r)) (drop_all at d over)

pub no_colon_comma : (d : List ℕ) (at : ℕ) → at < length d → get_or d at 0 ≡ 44
    → begins_colon (lex between (drop at d)) ≡ false
no_colon_comma d at within e = ap begins_colon (comma_at d at within e)

pub no_colon_brace : (d : List ℕ) (at : ℕ) → at < length d → get_or d at 0 ≡ 125
    → begins_colon (lex between (drop at d)) ≡ false
no_colon_brace d at within e = ap begins_colon (end_object_at d at within e)

pub no_colon_bracket : (d : List ℕ) (at : ℕ) → at < length d → get_or d at 0 ≡ 93
    → begins_colon (lex between (drop at d)) ≡ false
no_colon_bracket d at within e = ap begins_colon (end_array_at d at within e)

-- ---- what may stand there

by_begin : (P : Place → Type 0) → P fresh → P after_comma → (p : Place) → may_begin p ≡ true → P p
by_begin P a b fresh m = a
by_begin P a b after_value m = absurd (cc m)
by_begin P a b after_comma m = b
by_begin P a b after_key m = absurd (cc m)

by_close : (P : Place → Type 0) → P fresh → P after_value → (p : Place) → may_close p ≡ true → P p
by_close P a b fresh m = a
by_close P a b after_value m = b
by_close P a b after_comma m = absurd (cc m)
by_close P a b after_key m = absurd (cc m)

pub comma_passes : (ls : List Lexeme) → punctuate after_value (comma ∷ ls) ≡ punctuate after_comma ls
unfolding punctuate
comma_passes ls = refl

pub gives_object : (d : List ℕ) (from to : Point) → from.at < length d → get_or d from.at 0 ≡ 123
    → may_begin (expected_of from.expected) ≡ true
    → tokens_from d to ≡ punctuate fresh (lex between (drop (from.at + 1) d))
    → GivesToken d from spec.begin_object to
unfolding punctuate
gives_object d from to within byte begins goes good =
    let ls = lex between (drop (from.at + 1) d) in
    ap (punctuate (expected_of from.expected)) (object_at d from.at within byte)
    ∙ by_begin (λ p. punctuate p (Lexeme.token spec.begin_object ∷ ls) ≡ spec.begin_object ∷ punctuate fresh ls)
    refl refl (expected_of from.expected) begins ∙ ap (λ ts. spec.begin_object ∷ ts) (sym goes)

pub gives_array : (d : List ℕ) (from to : Point) → from.at < length d → get_or d from.at 0 ≡ 91
    → may_begin (expected_of from.expected) ≡ true
    → tokens_from d to ≡ punctuate fresh (lex between (drop (from.at + 1) d))
    → GivesToken d from spec.begin_array to
unfolding punctuate
gives_array d from to within byte begins goes good =
    let ls = lex between (drop (from.at + 1) d) in
    ap (punctuate (expected_of from.expected)) (array_at d from.at within byte)
    ∙ by_begin (λ p. punctuate p (Lexeme.token spec.begin_array ∷ ls) ≡ spec.begin_array ∷ punctuate fresh ls)
    refl refl (expected_of from.expected) begins ∙ ap (λ ts. spec.begin_array ∷ ts) (sym goes)

pub gives_end_object : (d : List ℕ) (from to : Point) → from.at < length d
    → get_or d from.at 0 ≡ 125 → may_close (expected_of from.expected) ≡ true
    → tokens_from d to ≡ punctuate after_value (lex between (drop (from.at + 1) d))
    → GivesToken d from spec.end_object to
unfolding punctuate
gives_end_object d from to within byte closes goes good =
    let ls = lex between (drop (from.at + 1) d) in
    ap (punctuate (expected_of from.expected)) (end_object_at d from.at within byte)
    ∙ by_close (λ p. punctuate p (Lexeme.token spec.end_object ∷ ls) ≡ spec.end_object ∷ punctuate after_value ls)
    refl refl (expected_of from.expected) closes ∙ ap (λ ts. spec.end_object ∷ ts) (sym goes)

pub gives_end_array : (d : List ℕ) (from to : Point) → from.at < length d
    → get_or d from.at 0 ≡ 93 → may_close (expected_of from.expected) ≡ true
    → tokens_from d to ≡ punctuate after_value (lex between (drop (from.at + 1) d))
    → GivesToken d from spec.end_array to
unfolding punctuate
gives_end_array d from to within byte closes goes good =
    let ls = lex between (drop (from.at + 1) d) in
    ap (punctuate (expected_of from.expected)) (end_array_at d from.at within byte)
    ∙ by_close (λ p. punctuate p (Lexeme.token spec.end_array ∷ ls) ≡ spec.end_array ∷ punctuate after_value ls)
    refl refl (expected_of from.expected) closes ∙ ap (λ ts. spec.end_array ∷ ts) (sym goes)

-- ---- names and texts

-- the lexemes from a quote on, where the text between the quotes is x
spelled_at : (d : List ℕ) (at end next : ℕ) (s : Spelled) (x : List ℕ) → at < length d
    → get_or d at 0 ≡ 34 → IsSpelledFrom d (at + 1) end s → said s ≡ Some x
    → lex between (drop next d) ≡ lex between (drop end d)
    → lex between (drop at d) ≡ Lexeme.token (spec.string x) ∷ lex between (drop next d)
spelled_at d at end next s x within byte is says same =
    quote_at d at within byte
    ∙ ap (λ o. Lexeme.token (string_token o) ∷ lex in_string (drop (at + 1) d)) (is.reads x says)
    ∙ ap (λ ls. Lexeme.token (spec.string x) ∷ ls) (is.passes ∙ sym same)

pub gives_key : (d : List ℕ) (from to : Point) (end next : ℕ) (s : Spelled) → from.at < length d
    → get_or d from.at 0 ≡ 34 → may_begin (expected_of from.expected) ≡ true
    → IsSpelledFrom d (from.at + 1) end s → lex between (drop next d) ≡ lex between (drop end d)
    → next < length d → get_or d next 0 ≡ 58
    → tokens_from d to ≡ punctuate fresh (lex between (drop (next + 1) d))
    → GivesToken d from (key_token (said s)) to
unfolding punctuate
gives_key d from to end next s within byte begins is same room colon_there goes = go (said s) refl
  where
    go : (o : Option (List ℕ)) → said s ≡ o → is_good (key_token (said s)) ≡ true
        → tokens_from d from ≡ key_token (said s) ∷ tokens_from d to
    go None says good = absurd (cc (sym good ∙ ap (λ o. is_good (key_token o)) says))
    go (Some x) says good =
        let ls = lex between (drop (next + 1) d) in
        ap (punctuate (expected_of from.expected))
        (spelled_at d from.at end next s x within byte is says same
        ∙ ap (λ l. Lexeme.token (spec.string x) ∷ l) (colon_at d next room colon_there))
        ∙ by_begin (λ p. punctuate p (Lexeme.token (spec.string x) ∷ colon ∷ ls) ≡ spec.key x ∷ punctuate fresh ls)
        refl refl (expected_of from.expected) begins
        ∙ ap (λ ts. spec.key x ∷ ts) (sym goes)
        ∙ ap (λ o. key_token o ∷ tokens_from d to) (sym says)

pub gives_text : (d : List ℕ) (from to : Point) (end next : ℕ) (s : Spelled) → from.at < length d
    → get_or d from.at 0 ≡ 34 → may_begin (expected_of from.expected) ≡ true
    → IsSpelledFrom d (from.at + 1) end s → lex between (drop next d) ≡ lex between (drop end d)
    → begins_colon (lex between (drop next d)) ≡ false
    → tokens_from d to ≡ punctuate after_value (lex between (drop next d))
    → GivesToken d from (string_token (said s)) to
unfolding punctuate
gives_text d from to end next s within byte begins is same plain_next goes = go (said s) refl
  where
    go : (o : Option (List ℕ)) → said s ≡ o → is_good (string_token (said s)) ≡ true
        → tokens_from d from ≡ string_token (said s) ∷ tokens_from d to
    go None says good = absurd (cc (sym good ∙ ap (λ o. is_good (string_token o)) says))
    go (Some x) says good =
        let ls = lex between (drop next d) in
        ap (punctuate (expected_of from.expected)) (spelled_at d from.at end next s x within byte is says same)
        ∙ by_begin (λ p. punctuate p (Lexeme.token (spec.string x) ∷ ls) ≡ spec.string x ∷ punctuate after_value ls)
        (ap (λ b. place_token fresh (spec.string x) b (λ to. punctuate to ls)) plain_next)
        (ap (λ b. place_token after_comma (spec.string x) b (λ to. punctuate to ls)) plain_next)
        (expected_of from.expected) begins
        ∙ ap (λ ts. spec.string x ∷ ts) (sym goes)
        ∙ ap (λ o. string_token o ∷ tokens_from d to) (sym says)

-- ---- literals and numbers

pub is_true : IsLiteral (116 ∷ 114 ∷ 117 ∷ 101 ∷ []) (spec.boolean true)
unfolding lex punctuate word
is_true = record {
  lexes = λ rest ends.
      ap (λ b. Lexeme.token (cond b (spec.boolean true) spec.bad) ∷ lex in_word rest) ends
      ∙ ap (λ ls. Lexeme.token (spec.boolean true) ∷ ls) (in_word-ended rest ends);
  goes = λ p ls m.
      by_begin (λ p. punctuate p (Lexeme.token (spec.boolean true) ∷ ls) ≡ spec.boolean true ∷ punctuate after_value ls)
      refl refl p m;
}

pub is_false : IsLiteral (102 ∷ 97 ∷ 108 ∷ 115 ∷ 101 ∷ []) (spec.boolean false)
unfolding lex punctuate word
is_false = record {
  lexes = λ rest ends.
      ap (λ b. Lexeme.token (cond b (spec.boolean false) spec.bad) ∷ lex in_word rest) ends
      ∙ ap (λ ls. Lexeme.token (spec.boolean false) ∷ ls) (in_word-ended rest ends);
  goes = λ p ls m.
      by_begin (λ p. punctuate p (Lexeme.token (spec.boolean false) ∷ ls) ≡ spec.boolean false ∷ punctuate after_value ls)
      refl refl p m;
}

pub is_null : IsLiteral (110 ∷ 117 ∷ 108 ∷ 108 ∷ []) spec.null
unfolding lex punctuate word
is_null = record {
  lexes = λ rest ends.
      ap (λ b. Lexeme.token (cond b spec.null spec.bad) ∷ lex in_word rest) ends
      ∙ ap (λ ls. Lexeme.token spec.null ∷ ls) (in_word-ended rest ends);
  goes = λ p ls m.
      by_begin (λ p. punctuate p (Lexeme.token spec.null ∷ ls) ≡ spec.null ∷ punctuate after_value ls)
      refl refl p m;
}

-- a literal of so many characters stands at an offset
pub literal-there : (d : List ℕ) (at count : ℕ) (name : List ℕ) (token : spec.Token)
    → take count (drop at d) ≡ name → IsLiteral name token
    → IsLiteral (take (at + count - at) (drop at d)) token
literal-there d at count name token there is =
    let n : at + count - at ≡ count = omega arith in
    subst (λ s. IsLiteral s token) (sym (ap (λ k. take k (drop at d)) n ∙ there)) is

pub gives_literal : (d name : List ℕ) (token : spec.Token) (from to : Point) (end : ℕ)
    → IsLiteral name token → may_begin (expected_of from.expected) ≡ true → from.at ≤ end
    → name ≡ take (end - from.at) (drop from.at d) → ends_word (drop end d) ≡ true
    → tokens_from d to ≡ punctuate after_value (lex between (drop end d)) → GivesToken d from token to
gives_literal d name token from to end is begins after there ends goes good =
    let back : from.at + (end - from.at) ≡ end = omega arith in
    let cut : name ++ drop end d ≡ drop from.at d =
    ap (λ n. n ++ drop end d) there
    ∙ ap (λ r. take (end - from.at) (drop from.at d) ++ r)
    (sym (drop-drop (end - from.at) from.at d ∙ ap (λ k. drop k d) back))
    ∙ take-append-drop (end - from.at) (drop from.at d) in
    ap (λ t. punctuate (expected_of from.expected) (lex between t)) (sym cut)
    ∙ ap (punctuate (expected_of from.expected)) (is.lexes (drop end d) ends)
    ∙ is.goes (expected_of from.expected) _ begins ∙ ap (λ ts. token ∷ ts) (sym goes)

pub is_number : (d : List ℕ) (from end : ℕ) → from ≤ end
    → after_number (drop from d) ≡ Some (drop end d) → ends_word (drop end d) ≡ true
    → IsLiteral (take (end - from) (drop from d)) (spec.number (take (end - from) (drop from d)))
unfolding punctuate
is_number d from end after whole ends =
    let s = take (end - from) (drop from d) in
    let back : from + (end - from) ≡ end = omega arith in
    let cut : s ++ drop end d ≡ drop from d =
    ap (λ r. s ++ r) (sym (drop-drop (end - from) from d ∙ ap (λ k. drop k d) back))
    ∙ take-append-drop (end - from) (drop from d) in
    let alone = number_alone s (drop end d) ends (ap after_number cut ∙ whole) in
    record {
      lexes = λ rest e. lex-number s rest alone e;
      goes = λ p ls m.
          by_begin (λ p. punctuate p (Lexeme.token (spec.number s) ∷ ls) ≡ spec.number s ∷ punctuate after_value ls)
          refl refl p m;
    }

get_or-front : (d : List ℕ) (at : ℕ) → get_or (drop at d) 0 32 ≡ get_or d at 32
get_or-front d at = get_or-drop at d 0 32 ∙ ap (λ k. get_or d k 32) (let e : at + 0 ≡ at = omega arith in e)

-- some digits stand from an offset to another
pub digits-there : (d : List ℕ) (at end : ℕ) → end ≡ at + prefix_len is_ascii_digit (drop at d)
    → at < end → after_digits (drop at d) ≡ Some (drop end d)
digits-there d at end is some =
    let n : prefix_len is_ascii_digit (drop at d) ≡ end - at = omega arith in
    let back : at + (end - at) ≡ end = omega arith in
    ap (λ k. cond (k == 0) None (Some (drop k (drop at d)))) n
    ∙ ap (λ b. cond b None (Some (drop (end - at) (drop at d)))) (ne_eqb (end - at) 0 (λ z. omega arith))
    ∙ ap Some (drop-drop (end - at) at d ∙ ap (λ k. drop k d) back)

-- the digits from `first` to `end`, behind the minus, if there is one
pub whole-part : (d : List ℕ) (from first end : ℕ) → after_minus (drop from d) ≡ drop first d
    → end ≡ first + prefix_len is_ascii_digit (drop first d) → first < end → first < length d
    → (get_or d first 0 ≡ 48 → end ≡ first + 1)
    → after_whole (after_minus (drop from d)) ≡ Some (drop end d)
whole-part d from first end minus is some within zero =
    ap after_whole minus ∙ go (get_or d first 0 == 48) refl
  where
    go : (b : Bool) → (get_or d first 0 == 48) ≡ b → after_whole (drop first d) ≡ Some (drop end d)
    go true e =
        let byte : get_or d first 0 ≡ 48 = eqb-true _ _ e in
        ap after_whole (first_is d first 48 within byte) ∙ ap (λ k. Some (drop k d)) (sym (zero byte))
    go false e =
        ap after_whole (first_is d first _ within refl)
        ∙ ap (λ b. cond b (Some (drop (first + 1) d)) (after_digits (get_or d first 0 ∷ drop (first + 1) d))) e
        ∙ ap after_digits (sym (first_is d first _ within refl)) ∙ digits-there d first end is some

-- a number by its parts
pub number-there : (d : List ℕ) (from whole point end : ℕ)
    → after_whole (after_minus (drop from d)) ≡ Some (drop whole d)
    → after_fraction (drop whole d) ≡ Some (drop point d)
    → after_exponent (drop point d) ≡ Some (drop end d)
    → after_number (drop from d) ≡ Some (drop end d)
unfolding after_number
number-there d from whole point end one two three =
    ap (λ o. option_and_then after_exponent (option_and_then after_fraction o)) one
    ∙ ap (option_and_then after_exponent) two ∙ three

pub point-there : (d : List ℕ) (at end : ℕ) → at < length d → get_or d at 0 ≡ 46
    → after_digits (drop (at + 1) d) ≡ Some (drop end d) → after_fraction (drop at d) ≡ Some (drop end d)
point-there d at end within byte later = ap after_fraction (first_is d at 46 within byte) ∙ later

pub no-point : (d : List ℕ) (at : ℕ) → (get_or d at 32 == 46) ≡ false
    → after_fraction (drop at d) ≡ Some (drop at d)
no-point d at off = ap (λ b. cond b (after_digits (drop 1 (drop at d))) (Some (drop at d)))
    (ap (λ x. x == 46) (get_or-front d at) ∙ off)

pub exponent-there : (d : List ℕ) (at first end : ℕ)
    → ((get_or d at 32 == 101) || (get_or d at 32 == 69)) ≡ true
    → after_sign (drop (at + 1) d) ≡ drop first d → after_digits (drop first d) ≡ Some (drop end d)
    → after_exponent (drop at d) ≡ Some (drop end d)
exponent-there d at first end on sign later =
    ap (λ b. cond b (after_digits (after_sign (drop 1 (drop at d)))) (Some (drop at d)))
    (ap (λ x. (x == 101) || (x == 69)) (get_or-front d at) ∙ on)
    ∙ ap (λ r. after_digits (after_sign r)) (drop-drop 1 at d)
    ∙ ap after_digits sign ∙ later

pub no-exponent : (d : List ℕ) (at : ℕ)
    → ((get_or d at 32 == 101) || (get_or d at 32 == 69)) ≡ false
    → after_exponent (drop at d) ≡ Some (drop at d)
no-exponent d at off =
    ap (λ b. cond b (after_digits (after_sign (drop 1 (drop at d)))) (Some (drop at d)))
    (ap (λ x. (x == 101) || (x == 69)) (get_or-front d at) ∙ off)

pub sign-there : (d : List ℕ) (at : ℕ)
    → ((get_or d at 32 == 45) || (get_or d at 32 == 43)) ≡ true
    → after_sign (drop at d) ≡ drop (at + 1) d
sign-there d at on =
    ap (λ b. cond b (drop 1 (drop at d)) (drop at d))
    (ap (λ x. (x == 45) || (x == 43)) (get_or-front d at) ∙ on)
    ∙ drop-drop 1 at d

pub no-sign : (d : List ℕ) (at : ℕ) → ((get_or d at 32 == 45) || (get_or d at 32 == 43)) ≡ false
    → after_sign (drop at d) ≡ drop at d
no-sign d at off =
    ap (λ b. cond b (drop 1 (drop at d)) (drop at d))
    (ap (λ x. (x == 45) || (x == 43)) (get_or-front d at) ∙ off)

pub minus_there : (d : List ℕ) (from : ℕ) → from < length d → get_or d from 0 ≡ 45
    → after_minus (drop from d) ≡ drop (from + 1) d
minus_there d from within byte = ap after_minus (first_is d from 45 within byte)

pub no_minus : (d : List ℕ) (from : ℕ) → from < length d → (get_or d from 0 == 45) ≡ false
    → after_minus (drop from d) ≡ drop from d
no_minus d from within e =
    let first = first_is d from (get_or d from 0) within refl in
    ap after_minus first
    ∙ ap (λ b. cond b (drop (from + 1) d) (get_or d from 0 ∷ drop (from + 1) d)) e ∙ sym first

pub ends_nowhere : (d : List ℕ) (at : ℕ) → length d ≤ at → EndsWhole (drop at d)
ends_nowhere d at over =
    subst EndsWhole (sym (drop_all at d over)) (record { word = refl; point = refl; power = refl })

pub ends_at : (d : List ℕ) (at : ℕ) → at < length d → ends_byte (get_or d at 0) ≡ true
    → EndsWhole (drop at d)
ends_at d at within e = go (or_cases _ _ e)
  where
    x : ℕ
    x = get_or d at 0

    is : (y : ℕ) → EndsWhole (y ∷ drop (at + 1) d) → (x == y) ≡ true → EndsWhole (drop at d)
    is y so same = subst EndsWhole (sym (first_is d at y within (eqb-true _ _ same))) so

    go6 : ((x == 32) ≡ true) ⊎ ((x == 9) ≡ true) → EndsWhole (drop at d)
    go6 (inl a) = is 32 (record { word = refl; point = refl; power = refl }) a
    go6 (inr a) = is 9 (record { word = refl; point = refl; power = refl }) a

    go5 : (((x == 32) || (x == 9)) ≡ true) ⊎ ((x == 10) ≡ true) → EndsWhole (drop at d)
    go5 (inl a) = go6 (or_cases _ _ a)
    go5 (inr a) = is 10 (record { word = refl; point = refl; power = refl }) a

    go4 : (((x == 32) || (x == 9) || (x == 10)) ≡ true) ⊎ ((x == 13) ≡ true) → EndsWhole (drop at d)
    go4 (inl a) = go5 (or_cases _ _ a)
    go4 (inr a) = is 13 (record { word = refl; point = refl; power = refl }) a

    go3 : ((x == 44) ≡ true) ⊎ ((x == 125) ≡ true) → EndsWhole (drop at d)
    go3 (inl a) = is 44 (record { word = refl; point = refl; power = refl }) a
    go3 (inr a) = is 125 (record { word = refl; point = refl; power = refl }) a

    go2 : (((x == 44) || (x == 125)) ≡ true) ⊎ ((x == 93) ≡ true) → EndsWhole (drop at d)
    go2 (inl a) = go3 (or_cases _ _ a)
    go2 (inr a) = is 93 (record { word = refl; point = refl; power = refl }) a

    go : (((x == 44) || (x == 125) || (x == 93)) ≡ true) ⊎ (is_space x ≡ true)
        → EndsWhole (drop at d)
    go (inl a) = go2 (or_cases _ _ a)
    go (inr a) = go4 (or_cases _ _ a)

-- ---- the end

pub done_there : (d : List ℕ) (p : Point) → length d ≤ p.at → may_close (expected_of p.expected) ≡ true
    → tokens_from d p ≡ []
unfolding lex punctuate
done_there d p over closes =
    ap (λ r. punctuate (expected_of p.expected) (lex between r)) (drop_all p.at d over)
    ∙ by_close (λ q. punctuate q [] ≡ []) refl refl (expected_of p.expected) closes
