-- What stands where the cursor gives no token: for `what_stands`.
use Rattle.std.proofs.Common.{◌≡◌, ◌≢◌, ℕ, ◌<◌, Bool, true, false, cond, ◌==◌, List, [], ◌∷◌, ◌⊎◌, inl, inr}
use Rattle.std.proofs.Common.{Option, Some, None, drop, get_or, length, ◌+◌, refl, sym, ap, ◌∙◌, subst, if◌then◌else◌}
use Rattle.std.proofs.lemmas.Bool.{true≢false, false≢true, ne_eqb}
use Rattle.json.specs.Align.{is_blank}
use Rattle.json.specs.Lex.{Class, Lexeme, after_comma, after_value, backslash, begins_colon, between, class}
use Rattle.json.specs.Lex.{fresh}
use Rattle.json.specs.Lex.{in_string, in_word, lex, lex_byte, may_begin, may_close, operator, operator_lexeme, other}
use Rattle.json.specs.Lex.{place_token, punctuate, quote, space, string_token}
use Rattle.json.specs.Text.{content, plain}
use Rattle.json.specs.Token.{Token}
use Rattle.json.specs.Word.{after_number, ends_word, head, is_operator, is_space, number_before, word}
use Rattle.jp_flat.specs.Private.NoJson.{IsMet}
use Rattle.jp_flat.specs.Private.Tokens.{expected_of}
use Rattle.jp_flat.specs.declared.cursor.Expected.{Expected}
use Rattle.jp_flat.specs.declared.cursor.Expected.TheVariants.{AfterComma, AfterValue, Fresh}
use Rattle.jp_flat.specs.declared.met.Met.{Met}
use Rattle.jp_flat.specs.declared.met.Met.TheVariants.{End, Fault, Other}
use Rattle.jp_flat.proofs.Lexed.{first_is}

-- ---- the first byte behind an offset

pub head-at : (d : List ℕ) (at : ℕ) → at < length d → head (drop at d) ≡ get_or d at 0
head-at d at within = ap head (first_is d at (get_or d at 0) within refl)

solid-class : (q b o s : Bool) → s ≡ false
    → is_blank (cond q quote (cond b backslash (cond o operator (cond s space other)))) ≡ false
solid-class true b o s solid = refl
solid-class false true o s solid = refl
solid-class false false true s solid = refl
solid-class false false false true solid = absurd (true≢false solid)
solid-class false false false false solid = refl

-- ---- the first lexeme, where no blank comes first and no bracket that closes

abbrev pub Opens : Lexeme → Type 0
Opens (Lexeme.token Token.end_object) = ⊥
Opens (Lexeme.token Token.end_array) = ⊥
Opens (Lexeme.token (Token.key s)) = ⊥
Opens _ = Unit {0}

abbrev pub is_comma : Lexeme → Bool
is_comma Lexeme.comma = true
is_comma _ = false

pub record Opening (t : List ℕ) : Type 0 where
  pub lexeme : Lexeme
  pub more : List Lexeme
  pub is : lex between t ≡ lexeme ∷ more
  pub opens : Opens lexeme
  pub comma : head t ≢ 44 → is_comma lexeme ≡ false

text-opens : (o : Option (List ℕ)) → Opens (Lexeme.token (string_token o))
text-opens None = tt
text-opens (Some s) = tt

either : (b : Bool) (x y : Token) → Opens (Lexeme.token x) → Opens (Lexeme.token y)
    → Opens (Lexeme.token (cond b x y))
either true x y p q = p
either false x y p q = q

number-opens : (t : List ℕ) (o : Option (List ℕ)) → Opens (Lexeme.token (number_before t o))
number-opens t None = tt
number-opens t (Some r) = either (ends_word r) _ Token.bad tt tt

word-opens : (t : List ℕ) → Opens (Lexeme.token (word t))
unfolding word
word-opens t =
    either (head t == 116) _ _ (either _ (Token.boolean true) Token.bad tt tt)
    (either (head t == 102) _ _ (either _ (Token.boolean false) Token.bad tt tt)
    (either (head t == 110) _ _ (either _ Token.null Token.bad tt tt) (number-opens t (after_number t))))

operator-opens : (a b c d e : Bool) → b ≡ false → d ≡ false
    → Opens (cond a (Lexeme.token Token.begin_object) (cond b (Lexeme.token Token.end_object)
    (cond c (Lexeme.token Token.begin_array) (cond d (Lexeme.token Token.end_array)
    (cond e Lexeme.comma Lexeme.colon)))))
operator-opens true b c d e p q = tt
operator-opens false true c d e p q = absurd (true≢false p)
operator-opens false false true d e p q = tt
operator-opens false false false true e p q = absurd (true≢false q)
operator-opens false false false false true p q = tt
operator-opens false false false false false p q = tt

no-comma : (a b c d e : Bool) → e ≡ false
    → is_comma (cond a (Lexeme.token Token.begin_object) (cond b (Lexeme.token Token.end_object)
    (cond c (Lexeme.token Token.begin_array) (cond d (Lexeme.token Token.end_array)
    (cond e Lexeme.comma Lexeme.colon))))) ≡ false
no-comma true b c d e p = refl
no-comma false true c d e p = refl
no-comma false false true d e p = refl
no-comma false false false true e p = refl
no-comma false false false false true p = absurd (true≢false p)
no-comma false false false false false p = refl

opening : (c : Class) (x : ℕ) (xs : List ℕ) → class x ≡ c → is_blank c ≡ false → x ≢ 125 → x ≢ 93
    → Opening (x ∷ xs)
unfolding lex
opening quote x xs e solid brace bracket = record {
  lexeme = Lexeme.token (string_token (content plain xs));
  more = lex in_string xs;
  is = ap (λ k. lex_byte between k x xs (λ m. lex m xs)) e;
  opens = text-opens (content plain xs);
  comma = λ _. refl;
}
opening backslash x xs e solid brace bracket = record {
  lexeme = Lexeme.token Token.bad;
  more = lex in_word xs;
  is = ap (λ k. lex_byte between k x xs (λ m. lex m xs)) e;
  opens = tt;
  comma = λ _. refl;
}
opening operator x xs e solid brace bracket = record {
  lexeme = operator_lexeme x;
  more = lex between xs;
  is = ap (λ k. lex_byte between k x xs (λ m. lex m xs)) e;
  opens =
      operator-opens (x == 123) (x == 125) (x == 91) (x == 93) (x == 44) (ne_eqb x 125 brace)
      (ne_eqb x 93 bracket);
  comma = λ h. no-comma (x == 123) (x == 125) (x == 91) (x == 93) (x == 44) (ne_eqb x 44 h);
}
opening space x xs e solid brace bracket = absurd (true≢false solid)
opening other x xs e solid brace bracket = record {
  lexeme = Lexeme.token (word (x ∷ xs));
  more = lex in_word xs;
  is = ap (λ k. lex_byte between k x xs (λ m. lex m xs)) e;
  opens = word-opens (x ∷ xs);
  comma = λ _. refl;
}

pub opening-at : (d : List ℕ) (at : ℕ) → at < length d → is_space (get_or d at 0) ≡ false
    → get_or d at 0 ≢ 125 → get_or d at 0 ≢ 93 → Opening (drop at d)
opening-at d at within solid brace bracket =
    let x = get_or d at 0 in
    subst Opening (sym (first_is d at x within refl))
    (opening (class x) x (drop (at + 1) d) refl
    (solid-class (x == 34) (x == 92) (is_operator x) (is_space x) solid) brace bracket)

-- ---- what is met

ends-in : (e : Expected)
    → IsMet (punctuate (expected_of e) []) (if may_close (expected_of e) then End else Fault)
unfolding punctuate
ends-in Fresh = refl
ends-in AfterValue = refl
ends-in AfterComma = inl (record { rest = []; is = refl })

pub ends : (e : Expected) (t : List ℕ) → t ≡ []
    → IsMet (punctuate (expected_of e) (lex between t)) (if may_close (expected_of e) then End else Fault)
unfolding lex
ends e t none =
    subst (λ s. IsMet (punctuate (expected_of e) (lex between s)) (if may_close (expected_of e) then End else Fault))
    (sym none) (ends-in e)

pub closes : (e : Expected) (t : List ℕ) (k : Token) (ls : List Lexeme)
    → lex between t ≡ Lexeme.token k ∷ ls → (k ≡ Token.end_object) ⊎ (k ≡ Token.end_array)
    → IsMet (punctuate (expected_of e) (lex between t)) (if may_close (expected_of e) then Other else Fault)
unfolding punctuate
closes Fresh t k ls is which = tt
closes AfterValue t k ls is which = tt
closes AfterComma t k ls is (inl one) =
    inl (record {
      rest = [];
      is = ap (punctuate after_comma) is ∙ ap (λ x. punctuate after_comma (Lexeme.token x ∷ ls)) one;
    })
closes AfterComma t k ls is (inr one) =
    inl (record {
      rest = [];
      is = ap (punctuate after_comma) is ∙ ap (λ x. punctuate after_comma (Lexeme.token x ∷ ls)) one;
    })

-- what begins behind a comma, begins as at the start of a text
begins-alike : (l : Lexeme) (ls : List Lexeme) → Opens l
    → punctuate after_comma (l ∷ ls) ≡ punctuate fresh (l ∷ ls)
unfolding punctuate
begins-alike (Lexeme.token Token.begin_object) ls o = refl
begins-alike (Lexeme.token Token.end_object) ls o = absurd o
begins-alike (Lexeme.token Token.begin_array) ls o = refl
begins-alike (Lexeme.token Token.end_array) ls o = absurd o
begins-alike (Lexeme.token (Token.key s)) ls o = absurd o
begins-alike (Lexeme.token (Token.string s)) ls o = go (begins_colon ls)
  where
    go : (b : Bool) → place_token after_comma (Token.string s) b (λ p. punctuate p ls)
        ≡ place_token fresh (Token.string s) b (λ p. punctuate p ls)
    go true = refl
    go false = refl
begins-alike (Lexeme.token (Token.number s)) ls o = refl
begins-alike (Lexeme.token (Token.boolean b)) ls o = refl
begins-alike (Lexeme.token Token.null) ls o = refl
begins-alike (Lexeme.token Token.bad) ls o = refl
begins-alike Lexeme.comma ls o = refl
begins-alike Lexeme.colon ls o = refl

-- nothing begins behind a value
nothing-begins : (l : Lexeme) (ls : List Lexeme) → Opens l → is_comma l ≡ false
    → punctuate after_value (l ∷ ls) ≡ Token.bad ∷ []
unfolding punctuate
nothing-begins (Lexeme.token Token.begin_object) ls o solid = refl
nothing-begins (Lexeme.token Token.end_object) ls o solid = absurd o
nothing-begins (Lexeme.token Token.begin_array) ls o solid = refl
nothing-begins (Lexeme.token Token.end_array) ls o solid = absurd o
nothing-begins (Lexeme.token (Token.key s)) ls o solid = absurd o
nothing-begins (Lexeme.token (Token.string s)) ls o solid = go (begins_colon ls)
  where
    go : (b : Bool) → place_token after_value (Token.string s) b (λ p. punctuate p ls) ≡ Token.bad ∷ []
    go true = refl
    go false = refl
nothing-begins (Lexeme.token (Token.number s)) ls o solid = refl
nothing-begins (Lexeme.token (Token.boolean b)) ls o solid = refl
nothing-begins (Lexeme.token Token.null) ls o solid = refl
nothing-begins (Lexeme.token Token.bad) ls o solid = refl
nothing-begins Lexeme.comma ls o solid = absurd (true≢false solid)
nothing-begins Lexeme.colon ls o solid = refl

pub begins : (t : List ℕ) (o : Opening t) (e : Expected) (m : Met) → may_begin (expected_of e) ≡ true
    → IsMet (punctuate fresh (lex between t)) m → IsMet (punctuate (expected_of e) (lex between t)) m
begins t o Fresh m may is = is
begins t o AfterValue m may is = absurd (false≢true may)
begins t o AfterComma m may is =
    subst (λ ts. IsMet ts m)
    (sym (ap (punctuate after_comma) o.is ∙ begins-alike o.lexeme o.more o.opens
    ∙ sym (ap (punctuate fresh) o.is))) is

pub goes-on : (t : List ℕ) (o : Opening t) (e : Expected) (b : Bool) → may_begin (expected_of e) ≡ false
    → (b ≡ false → head t ≢ 44)
    → IsMet (punctuate (expected_of e) (lex between t)) (if b then Other else Fault)
goes-on t o Fresh b may comma = absurd (true≢false may)
goes-on t o AfterValue true may comma = tt
goes-on t o AfterValue false may comma =
    inl (record {
      rest = [];
      is = ap (punctuate after_value) o.is ∙ nothing-begins o.lexeme o.more o.opens (o.comma (comma refl));
    })
goes-on t o AfterComma b may comma = absurd (true≢false may)
