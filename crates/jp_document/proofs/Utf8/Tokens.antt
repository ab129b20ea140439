-- The tokens of a text hold texts: for the values that are read from them.
use Rattle.std.proofs.Common.{◌≡◌, ℕ, Bool, true, false, ◌==◌, cond, List, [], ◌∷◌}
use Rattle.std.proofs.Common.{◌++◌, Option, Some, None, IsUtf8, ◌<◌, arith, refl}
use Rattle.std.specs.List.{list_all}
use Rattle.std.specs.Str.{is_utf8}
use Rattle.std.proofs.lemmas.Bool.{and_from}
use Rattle.std.proofs.lemmas.Bool.Decides.{nat_tests}
use Rattle.std.proofs.lemmas.Str.{is_utf8-from_IsUtf8}
use Rattle.jp_reading.specs.Characters as char
use Rattle.json.specs.Ascii as ascii
use Rattle.json.specs.Lex.{Class, Lexeme, Mode, Place, after_comma, after_key, after_value}
use Rattle.json.specs.Lex.{backslash, begins_colon, between, class, colon, comma, fresh}
use Rattle.json.specs.Lex.{if_allowed, in_escape, in_string, in_word, lex, lex_byte}
use Rattle.json.specs.Lex.{may_begin, may_close, operator, operator_lexeme, other}
use Rattle.json.specs.Lex.{place_token, punctuate, quote, space, string_token, token, tokens}
use Rattle.json.specs.Text.{content, plain}
use Rattle.json.specs.Token.{Token}
use Rattle.json.specs.Word.{after_number, ends_word, literal, number_before, word}
use Rattle.jp_reading.proofs.Conjunctions.{and-left, and-right}
use Rattle.jp_document.proofs.Utf8.Strings.{content-IsUtf8, text_after, text_moved}

-- what a token holds between quotes is a text
abbrev pub token_is_text : Token → Bool
token_is_text (Token.key s) = is_utf8 s
token_is_text (Token.string s) = is_utf8 s
token_is_text t = true

abbrev lexeme_is_text : Lexeme → Bool
lexeme_is_text (token t) = token_is_text t
lexeme_is_text comma = true
lexeme_is_text colon = true

abbrev pub are_texts : List Token → Bool
are_texts = list_all token_is_text

abbrev LexemesAreTexts : List Lexeme → Type 0
LexemesAreTexts ls = list_all lexeme_is_text ls ≡ true

-- ---- one token

record HoldsText (t : Token) : Type 0 where
  pub is : token_is_text t ≡ true

record LexemeHoldsText (l : Lexeme) : Type 0 where
  pub is : lexeme_is_text l ≡ true

token_if : (t : Bool) (a b : Token) → HoldsText a → HoldsText b → HoldsText (cond t a b)
token_if true a b here there = here
token_if false a b here there = there

lexeme_if : (t : Bool) (a b : Lexeme) → lexeme_is_text a ≡ true → LexemeHoldsText b
    → LexemeHoldsText (cond t a b)
lexeme_if true a b here there = record { is = here }
lexeme_if false a b here there = there

literal_text : (name : List ℕ) (a : Token) (t : List ℕ) → token_is_text a ≡ true
    → HoldsText (literal name a t)
literal_text name a t is = token_if _ a Token.bad (record { is = is }) (record { is = refl })

number_text : (t : List ℕ) (o : Option (List ℕ)) → HoldsText (number_before t o)
number_text t None = record { is = refl }
number_text t (Some rest) =
    token_if (ends_word rest) _ Token.bad (record { is = refl }) (record { is = refl })

word_text : (t : List ℕ) → HoldsText (word t)
unfolding word
word_text t =
    token_if _ _ _ (literal_text ascii.true_text (Token.boolean true) t refl)
    (token_if _ _ _ (literal_text ascii.false_text (Token.boolean false) t refl)
    (token_if _ _ _ (literal_text ascii.null_text Token.null t refl)
    (number_text t (after_number t))))

string_token_text : (xs : List ℕ) (o : Option (List ℕ)) → IsUtf8 xs → content plain xs ≡ o
    → token_is_text (string_token o) ≡ true
string_token_text xs None utf8 is = refl
string_token_text xs (Some s) utf8 is = is_utf8-from_IsUtf8 s (content-IsUtf8 xs s utf8 is)

operator_text : (x : ℕ) → LexemeHoldsText (operator_lexeme x)
operator_text x =
    lexeme_if _ (token Token.begin_object) _ refl
    (lexeme_if _ (token Token.end_object) _ refl
    (lexeme_if _ (token Token.begin_array) _ refl
    (lexeme_if _ (token Token.end_array) _ refl
    (lexeme_if _ comma colon refl (record { is = refl })))))

-- ---- the lexemes of a text

-- a byte of a class, where the lexemes after it hold texts
byte_texts : (m : Mode) (c : Class) (x : ℕ) (xs : List ℕ) → (c ≡ quote → IsUtf8 xs)
    → ((next : Mode) → LexemesAreTexts (lex next xs))
    → LexemesAreTexts (lex_byte m c x xs (λ next. lex next xs))
byte_texts between quote x xs utf8 later =
    and_from _ _ (string_token_text xs (content plain xs) (utf8 refl) refl) (later in_string)
byte_texts between backslash x xs utf8 later = later in_word
byte_texts between operator x xs utf8 later = and_from _ _ (operator_text x).is (later between)
byte_texts between space x xs utf8 later = later between
byte_texts between other x xs utf8 later = and_from _ _ (word_text (x ∷ xs)).is (later in_word)
byte_texts in_word operator x xs utf8 later = and_from _ _ (operator_text x).is (later between)
byte_texts in_word space x xs utf8 later = later between
byte_texts in_word c x xs utf8 later = later in_word
byte_texts in_string quote x xs utf8 later = later between
byte_texts in_string backslash x xs utf8 later = later in_escape
byte_texts in_string c x xs utf8 later = later in_string
byte_texts in_escape c x xs utf8 later = later in_string

not_quote : (s t u : Bool) → cond s backslash (cond t operator (cond u space other)) ≡ quote → ⊥
not_quote true t u is = cc
not_quote false true u is = cc
not_quote false false true is = cc
not_quote false false false is = cc

quote_by : (t s u w : Bool)
    → cond t quote (cond s backslash (cond u operator (cond w space other))) ≡ quote → t ≡ true
quote_by true s u w is = refl
quote_by false s u w is = absurd (not_quote s u w is)

quote_low : (x : ℕ) → class x ≡ quote → x < 128
quote_low x is = let mark : (x == char.double_quote)
    ≡ true = quote_by _ _ _ _ is in grind (arith, nat_tests)

lexemes_are_texts : (p xs : List ℕ) (m : Mode) → IsUtf8 (p ++ xs) → LexemesAreTexts (lex m xs)
unfolding lex
lexemes_are_texts p [] m utf8 = refl
lexemes_are_texts p (x ∷ xs) m utf8 =
    byte_texts m (class x) x xs (λ is. text_after p x xs (quote_low x is) utf8)
    (λ next. lexemes_are_texts (p ++ x ∷ []) xs next (text_moved p x xs utf8))

-- ---- the tokens of lexemes

allowed_texts : (b : Bool) (t : Token) (k : Place → List Token) (next : Place)
    → token_is_text t ≡ true → are_texts (k next) ≡ true → are_texts (if_allowed b t k next) ≡ true
allowed_texts true t k next here later = and_from _ _ here later
allowed_texts false t k next here later = refl

placed_texts : (p : Place) (t : Token) (b : Bool) (k : Place → List Token)
    → token_is_text t ≡ true → ((next : Place) → are_texts (k next) ≡ true)
    → are_texts (place_token p t b k) ≡ true
placed_texts p Token.begin_object b k here later =
    allowed_texts (may_begin p) Token.begin_object k fresh here (later fresh)
placed_texts p Token.end_object b k here later =
    allowed_texts (may_close p) Token.end_object k after_value here (later after_value)
placed_texts p Token.begin_array b k here later =
    allowed_texts (may_begin p) Token.begin_array k fresh here (later fresh)
placed_texts p Token.end_array b k here later =
    allowed_texts (may_close p) Token.end_array k after_value here (later after_value)
placed_texts p (Token.key s) b k here later = refl
placed_texts p (Token.string s) true k here later =
    allowed_texts (may_begin p) (Token.key s) k after_key here (later after_key)
placed_texts p (Token.string s) false k here later =
    allowed_texts (may_begin p) (Token.string s) k after_value here (later after_value)
placed_texts p Token.bad b k here later = refl
placed_texts p t b k here later =
    allowed_texts (may_begin p) t k after_value here (later after_value)

punctuated_texts : (p : Place) (ls : List Lexeme) → LexemesAreTexts ls
    → are_texts (punctuate p ls) ≡ true
unfolding punctuate
punctuated_texts after_value (comma ∷ ls) all = punctuated_texts after_comma ls all
punctuated_texts after_key (colon ∷ ls) all = punctuated_texts fresh ls all
punctuated_texts p (token t ∷ ls) all =
    placed_texts p t (begins_colon ls) (λ next. punctuate next ls) (and-left _ _ all)
    (λ next. punctuated_texts next ls (and-right _ _ all))
punctuated_texts p ls all = refl

-- the tokens of a text hold texts
pub tokens_are_texts : (text : List ℕ) → IsUtf8 text → are_texts (tokens text) ≡ true
tokens_are_texts text utf8 =
    punctuated_texts fresh (lex between text) (lexemes_are_texts [] text between utf8)
