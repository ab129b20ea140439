-- Texts without components: names, strings, numbers and words.
use Rattle.std.proofs.Common.{ℕ, Bool, [], ◌∷◌, codes}
use Rattle.jp_tree.specs.declared.tree.Numeral.{Numeral}
use Rattle.jp_reading.specs.Texts.{Text}
use Rattle.jp_reading.specs.Forms.{Form, ◌⌢◌, One, Each}
use Rattle.jp_reading.specs.Numbers.{is_digit}
use Rattle.jp_reading.proofs.Forms.Bare.{Bare, bare-word, bare-one, bare-joined, bare-each}
use Rattle.jp_tree.specs.Tree.{LiteralTree}
use Rattle.jp_query.specs.Names.{is_name_first, is_name_char, Shorthand, shorthand}
use Rattle.jp_query.specs.Strings.{is_escapable, is_hexdig, is_d, is_not_d, is_0_to_7, is_8_to_b}
use Rattle.jp_query.specs.Strings.{is_c_to_f, Unit, digits, Hexchar, not_d, below_surrogates}
use Rattle.jp_query.specs.Strings.{surrogates, StringCharacter, plain, escape, hex, Between, Quoted}
use Rattle.jp_query.specs.Strings.{in_double, in_single}
use Rattle.jp_query.specs.Ints.{Int, zero_int, positive_int}
use Rattle.jp_reading.specs.Numbers.{is_leading_digit}
use Rattle.jp_query.specs.Ints.{negative_int}
use Rattle.jp_query.specs.Literals.{Optional, left_out, written, Decimals, decimals}
use Rattle.jp_query.specs.Literals.{is_e, is_sign, Exponent, unsigned, signed, Mantissa, whole}
use Rattle.jp_query.specs.Literals.{minus_zero, Number, number, Literal, of_number, of_text}
use Rattle.jp_query.specs.Literals.{of_true, of_false, of_null}
use Rattle.jp_reading.specs.Characters.{double_quote, single_quote}

-- one after another
pub then-bare : {P Q : Form} → Bare P → Bare Q → Bare (P ⌢ Q)
then-bare {P} {Q} f g = bare-joined P Q f g

unit-bare : (first second : ℕ → Bool) (v : ℕ) → Bare (Unit first second v)
unit-bare first second v s o t (digits a b c d e h) =
    then-bare (bare-one first a) (then-bare (bare-one second b)
    (then-bare (bare-one is_hexdig c) (bare-one is_hexdig d))) s o t h

hexchar-bare : (c : ℕ) → Bare (Hexchar c)
hexchar-bare c s o t (not_d h) = unit-bare is_not_d is_hexdig c s o t h
hexchar-bare c s o t (below_surrogates h) = unit-bare is_d is_0_to_7 c s o t h
hexchar-bare c s o t (surrogates high low e h) =
    then-bare (unit-bare is_d is_8_to_b high) (then-bare (bare-word (codes "\\"))
    (then-bare (bare-word (codes "u")) (unit-bare is_d is_c_to_f low))) s o t h

character-bare : (quote c : ℕ) → Bare (StringCharacter quote c)
character-bare quote c s o t (plain h) = h.none
character-bare quote c s o t (escape letter e h) =
    then-bare (bare-word (codes "\\")) (bare-one (is_escapable quote) letter) s o t h
character-bare quote c s o t (hex h) =
    then-bare (bare-word (codes "\\")) (then-bare (bare-word (codes "u")) (hexchar-bare c)) s o t h

between-bare : (quote : ℕ) (cs : Text) → Bare (Between quote cs)
between-bare quote cs =
    then-bare (bare-word (quote ∷ []))
    (then-bare (bare-each (StringCharacter quote) (character-bare quote) cs) (bare-word (quote ∷ [])))

pub quoted-bare : (cs : Text) → Bare (Quoted cs)
quoted-bare cs s o t (in_double h) = between-bare double_quote cs s o t h
quoted-bare cs s o t (in_single h) = between-bare single_quote cs s o t h

-- a first character, and others
pub run-bare : (first ok : ℕ → Bool) (c : ℕ) (more : Text) → Bare (One first c ⌢ Each (One ok) more)
run-bare first ok c more = then-bare (bare-one first c) (bare-each (One ok) (bare-one ok) more)

pub shorthand-bare : (cs : Text) → Bare (Shorthand cs)
shorthand-bare cs s o t (shorthand c more e h) =
    run-bare is_name_first is_name_char c more s o t h

pub int-bare : (x : Numeral) → Bare (Int x)
int-bare x s o t (zero_int e h) = h.none
int-bare x s o t (positive_int c more e h) = run-bare is_leading_digit is_digit c more s o t h
int-bare x s o t (negative_int c more e h) =
    then-bare (bare-word (codes "-")) (run-bare is_leading_digit is_digit c more) s o t h

-- ---- literals

optional-bare : (P : Form) (b : Bool) → Bare P → Bare (Optional P b)
optional-bare P b f s o t (left_out e h) = h.none
optional-bare P b f s o t (written e h) = f s o t h

decimals-bare : Bare Decimals
decimals-bare s o t (decimals c more h) =
    then-bare (bare-word (codes ".")) (run-bare is_digit is_digit c more) s o t h

exponent-bare : Bare Exponent
exponent-bare s o t (unsigned e c more h) =
    then-bare (bare-one is_e e) (run-bare is_digit is_digit c more) s o t h
exponent-bare s o t (signed e sign c more h) =
    then-bare (bare-one is_e e) (then-bare (bare-one is_sign sign)
    (run-bare is_digit is_digit c more)) s o t h

mantissa-bare : (x : Numeral) → Bare (Mantissa x)
mantissa-bare x s o t (whole h) = int-bare x s o t h
mantissa-bare x s o t (minus_zero e h) = h.none

number-bare : (x : Numeral) → Bare (Number x)
number-bare x s o t (number y d e same h) =
    then-bare (mantissa-bare y) (then-bare (optional-bare Decimals d decimals-bare)
    (optional-bare Exponent e exponent-bare)) s o t h

pub literal-bare : (x : LiteralTree) → Bare (Literal x)
literal-bare x s o t (of_number n e h) = number-bare n s o t h
literal-bare x s o t (of_text cs e h) = quoted-bare cs s o t h
literal-bare x s o t (of_true e h) = h.none
literal-bare x s o t (of_false e h) = h.none
literal-bare x s o t (of_null e h) = h.none
