-- Forms each of whose texts takes a byte at least.
use Rattle.std.proofs.Common.{Bool, ℕ, ◌<◌, [], ◌∷◌, ap, ◌∙◌, arith}
use Rattle.std.specs.Prelude.{codes}
use Rattle.std.proofs.lemmas.Str.{len_utf8_bounds}
use Rattle.jp_tree.specs.declared.tree.Numeral.{Numeral}
use Rattle.jp_reading.specs.Texts.{Text, Spans, bytes}
use Rattle.jp_reading.specs.Forms.{Form, ◌⌢◌, word, One}
use Rattle.jp_reading.proofs.States.Between.{bytes-append}
use Rattle.jp_tree.specs.Tree.{LiteralTree}
use Rattle.jp_query.specs.Ints.{Int, Unsigned, zero_int, positive_int}
use Rattle.jp_reading.specs.Numbers.{is_leading_digit}
use Rattle.jp_query.specs.Ints.{negative_int}
use Rattle.jp_query.specs.Literals.{Literal, Number, Mantissa, whole, minus_zero, number, of_number}
use Rattle.jp_query.specs.Literals.{of_text, of_true, of_false, of_null}
use Rattle.jp_query.specs.Strings.{Between, Quoted, in_double, in_single}
use Rattle.jp_reading.specs.Characters.{digit_zero, double_quote, letter_f, letter_n, letter_t}
use Rattle.jp_reading.specs.Characters.{minus}
use Rattle.jp_reading.specs.Characters.{single_quote}

-- each text of the form takes a byte at least
abbrev pub Written : Form → Type 0
Written P = (s : Spans) (o : ℕ) (t : Text) → P s o t → 0 < bytes t

pub character-written : (c : ℕ) (t : Text) → 0 < bytes (c ∷ t)
character-written c t = let e = (len_utf8_bounds c).0 in omega (arith, e)

pub joined-written : {P Q : Form} → Written P → Written (P ⌢ Q)
joined-written f s o t h =
    let size = ap bytes h.is ∙ bytes-append h.first h.second in
    let first = f h.first_spans o h.first h.one in
    omega (arith, size, first)

pub word-written : (c : ℕ) (w : Text) → Written (word (c ∷ w))
word-written c w s o t h = rw h.is (character-written c w)

pub one-written : (ok : ℕ → Bool) (c : ℕ) → Written (One ok c)
one-written ok c s o t h = rw h.is (character-written c [])

pub unsigned-written : (c : ℕ) (more : Text) → Written (Unsigned c more)
unsigned-written c more = joined-written (one-written is_leading_digit c)

pub int-written : (n : Numeral) → Written (Int n)
int-written n s o t (zero_int e h) = word-written digit_zero [] s o t h
int-written n s o t (positive_int c more e h) = unsigned-written c more s o t h
int-written n s o t (negative_int c more e h) = joined-written (word-written minus []) s o t h

pub mantissa-written : (n : Numeral) → Written (Mantissa n)
mantissa-written n s o t (whole h) = int-written n s o t h
mantissa-written n s o t (minus_zero e h) = word-written minus (codes "0") s o t h

pub number-written : (n : Numeral) → Written (Number n)
number-written n s o t (number y d e same h) = joined-written (mantissa-written y) s o t h

pub between-written : (quote : ℕ) (cs : Text) → Written (Between quote cs)
between-written quote cs = joined-written (word-written quote [])

pub quoted-written : (cs : Text) → Written (Quoted cs)
quoted-written cs s o t (in_double h) = between-written double_quote cs s o t h
quoted-written cs s o t (in_single h) = between-written single_quote cs s o t h

pub literal-written : (l : LiteralTree) → Written (Literal l)
literal-written l s o t (of_number n e h) = number-written n s o t h
literal-written l s o t (of_text cs e h) = quoted-written cs s o t h
literal-written l s o t (of_true e h) = word-written letter_t (codes "rue") s o t h
literal-written l s o t (of_false e h) = word-written letter_f (codes "alse") s o t h
literal-written l s o t (of_null e h) = word-written letter_n (codes "ull") s o t h
