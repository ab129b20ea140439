-- A name between quotes, as it is spelled in a normalized path, spells the name.
use Rattle.std.proofs.Common.{◌≡◌, ◌≢◌, ℕ, ◌/◌, ◌%◌, ◌<◌, ◌≤◌, true, [], ◌∷◌, refl, arith, codes}
use Rattle.std.proofs.lemmas.Bool.{lt-ltb}
use Rattle.std.proofs.lemmas.Bool.Decides.{nat_tests}
use Rattle.std.specs.Char.{digit_value}
use Rattle.std.specs.List.{AllByRecursion}
use Rattle.jp_reading.specs.Characters as char
use Rattle.jp_reading.specs.Texts.{Text}
use Rattle.jp_document.specs.Path.{quoted}
use Rattle.jp_document.specs.Spelling.{control, hex_digit, spelling}
use Rattle.jp_document.proofs.Spellings.Characters.{each_spelling}
use Rattle.jp_query.specs.Strings.{StringCharacter, Quoted, Unit as FourDigits, digits}
use Rattle.jp_query.specs.Strings.{escape, escaped, hex, in_single, is_escapable}
use Rattle.jp_query.specs.Strings.{is_hexdig, is_not_d, is_plain, not_d, plain, unit_of}
use Rattle.jp_canon.proofs.Forms.{Has, both, has-as, has-each, has-one, has-word}

-- ---- control characters, by number

hex_digit-value : (n : ℕ) → n < 16 → digit_value (hex_digit n) ≡ n
hex_digit-value n small = grind (arith, nat_tests)

hex_digit-hexdig : (n : ℕ) → n < 16 → is_hexdig (hex_digit n) ≡ true
unfolding is_hexdig
hex_digit-hexdig n small = rw (hex_digit-value n small) (lt-ltb n 16 small)

-- `0`, as the first digit and as another
zero-digit : (is_not_d char.digit_zero ≡ true) × (is_hexdig char.digit_zero ≡ true)
unfolding is_not_d is_hexdig
zero-digit = (refl, refl)

control-unit : (c : ℕ) → c < 32 → c
    ≡ unit_of char.digit_zero char.digit_zero (hex_digit (c / 16)) (hex_digit (c % 16))
control-unit c small =
    let high : c / 16 < 16 = omega arith in
    let low : c % 16 < 16 = omega arith in
    rw (hex_digit-value (c / 16) high, hex_digit-value (c % 16) low) (omega arith)

has-control : (c : ℕ) → c < 32
    → Has (FourDigits is_not_d is_hexdig c)
    (char.digit_zero ∷ char.digit_zero ∷ hex_digit (c / 16) ∷ hex_digit (c % 16) ∷ [])
has-control c small =
    has-as (λ s o. digits char.digit_zero char.digit_zero (hex_digit (c / 16)) (hex_digit (c % 16))
    (control-unit c small))
    (both (has-one is_not_d char.digit_zero zero-digit.0)
    (both (has-one is_hexdig char.digit_zero zero-digit.1)
    (both (has-one is_hexdig (hex_digit (c / 16)) (hex_digit-hexdig (c / 16) (omega arith)))
    (has-one is_hexdig (hex_digit (c % 16)) (hex_digit-hexdig (c % 16) (omega arith))))))

-- ---- characters

by_letter : (c e : ℕ) → c ≡ escaped e → is_escapable char.single_quote e ≡ true
    → Has (StringCharacter char.single_quote c) (char.backslash ∷ e ∷ [])
by_letter c e means escapable =
    has-as (λ s o. escape e means)
    (both (has-word (codes "\\")) (has-one (is_escapable char.single_quote) e escapable))

by_number : (c : ℕ) → c < 32 → Has (StringCharacter char.single_quote c) (control c)
by_number c small =
    has-as (λ s o. hex)
    (both (has-word (codes "\\"))
    (both (has-word (codes "u")) (has-as (λ s o. not_d) (has-control c small))))

by_itself : (c : ℕ) → 32 ≤ c → c ≢ char.single_quote → c ≢ char.backslash
    → Has (StringCharacter char.single_quote c) (c ∷ [])
by_itself c high quote slash =
    let is : is_plain char.single_quote c ≡ true = grind (arith, nat_tests) in
    has-as (λ s o. plain) (has-one (is_plain char.single_quote) c is)

character : (c : ℕ) → Has (StringCharacter char.single_quote c) (spelling char.single_quote c)
character =
    each_spelling (λ c t. Has (StringCharacter char.single_quote c) t)
    (by_letter char.backspace char.letter_b refl refl) (by_letter char.tab char.letter_t refl refl)
    (by_letter char.line_feed char.letter_n refl refl)
    (by_letter char.form_feed char.letter_f refl refl)
    (by_letter char.carriage_return char.letter_r refl refl)
    (by_letter char.single_quote char.single_quote refl refl)
    (by_letter char.backslash char.backslash refl refl) (λ c low none. by_number c low) by_itself

characters : (cs : Text) → AllByRecursion
    (λ c. Has (StringCharacter char.single_quote c) (spelling char.single_quote c)) cs
characters [] = tt
characters (c ∷ cs) = (character c, characters cs)

-- the quoted name spells the name
pub has-quoted : (cs : Text) → Has (Quoted cs) (quoted cs)
has-quoted cs =
    has-as (λ s o. in_single)
    (both (has-word (codes "'"))
    (both (has-each (StringCharacter char.single_quote) (spelling char.single_quote) cs (characters cs))
    (has-word (codes "'"))))
