-- The shape of the words of `jp-lines`, and what clap's matches of them hold.
use Rattle.std.proofs.Common.{◌≡◌, ◌∙◌, ℕ, Bool, true, false, List, Option, Some, None}
use Rattle.std.proofs.Common.{Result, Ok, Err, [], if◌then◌else◌, ap, refl, sym, arith}
use Rattle.std.specs.Prelude.{option_and_then, option_map, unwrap_or}
use Rattle.std.specs.Str.Parse.{ParsesUnsigned, digits_value, without_leading_plus}
use Rattle.clap.specs.Matches.{ReadsOne, matched_of, one_text, raw_values}
use Rattle.clap.specs.ValueTests.{is_unsigned_in}
use Rattle.clap.specs.Words.{Text, all_of, is_simple, is_simple_and_free, rows_of}
use Rattle.clap.specs.declared.builder.value_parser.ValueParser.TheVariants.{Unsigned}
use Rattle.clap.specs.declared.parser.matches.Found.{Found}
use Rattle.clap.proofs.OnLiterals.{clap_on_literals}
use Rattle.clap.proofs.ValueTestLemmas.{Accepts-accepts, accepts-Accepts}
use Rattle.clap.proofs.WalkLemmas.{one_text-rows, raw_values-rows}
use Rattle.jp_command.specs.CommandLine.{query_app}
use Rattle.jp_lines.specs.CommandLine.{columns_app, greatest, jp_lines, keep_app, lines_app, number_asked}
use Rattle.jp_lines.specs.CommandLine.{number_given, queries_app, values_app, with_columns, with_keep}
use Rattle.jp_lines.specs.CommandLine.{with_selections, words_of}

pub jp_lines_is_free : is_simple_and_free jp_lines ≡ true
unfolding clap_on_literals jp_lines with_columns with_keep with_selections keep_app values_app lines_app columns_app queries_app query_app
jp_lines_is_free = refl

pub jp_lines_is_simple : is_simple jp_lines ≡ true
unfolding clap_on_literals jp_lines with_columns with_keep with_selections keep_app values_app lines_app columns_app queries_app query_app
jp_lines_is_simple = refl

not-true : (b : Bool) → (b ≡ true → ⊥) → b ≡ false
not-true true other = absurd (other refl)
not-true false other = refl

-- a number that is read of a text, or none
number-of_text : (E : Type 0) (t : List ℕ) (value : Option ℕ)
    → ReadsOne (ParsesUnsigned {E = E} 64 10) t value → value ≡ number_given t
number-of_text E t (Some v) is =
    let small = is.0.1 in
    let fits : is_unsigned_in 0 greatest t ≡ true =
    Accepts-accepts false (Unsigned 0 greatest) t (is.0.0, small, omega arith, omega arith) in
    ap Some is.1
    ∙ sym (ap (λ b. if b then Some (digits_value 10 (without_leading_plus t)) else None) fits)
number-of_text E t None is =
    let fails : is_unsigned_in 0 greatest t ≡ false =
    not-true _ (λ fits.
    let reads = accepts-Accepts false (Unsigned 0 greatest) t fits in is.1 (reads.0, reads.1)) in
    sym (ap (λ b. if b then Some (digits_value 10 (without_leading_plus t)) else None) fails)

-- what `get_one` reads of the option of that name in the matches, as the type's `from_str` reads a text
pub number-read : (E : Type 0) (gives : List ℕ → Result ℕ E → Type 0)
    → ((t : List ℕ) (r : Result ℕ E) → gives t r → ParsesUnsigned 64 10 t r) → (found : Found)
    (name : Text) (value : Option ℕ) → (one_text found name ≡ None → value ≡ None)
    → ((t : List ℕ) → one_text found name ≡ Some t → ReadsOne gives t value)
    → value ≡ number_asked name (rows_of found)
number-read E gives parses found name value none some =
    go (one_text found name) refl ∙ ap (option_and_then number_given) (one_text-rows found name)
  where
    reads : (t : List ℕ) (o : Option ℕ) → ReadsOne gives t o
        → ReadsOne (ParsesUnsigned {E = E} 64 10) t o
    reads t (Some v) is = parses t (Ok v) is
    reads t None is = (is.0, parses t (Err is.0) is.1)

    go : (text : Option (List ℕ)) → one_text found name ≡ text
        → value ≡ option_and_then number_given text
    go None is = none is
    go (Some t) is = number-of_text E t value (reads t value (some t is))

-- what is made of the words that the matches hold for a positional
module _ (found : Found) (name : Text) (texts : Option (List Text))
    (held : texts ≡ option_map raw_values (matched_of found name)) where
  pub with_words : {X : Type 0} (make : List Text → X)
      → option_map make texts ≡ option_map make (all_of name (rows_of found))
  with_words make = ap (option_map make) (held ∙ raw_values-rows found name)

  pub words-held : unwrap_or texts [] ≡ words_of name (rows_of found)
  words-held = ap (λ ws. unwrap_or ws []) (held ∙ raw_values-rows found name)
