-- The classes of characters in the rules of queries, each by its ranges. A new class is a row more,
-- and a `grind` that the row is right.
use Rattle.std.proofs.Common.{◌≡◌, ℕ, true, [], ◌∷◌, ◌++◌, List, refl, arith}
use Rattle.std.specs.Prelude.{codes}
use Rattle.std.proofs.lemmas.Bool.Decides.{nat_tests}
use Rattle.jp_reading.specs.Characters.{double_quote, single_quote}
use Rattle.jp_reading.specs.Numbers.{is_digit}
use Rattle.jp_reading.proofs.Rules.Ranges.{on_from, ranges}
use Rattle.jp_reading.proofs.Rules.Classes.{Known, known, have_first, AreSame, ◌&◌, Classes}
use Rattle.jp_reading.proofs.Rules.Classes.{classes_of, Marks, marks as marks_of}
use Rattle.jp_query.specs.Names.{is_name_first, is_name_char, is_function_first, is_function_char}
use Rattle.jp_query.specs.Strings.{is_plain, is_escapable, is_hexdig, is_d, is_not_d, is_0_to_7}
use Rattle.jp_query.specs.Strings.{is_8_to_b, is_c_to_f}
use Rattle.jp_reading.specs.Numbers.{is_leading_digit}
use Rattle.jp_query.specs.Literals.{is_e, is_sign}
use Rattle.jp_query.specs.Private.Rules.{begins_character, begins_int, begins_operator}
use Rattle.jp_query.specs.Private.Rules.{begins_segment, begins_query, is_closing}

-- the first character of each range and its last, in turn
abbrev pub table : List Known
table =
    known is_digit (ranges (codes "09"))
    ∷ known is_leading_digit (ranges (codes "19"))
    ∷ known is_name_first (ranges (codes "AZ__az") ++ on_from 128 ∷ [])
    ∷ known is_name_char (ranges (codes "09AZ__az") ++ on_from 128 ∷ [])
    ∷ known is_function_first (ranges (codes "az"))
    ∷ known is_function_char (ranges (codes "09__az"))
    ∷ known is_hexdig (ranges (codes "09AFaf"))
    ∷ known is_d (ranges (codes "DDdd"))
    ∷ known is_not_d (ranges (codes "09ACEFacef"))
    ∷ known is_0_to_7 (ranges (codes "07"))
    ∷ known is_8_to_b (ranges (codes "89ABab"))
    ∷ known is_c_to_f (ranges (codes "CFcf"))
    ∷ known (is_plain double_quote) (ranges (codes " !#[") ++ on_from 93 ∷ [])
    ∷ known (is_plain single_quote) (ranges (codes " &([") ++ on_from 93 ∷ [])
    ∷ known (begins_character double_quote) (ranges (codes " !") ++ on_from 35 ∷ [])
    ∷ known (begins_character single_quote) (ranges (codes " &") ++ on_from 40 ∷ [])
    ∷ known (is_escapable double_quote) (ranges (codes "bbffnnrrtt//\\\\\"\""))
    ∷ known (is_escapable single_quote) (ranges (codes "bbffnnrrtt//\\\\''"))
    ∷ known is_e (ranges (codes "eeEE"))
    ∷ known is_sign (ranges (codes "++--"))
    ∷ known begins_int (ranges (codes "09--"))
    ∷ known begins_operator (ranges (codes "<>!!"))
    ∷ known begins_segment (ranges (codes "..[["))
    ∷ known begins_query (ranges (codes "$$@@"))
    ∷ known is_closing (ranges (codes ")),,]]"))
    ∷ []

pub has-first : have_first table ≡ true
unfolding is_digit is_hexdig is_d is_not_d is_0_to_7 is_8_to_b is_c_to_f
has-first = refl

pub is-same : (c : ℕ) → AreSame table c
unfolding is_digit is_hexdig is_d is_not_d is_0_to_7 is_8_to_b is_c_to_f
is-same c =
    (grind (arith, nat_tests)) & (grind (arith, nat_tests)) & (grind (arith, nat_tests))
    & (grind (arith, nat_tests)) & (grind (arith, nat_tests)) & (grind (arith, nat_tests))
    & (grind (arith, nat_tests)) & (grind (arith, nat_tests)) & (grind (arith, nat_tests))
    & (grind (arith, nat_tests)) & (grind (arith, nat_tests)) & (grind (arith, nat_tests))
    & (grind (arith, nat_tests)) & (grind (arith, nat_tests)) & (grind (arith, nat_tests))
    & (grind (arith, nat_tests)) & (grind (arith, nat_tests)) & (grind (arith, nat_tests))
    & (grind (arith, nat_tests)) & (grind (arith, nat_tests)) & (grind (arith, nat_tests))
    & (grind (arith, nat_tests)) & (grind (arith, nat_tests)) & (grind (arith, nat_tests))
    & (grind (arith, nat_tests)) & tt

abbrev pub named : Classes table
named = classes_of table has-first is-same

-- and those of one character
abbrev pub marks : Marks (codes "\"':,[tf&|")
marks = marks_of (codes "\"':,[tf&|")

pub ruleset classes = (named, marks)
