-- Worked rows: what the definitions say of small texts and filters.
use Rattle.std.proofs.Common.{◌≡◌, true, false, [], ◌∷◌, Some, refl, None, ℕ, Option}
use Rattle.std.specs.Prelude.{pos, negsuc, codes}
use Rattle.std.specs.Float.Numeral.{scan_numeral}
use Rattle.jp_decimal.specs.declared.number.Number.TheVariants.{Whole as AsWhole}
use Rattle.jp_tree.specs.declared.tree.Numeral.TheVariants.{Whole, Beyond, Fraction}
use Rattle.jp_reading.specs.Texts.{is_blank}
use Rattle.jp_reading.specs.Outcome.{past_blanks, loop, stuck, deep}
use Rattle.jp_reading.specs.Numbers.{is_digit}
use Rattle.jp_reading.proofs.States.Again.{start, finish}
use Rattle.jp_tree.specs.Tree.{QueryTree, query, segments, segment, selectors, name, index}
use Rattle.jp_tree.specs.Tree.{wildcard, slice, ExprTree, filter, exprs, any_of, all_of, negation}
use Rattle.jp_tree.specs.Tree.{comparison, exists, literal, node_value, number}
use Rattle.jp_query.specs.Names.{is_name_first, is_name_char}
use Rattle.jp_query.specs.Strings.{is_plain, scalar_of, escaped, is_escapable}
use Rattle.jp_query.specs.Ints.{whole_of, negative_of}
use Rattle.jp_query.specs.Components.{components_of, int, as_index, inner, constant, as_side}
use Rattle.jp_query.specs.Grammar.{Spells, SpellsFilter}
use Rattle.jp_query.specs.Private.Rules as rule
use Rattle.jp_query.specs.Private.Reading.{filter_at, query_at}
use Rattle.jp_query.proofs.Soundness.Whole.{read-spells, read-spelt}
use Rattle.jp_query.proofs.WholeRules.{filters}
use Rattle.jp_tree.specs.declared.tree.Op.TheVariants.{Equal, LessEqual}
use Rattle.jp_reading.specs.declared.span.Span.{Span}
use Rattle.jp_tree.specs.Singular.{is_singular}
use Rattle.jp_reading.specs.Characters.{backslash, digit_zero, double_quote, letter_a, letter_b}
use Rattle.jp_reading.specs.Characters.{backspace, low_line, single_quote, slash}

-- a letter, a letter above ASCII and `_` begin a shorthand; a digit only goes on with one
shorthand-rows : (is_name_first letter_a ≡ true) × (is_name_first 233 ≡ true) × (is_name_first
    low_line ≡ true) × (is_name_first digit_zero ≡ false) × (is_name_char digit_zero ≡ true)
unfolding is_digit
shorthand-rows = (refl, refl, refl, refl, refl)

-- between single quotation marks a double one stands for itself, a single one, a backslash and
-- U+001F do not
plain-rows : (is_plain single_quote double_quote ≡ true) × (is_plain single_quote
    single_quote ≡ false) × (is_plain single_quote backslash ≡ false)
    × (is_plain single_quote 31 ≡ false) × (is_plain single_quote 127 ≡ true)
plain-rows = (refl, refl, refl, refl, refl)

-- the ends of the range
range-rows : (whole_of 18446744073709551615 ≡ Whole (pos 18446744073709551615))
    × (whole_of 18446744073709551616 ≡ Beyond None)
    × (negative_of 9223372036854775808 ≡ Whole (negsuc 9223372036854775807))
    × (negative_of 9223372036854775809 ≡ Beyond None)
range-rows = (refl, refl, refl, refl)

-- a span
abbrev at_bytes : ℕ → ℕ → Option Span
at_bytes from to = Some (record { start = from; end = to })

-- `$[10]`: one index, from byte 2 up to byte 4
abbrev ten : QueryTree
ten = query true (segments (segment false (selectors (index (Whole (pos 10)) ∷ [])) ∷ []))

-- `$ .a['']`: two names, no component
abbrev names : QueryTree
names =
    query true (segments (segment false (selectors (name (codes "a") ∷ [])) ∷ segment false
    (selectors (name [] ∷ [])) ∷ []))

-- `$[:]`: neither bound, and an omitted step, which is 1 and has no span
abbrev all : QueryTree
all =
    query true (segments (segment false (selectors
    (slice (record { start = None; end = None; step = Whole (pos 1) }) ∷ [])) ∷ []))

-- `$..*`: a descendant segment of a wildcard
abbrev descendants : QueryTree
descendants = query true (segments (segment true (selectors (wildcard ∷ [])) ∷ []))

spelled-rows : Spells 0 ten (at_bytes 2 4 ∷ []) (codes "$[10]")
    × Spells 0 names [] (codes "$ .a['']")
    × Spells 0 all (None ∷ []) (codes "$[:]")
    × Spells 0 descendants [] (codes "$..*")
unfolding query_at rule.query rule.segments rule.segment rule.bracket rule.entries rule.entry
    rule.member rule.selection rule.selector rule.quoted rule.characters rule.shorthand
    rule.slice_from rule.bound rule.step rule.number_selector rule.int rule.unsigned rule.size
    past_blanks loop is_blank is_digit
spelled-rows = (
  read-spells 0 (codes "$[10]") ten (finish (codes "$[10]") (at_bytes 2 4 ∷ [])) refl,
  read-spells 0 (codes "$ .a['']") names (finish (codes "$ .a['']") []) refl,
  read-spells 0 (codes "$[:]") all (finish (codes "$[:]") (None ∷ [])) refl,
  read-spells 0 (codes "$..*") descendants (finish (codes "$..*") []) refl,
)

-- `$[01]` is stuck at byte 3, and `$.a` and a blank at its end
refused-rows : (query_at 0 (start (codes "$[01]"))
    ≡ stuck (record { at = 3; rest = codes "1]"; found = at_bytes 2 3 ∷ [] }))
    × (query_at 0 (start (codes "$.a ")) ≡ stuck (record { at = 4; rest = []; found = [] }))
unfolding query_at rule.query rule.segments rule.segment rule.bracket rule.entries rule.entry
    rule.member rule.selection rule.shorthand rule.selector rule.number_selector rule.int
    rule.unsigned past_blanks loop is_blank is_digit
refused-rows = (refl, refl)

-- the pair D83D, DE00 is U+1F600; `\b` is U+0008, and `\/` a slash
escape-rows : (scalar_of 55357 56832 ≡ 128512) × (escaped letter_b ≡ backspace)
    × (escaped slash ≡ slash)
    × (is_escapable double_quote single_quote ≡ false) × (is_escapable single_quote
    single_quote ≡ true)
escape-rows = (refl, refl, refl, refl, refl)

-- ---- filters

-- the query of one filter
abbrev filtered_by : ExprTree → QueryTree
filtered_by e = query true (segments (segment false (selectors (filter e ∷ [])) ∷ []))

-- the current node
abbrev here : QueryTree
here = query false (segments [])

-- `@.a`
abbrev member_a : QueryTree
member_a = query false (segments (segment false (selectors (name (codes "a") ∷ [])) ∷ []))

-- `$[?@]`, `$[?!(@)]`; `!` belongs to one part alone, and `&&` binds more tightly than `||`; `-0`
-- is 0, and 1.0 a fraction
abbrev test : QueryTree
test = filtered_by (exists here)

abbrev negated : QueryTree
negated = filtered_by (negation (exists here))

abbrev several : QueryTree
several =
    filtered_by (any_of (exprs
    (negation (exists here) ∷ all_of (exprs (exists here ∷ exists member_a ∷ [])) ∷ [])))

abbrev compared : QueryTree
compared =
    filtered_by (all_of (exprs
    (comparison (literal (number (Whole (pos 0)))) LessEqual (node_value member_a)
    ∷ comparison (node_value here) Equal (literal (number (Fraction (Some (AsWhole (pos 1)))))) ∷ [])))

-- a filter takes a level, and a parenthesis another one; each side and each test is a component
filter-rows : Spells 1 test (at_bytes 3 4 ∷ []) (codes "$[?@]")
    × Spells 2 negated (at_bytes 5 6 ∷ []) (codes "$[?!(@)]")
    × Spells 1 several (at_bytes 5 6 ∷ at_bytes 8 9 ∷ at_bytes 12 15 ∷ [])
    (codes "$[? !@||@ &&@.a ]")
    × Spells 1 compared (at_bytes 3 5 ∷ at_bytes 7 10 ∷ at_bytes 12 13 ∷ at_bytes 15 18 ∷ [])
    (codes "$[?-0<=@.a&&@==1.0]")
unfolding query_at rule.query rule.segments rule.segment rule.bracket rule.entries rule.entry
    rule.selector rule.member rule.selection rule.shorthand rule.query_within rule.identifier
    rule.side rule.side_within rule.word rule.comparison_with rule.subject rule.test_expr
    rule.closed rule.negated rule.negation_on rule.basic rule.inside_expression rule.conjunction
    rule.expression
    rule.operator rule.plain_literal rule.number rule.mantissa rule.decimals rule.exponent
    rule.power rule.digits rule.int_digits scan_numeral past_blanks loop is_blank is_digit
filter-rows = (
  read-spells 1 (codes "$[?@]") test (finish (codes "$[?@]") (at_bytes 3 4 ∷ [])) refl,
  read-spells 2 (codes "$[?!(@)]") negated (finish (codes "$[?!(@)]") (at_bytes 5 6 ∷ [])) refl,
  read-spells 1 (codes "$[? !@||@ &&@.a ]") several
      (finish (codes "$[? !@||@ &&@.a ]") (at_bytes 5 6 ∷ at_bytes 8 9 ∷ at_bytes 12 15 ∷ [])) refl,
  read-spells 1 (codes "$[?-0<=@.a&&@==1.0]") compared (finish (codes "$[?-0<=@.a&&@==1.0]")
      (at_bytes 3 5 ∷ at_bytes 7 10 ∷ at_bytes 12 13 ∷ at_bytes 15 18 ∷ [])) refl,
)

-- with no level left, `?` and `(` are too deep; a literal is no test, parentheses are no side, a
-- comparison has two sides, and no operator is `=`
refused_filter-rows : (query_at 0 (start (codes "$[?@]")) ≡ deep (record {
  at = 2;
  rest = codes "?@]";
  found = [];
})) × (query_at 1 (start (codes "$[?!(@)]")) ≡ deep (record {
  at = 4;
  rest = codes "(@)]";
  found = [];
})) × (query_at 1 (start (codes "$[?1]")) ≡ stuck (record {
  at = 4;
  rest = codes "]";
  found = at_bytes 3 4 ∷ [];
})) × (query_at 2 (start (codes "$[?(@)==1]")) ≡ stuck (record {
  at = 6;
  rest = codes "==1]";
  found = at_bytes 4 5 ∷ [];
})) × (query_at 1 (start (codes "$[?@==1==2]")) ≡ stuck (record {
  at = 7;
  rest = codes "==2]";
  found = at_bytes 3 4 ∷ at_bytes 6 7 ∷ [];
})) × (query_at 1 (start (codes "$[?@=1]")) ≡ stuck (record {
  at = 5;
  rest = codes "1]";
  found = at_bytes 3 4 ∷ [];
}))
unfolding query_at rule.query rule.segments rule.segment rule.bracket rule.entries rule.entry
    rule.selector rule.member rule.selection rule.shorthand rule.query_within rule.identifier
    rule.side rule.side_within rule.word rule.comparison_with rule.subject rule.test_expr
    rule.closed rule.negated rule.negation_on rule.basic rule.inside_expression rule.conjunction
    rule.expression
    rule.operator rule.plain_literal rule.number rule.mantissa rule.decimals rule.exponent
    rule.power rule.digits rule.int_digits scan_numeral past_blanks loop is_blank is_digit
refused_filter-rows = (refl, refl, refl, refl, refl, refl)

-- the expression of a filter alone takes no level of its own, and ends before a comma or a bracket
expression-rows : SpellsFilter 0 (exists member_a) (at_bytes 1 4 ∷ []) (codes " @.a ")
    × SpellsFilter 1 (negation (exists here)) (at_bytes 2 3 ∷ []) (codes "!(@)")
    × (filter_at 0 (start (codes "@, ?@"))
    ≡ stuck (record { at = 1; rest = codes ", ?@"; found = at_bytes 0 1 ∷ [] }))
    × (filter_at 0 (start (codes "@ ][0"))
    ≡ stuck (record { at = 2; rest = codes "][0"; found = at_bytes 0 1 ∷ [] }))
    × (filter_at 0 (start (codes "(@)")) ≡ deep (record { at = 0; rest = codes "(@)"; found = [] }))
unfolding filter_at rule.filter_text rule.segments rule.segment
    rule.member rule.selection rule.shorthand rule.query_within rule.identifier
    rule.side rule.side_within rule.word rule.comparison_with rule.subject rule.test_expr
    rule.closed rule.negated rule.negation_on rule.basic rule.inside_expression rule.conjunction
    rule.expression past_blanks loop is_blank is_digit
expression-rows = (
  read-spelt filters 0 (codes " @.a ") (exists member_a)
      (finish (codes " @.a ") (at_bytes 1 4 ∷ [])) refl,
  read-spelt filters 1 (codes "!(@)") (negation (exists here))
      (finish (codes "!(@)") (at_bytes 2 3 ∷ [])) refl,
  refl,
  refl,
  refl,
)

-- the components of `$[10]`, and of comparisons
components-rows : (components_of ten ≡ int (Whole (pos 10)) as_index ∷ [])
    × (components_of compared ≡ constant (number (Whole (pos 0))) as_side ∷ inner member_a as_side
    ∷ inner here as_side ∷ constant (number (Fraction (Some (AsWhole (pos 1))))) as_side ∷ [])
components-rows = (refl, refl)

-- `@.a` is singular, and `$[?@]` is not
singular-rows : (is_singular member_a ≡ true) × (is_singular test ≡ false)
singular-rows = (refl, refl)
