-- The rules by which queries are read (RFC 9535 appendix A), so that the next character, or the
-- next that is no blank, tells how a text goes on.
use Rattle.std.specs.Char.{digit_value}
use Rattle.std.specs.Prelude.{◌+◌, ◌*◌, ℕ, ◌||◌, ◌&&◌, not, Bool, true, false, List, [], ◌∷◌, ◌++◌}
use Rattle.std.specs.Prelude.{Option, Some, None, if◌then◌else◌, pos, codes}
use Rattle.jp_reading.specs.Texts.{Text, is_among}
use Rattle.jp_reading.specs.Outcome.{is}
use Rattle.jp_reading.specs.Numbers.{is_digit, value_from}
use Rattle.jp_reading.specs.Rule.{Look, here, beyond, Nesting, the, blanks, Rule, value, character}
use Rattle.jp_reading.specs.Rule.{made, look, upon, nested, component, component_where, omitted}
use Rattle.jp_reading.specs.Rule.{some}
use Rattle.jp_reading.specs.Rule.{relaxed, loose, until, flat, ◌>>=◌, ◌>>◌}
use Rattle.jp_tree.specs.declared.tree.Numeral.{Numeral}
use Rattle.jp_tree.specs.declared.tree.Numeral.TheVariants.{Whole}
use Rattle.jp_tree.specs.declared.tree.Slice.{Slice}
use Rattle.jp_tree.specs.declared.tree.Op.{Op}
use Rattle.jp_tree.specs.declared.tree.Op.TheVariants.{Equal, Unequal, Less, LessEqual, Greater}
use Rattle.jp_tree.specs.declared.tree.Op.TheVariants.{GreaterEqual}
use Rattle.jp_tree.specs.Tree.{SelectorTree, name, wildcard, index, slice, filter, SegmentTree}
use Rattle.jp_tree.specs.Tree.{QueryTree, query as query_tree, ExprTree, any_of, all_of, negation}
use Rattle.jp_tree.specs.Tree.{comparison as comparison_tree, exists, call_test, OperandTree}
use Rattle.jp_tree.specs.Tree.{literal as literal_operand, node_value, call_value, CallTree, call}
use Rattle.jp_tree.specs.Tree.{ArgumentTree, literal_argument, query_argument, call_argument}
use Rattle.jp_tree.specs.Tree.{logical_argument, LiteralTree, number as number_literal, text}
use Rattle.jp_tree.specs.Tree.{true_literal, false_literal, null_literal, segment as segment_tree}
use Rattle.jp_tree.specs.Tree.{selectors as selector_trees, segments as segment_trees}
use Rattle.jp_tree.specs.Tree.{arguments as argument_trees}
use Rattle.jp_reading.specs.Characters.{double_quote, single_quote, exclamation_mark, dollar}
use Rattle.jp_reading.specs.Characters.{ampersand, opening_parenthesis, closing_parenthesis, star}
use Rattle.jp_reading.specs.Characters.{comma, minus, dot, digit_zero, colon, less_sign}
use Rattle.jp_reading.specs.Characters.{equals_sign}
use Rattle.jp_reading.specs.Characters.{greater_sign, question_mark, at_sign, opening_bracket}
use Rattle.jp_reading.specs.Characters.{backslash, closing_bracket, letter_f, letter_n, letter_t}
use Rattle.jp_reading.specs.Characters.{letter_u, bar}
use Rattle.jp_query.specs.Grammar.{joined}
use Rattle.jp_query.specs.Ints.{whole_of, negative_of}
use Rattle.jp_reading.specs.Numbers.{is_leading_digit}
use Rattle.jp_query.specs.Literals.{is_e, is_sign, number_in, numeral}
use Rattle.jp_query.specs.Names.{is_name_first, is_name_char, is_function_first, is_function_char}
use Rattle.jp_query.specs.Strings.{is_plain, is_escapable, escaped, is_hexdig, is_d, is_not_d}
use Rattle.jp_query.specs.Strings.{is_0_to_7, is_8_to_b, is_c_to_f, scalar_of}

-- what opens a level: the character before an expression, the first letter of a function's name,
-- which is none of some others, or what goes on with such a name or ends it, and not with another
-- character
pub data QueryOpening : Type 0 where
  expression_after : ℕ → QueryOpening
  name_from : Text → QueryOpening
  name_on : Option ℕ → QueryOpening

-- a function expression from somewhere within its name on: what is left of the name, and the
-- arguments
pub record CallRest : Type 0 where
  pub rest : Text
  pub arguments : List ArgumentTree

-- that character alone, if there is one
abbrev pub only_this : Option ℕ → Text
only_this None = []
only_this (Some c) = c ∷ []

-- whether a character begins what the opening opens
abbrev pub opens : QueryOpening → ℕ → Bool
opens (expression_after m) c = is m c
opens (name_from others) c = is_function_first c && not (is_among others c)
opens (name_on other) c =
    is opening_parenthesis c || (is_function_char c && not (is_among (only_this other) c))

-- what is one level further in
abbrev pub Opened : QueryOpening → Type 0
Opened (expression_after m) = ExprTree
Opened (name_from others) = CallRest
Opened (name_on other) = CallRest

-- what a query nests: expressions, and arguments of functions
abbrev pub nesting : Nesting
nesting = record { Opening = QueryOpening; opens = opens; Inner = Opened }

-- a rule of queries, with how far the text is looked at as it begins and as it ends
abbrev pub QueryRule : Bool → Look → Look → Type 0 → Type 1
QueryRule = Rule nesting

-- ---- names (section 2.5.1.1)

-- characters that pass, as many as there are
abbrev pub run : (ℕ → Bool) → QueryRule false here here Text
run ok = some here ok (character ok)

-- member-name-shorthand
unfoldable pub shorthand : QueryRule true here here Text
shorthand = do
  c ← character is_name_first
  made (λ cs. c ∷ cs) (run is_name_char)

-- ---- strings (section 2.3.1.1)

-- a hexadecimal digit that passes, as its value
abbrev pub hex_digit : (ℕ → Bool) → QueryRule true here here ℕ
hex_digit ok = made digit_value (character ok)

-- the last three of four hexadecimal digits, of which the second passes the test
unfoldable pub unit_after : ℕ → (ℕ → Bool) → QueryRule true here here ℕ
unit_after a second = do
  b ← hex_digit second
  c ← hex_digit is_hexdig
  made (λ d. ((a * 16 + b) * 16 + c) * 16 + d) (hex_digit is_hexdig)

-- four hexadecimal digits, of which the first two pass these tests
unfoldable pub unit : (ℕ → Bool) → (ℕ → Bool) → QueryRule true here here ℕ
unit first second = do
  a ← hex_digit first
  unit_after a second

-- a surrogate pair after its first digit
unfoldable pub surrogates_after : ℕ → QueryRule true here here ℕ
surrogates_after a = do
  high ← unit_after a is_8_to_b
  the backslash
  the letter_u
  made (scalar_of high) (unit is_d is_c_to_f)

-- hexchar: no D and three digits, a D and a digit up to 7, or a surrogate pair
unfoldable pub hexchar : QueryRule true here here ℕ
hexchar =
    look here is_not_d (unit is_not_d is_hexdig)
    (hex_digit is_d >>= λ a. look here is_0_to_7 (unit_after a is_0_to_7) (surrogates_after a))

-- what comes after a backslash
unfoldable pub escape : ℕ → QueryRule true here here ℕ
escape quote = upon letter_u hexchar (made escaped (character (is_escapable quote)))

-- a character of a string
unfoldable pub string_character : ℕ → QueryRule true here here ℕ
string_character quote = upon backslash (escape quote) (character (is_plain quote))

-- whether one begins
abbrev pub begins_character : ℕ → ℕ → Bool
begins_character quote c = is_plain quote c || is backslash c

-- the characters of a string
unfoldable pub characters : ℕ → QueryRule false here here Text
characters quote = some here (begins_character quote) (string_character quote)

-- a string between two of the quotation mark
unfoldable pub quoted : ℕ → QueryRule true here here Text
quoted quote = do
  the quote
  cs ← characters quote
  the quote
  value {m = here} cs

-- ---- whole numbers (section 2.3.3.1)

-- digits without a leading zero, as the number that they write
unfoldable pub size : QueryRule true here here ℕ
size = do
  d ← character is_leading_digit
  made (λ ds. value_from 0 (d ∷ ds)) (run is_digit)

-- a whole number without a sign
unfoldable pub unsigned : QueryRule true here here Numeral
unsigned = upon digit_zero (value {m = here} (whole_of 0)) (made whole_of size)

-- int
unfoldable pub int : QueryRule true here here Numeral
int = upon minus (made negative_of size) unsigned

-- whether a character begins one
abbrev pub begins_int : ℕ → Bool
begins_int c = is digit_zero c || is minus c || is_leading_digit c

-- ---- slices (section 2.3.4.1): each part is looked for past the blanks before it

-- a bound, if one comes
unfoldable pub bound : QueryRule false beyond beyond (Option Numeral)
bound =
    look beyond begins_int (blanks {m = beyond} >> relaxed (made Some (component int)))
    (value {m = beyond} None)

-- a step after its colon, if one comes
unfoldable pub later_step : QueryRule false beyond beyond Numeral
later_step =
    look beyond begins_int (blanks {m = beyond} >> relaxed (component int))
    (omitted {m = beyond} (Whole (pos 1)))

-- a colon and a step, if there is one
unfoldable pub step : QueryRule false beyond beyond Numeral
step =
    look beyond (is colon) (blanks {m = beyond} >> (the colon >> later_step))
    (omitted {m = beyond} (Whole (pos 1)))

-- the slice of these parts
abbrev pub slice_of : Option Numeral → Option Numeral → Numeral → Slice
slice_of start end step = record { start = start; end = end; step = step }

-- a slice with that start, from its colon on
unfoldable pub slice_from : Option Numeral → QueryRule true here beyond Slice
slice_from start = do
  the colon
  end ← bound
  made (slice_of start end) step

-- ---- literals (section 2.3.5.1)

-- whether there is a character
abbrev pub is_some : Text → Bool
is_some [] = false
is_some (c ∷ w) = true

-- digits, at least one
unfoldable pub digits : QueryRule true here here Text
digits = character is_digit >>= λ d. made (λ ds. d ∷ ds) (run is_digit)

-- a dot and digits, if there is a dot
unfoldable pub decimals : QueryRule false here here Text
decimals = upon dot (made (λ ds. dot ∷ ds) digits) (value {m = here} [])

-- digits after a sign or none
unfoldable pub power : QueryRule true here here Text
power = look here is_sign (character is_sign >>= λ sign. made (λ ds. sign ∷ ds) digits) digits

-- an `e`, a sign or none, and digits, if there is an `e`
unfoldable pub exponent : QueryRule false here here Text
exponent = look here is_e (character is_e >>= λ e. made (λ ds. e ∷ ds) power) (value {m = here} [])

-- digits without a leading zero, or a zero
unfoldable pub int_digits : QueryRule true here here Text
int_digits =
    upon digit_zero (value {m = here} (digit_zero ∷ []))
    (character is_leading_digit >>= λ d. made (λ ds. d ∷ ds) (run is_digit))

-- a whole number, or -0
unfoldable pub mantissa : QueryRule true here here Text
mantissa = upon minus (made (λ ds. minus ∷ ds) int_digits) int_digits

-- the whole number that these characters write
abbrev pub integer_of : Text → Numeral
integer_of [] = whole_of 0
integer_of (c ∷ ds) =
    if is minus c then negative_of (value_from 0 ds) else whole_of (value_from 0 (c ∷ ds))

-- the number of these characters before its fraction, of its fraction, and of its exponent
abbrev pub numeral_of : Text → Text → Text → Numeral
numeral_of a b c = numeral (integer_of a) (is_some b) (is_some c) (number_in (a ++ (b ++ c)))

-- number, with its fraction and its exponent
unfoldable pub number : QueryRule true here here Numeral
number = do
  a ← mantissa
  b ← decimals
  made (numeral_of a b) exponent

-- literal that is no word: a string or a number
unfoldable pub plain_literal : QueryRule true here here LiteralTree
plain_literal =
    look here (is double_quote) (made text (quoted double_quote))
    (look here (is single_quote) (made text (quoted single_quote)) (made number_literal number))

-- an operator whose second character is `=`, after its first
abbrev pub with_equals : Op → QueryRule true here here Op
with_equals op = the equals_sign >> value {m = here} op

-- an operator of one character after that character, or with a `=` another
abbrev pub alone_or_with_equals : Op → Op → QueryRule false here here Op
alone_or_with_equals alone longer = upon equals_sign (value {m = here} longer) (value alone)

-- comparison-op
unfoldable pub operator : QueryRule true here here Op
operator =
    upon equals_sign (with_equals Equal)
    (upon exclamation_mark (with_equals Unequal)
    (upon less_sign (alone_or_with_equals Less LessEqual)
    (the greater_sign >> alone_or_with_equals Greater GreaterEqual)))

-- whether a character begins one
abbrev pub begins_operator : ℕ → Bool
begins_operator c = is equals_sign c || is exclamation_mark c || is less_sign c || is greater_sign c

-- ---- selectors (section 2.3)

-- an index, or a slice that starts with it
unfoldable pub number_selector : QueryRule true here beyond SelectorTree
number_selector = do
  i ← relaxed (component int)
  look beyond (is colon) (blanks {m = beyond} >> made slice (slice_from (Some i)))
      (value {m = beyond} (index i))

-- selector
unfoldable pub selector : QueryRule true here beyond SelectorTree
selector =
    look here (is double_quote) (relaxed (flat (made name (quoted double_quote))))
    (look here (is single_quote) (relaxed (flat (made name (quoted single_quote))))
    (upon star (value {m = beyond} wildcard)
    (look here (is colon) (flat (made slice (slice_from None)))
    (nested (expression_after question_mark) (λ e. value {m = beyond} (filter e)) (flat number_selector)))))

-- a selector and the blanks after it
unfoldable pub entry : QueryRule true here here SelectorTree
entry = do
  x ← selector
  blanks {m = beyond}
  value {m = here} x

-- selectors with commas between them
unfoldable pub entries : QueryRule true here here (List SelectorTree)
entries =
    entry >>= λ x. made (λ xs. x ∷ xs)
    (some here (is comma) (the comma >> (blanks {m = here} >> entry)))

-- ---- segments (section 2.5)

-- bracketed-selection after its first bracket and the blanks there
abbrev pub in_brackets : Bool → QueryRule true here here SegmentTree
in_brackets descendant = do
  xs ← entries
  the closing_bracket
  value {m = here} (segment_tree descendant (selector_trees xs))

-- bracketed-selection
unfoldable pub bracket : Bool → QueryRule true here here SegmentTree
bracket descendant = the opening_bracket >> (blanks {m = here} >> in_brackets descendant)

-- the segment of one selector
abbrev pub segment_of_one : Bool → SelectorTree → SegmentTree
segment_of_one descendant x = segment_tree descendant (selector_trees (x ∷ []))

-- wildcard-selector or member-name-shorthand
unfoldable pub member : Bool → QueryRule true here here SegmentTree
member descendant =
    made (segment_of_one descendant) (upon star (value {m = here} wildcard) (made name shorthand))

-- what comes after two dots
unfoldable pub selection : Bool → QueryRule true here here SegmentTree
selection descendant =
    look here (is opening_bracket) (bracket descendant) (flat (member descendant))

-- segment
unfoldable pub segment : QueryRule true here here SegmentTree
segment =
    look here (is opening_bracket) (bracket false)
    (the dot >> upon dot (selection true) (flat (member false)))

-- whether a character begins one
abbrev pub begins_segment : ℕ → Bool
begins_segment c = is opening_bracket c || is dot c

-- segments
unfoldable pub segments : QueryRule false beyond beyond (List SegmentTree)
segments = some beyond begins_segment (blanks {m = beyond} >> relaxed segment)

-- jsonpath-query
unfoldable pub query : QueryRule true here beyond QueryTree
query = the dollar >> made (λ xs. query_tree true (segment_trees xs)) segments

-- ---- expressions (section 2.3.5.1)

-- root-identifier or current-node-identifier: whether it is the first
unfoldable pub identifier : QueryRule true here here Bool
identifier = upon dollar (value {m = here} true) (the at_sign >> value {m = here} false)

-- filter-query, without its span
unfoldable pub query_within : QueryRule true here beyond QueryTree
query_within =
    relaxed (flat identifier)
    >>= λ absolute. made (λ xs. query_tree absolute (segment_trees xs)) segments

-- whether a character begins one
abbrev pub begins_query : ℕ → Bool
begins_query c = is dollar c || is at_sign c

-- the function expression whose name begins so
abbrev pub call_with : Text → CallRest → CallTree
call_with w r = call (w ++ r.rest) (argument_trees r.arguments)

-- the word whose letters are w and then these, or a function whose name begins so far like it
abbrev pub word_from : LiteralTree → Text → (more : Text)
    → QueryRule (is_some more) here beyond OperandTree
word_from l w [] =
    nested (name_on None) (λ r. value {m = beyond} (call_value (call_with w r)))
    (relaxed (value {m = here} (literal_operand l)))
word_from l w (c ∷ more) =
    nested (name_on (Some c)) (λ r. value {m = beyond} (call_value (call_with w r)))
    (the c >> word_from l (w ++ c ∷ []) more)

-- the same from its first letter on
abbrev pub word_of : LiteralTree → ℕ → (more : Text) → QueryRule true here beyond OperandTree
word_of l c more = the c >> word_from l (c ∷ []) more

-- true, false, null, or a function
unfoldable pub word : QueryRule true here beyond OperandTree
word =
    nested (name_from (codes "tfn")) (λ r. value {m = beyond} (call_value (call_with [] r)))
    (look here (is letter_t) (word_of true_literal letter_t (codes "rue"))
    (look here (is letter_f) (word_of false_literal letter_f (codes "alse"))
    (word_of null_literal letter_n (codes "ull"))))

-- comparable, without its span
unfoldable pub side_within : QueryRule true here beyond OperandTree
side_within =
    look here begins_query (made node_value query_within)
    (look here is_function_first word (relaxed (flat (made literal_operand plain_literal))))

-- comparable, which is a component
unfoldable pub side : QueryRule true here beyond OperandTree
side = component side_within

-- the operator and the second side of a comparison
unfoldable pub comparison_with : OperandTree → QueryRule true here beyond ExprTree
comparison_with left = do
  op ← flat operator
  blanks {m = here}
  made (comparison_tree left op) side

-- the end of paren-expr, after its expression
unfoldable pub closed : ExprTree → QueryRule true beyond beyond ExprTree
closed e = blanks {m = beyond} >> (the closing_parenthesis >> value {m = beyond} e)

-- test-expr, without its span: a function, or a query
unfoldable pub subject : QueryRule true here beyond ExprTree
subject =
    nested (name_from []) (λ r. value {m = beyond} (call_test (call_with [] r)))
    (made exists query_within)

-- test-expr, which is a component
unfoldable pub test_expr : QueryRule true here beyond ExprTree
test_expr = component subject

-- what comes after a `!`
unfoldable pub negated : QueryRule true here beyond ExprTree
negated = nested (expression_after opening_parenthesis) closed test_expr

-- what goes on from the first side: a literal has to be compared, all else may be a test
abbrev pub compared_or_test : OperandTree → QueryRule false beyond beyond ExprTree
compared_or_test (literal_operand l) =
    loose (blanks {m = beyond} >> comparison_with (literal_operand l))
compared_or_test (node_value q) =
    look beyond begins_operator (blanks {m = beyond} >> comparison_with (node_value q))
    (value {m = beyond} (exists q))
compared_or_test (call_value c) =
    look beyond begins_operator (blanks {m = beyond} >> comparison_with (call_value c))
    (value {m = beyond} (call_test c))

-- a negation after its `!`
unfoldable pub negation_on : QueryRule true here beyond ExprTree
negation_on = blanks {m = here} >> made negation negated

-- basic-expr
unfoldable pub basic : QueryRule true here beyond ExprTree
basic =
    upon exclamation_mark negation_on
    (nested (expression_after opening_parenthesis) closed (side >>= compared_or_test))

-- the character c twice with blanks around it
unfoldable pub joint : ℕ → QueryRule true beyond here ℕ
joint c = blanks {m = beyond} >> (the c >> (the c >> (blanks {m = here} >> value {m = here} c)))

-- the character c twice with blanks around it, and another part
abbrev pub part : {A : Type 0} → ℕ → QueryRule true here beyond A → QueryRule true beyond beyond A
part c rule = blanks {m = beyond} >> (the c >> (the c >> (blanks {m = here} >> rule)))

-- further parts, each after the character c twice
abbrev pub other_parts : {A : Type 0} → ℕ → QueryRule true here beyond A
    → QueryRule false beyond beyond (List A)
other_parts c rule = some beyond (is c) (part c rule)

-- parts with the character c twice between them
abbrev pub parts : {A : Type 0} → ℕ → QueryRule true here beyond A
    → QueryRule true here beyond (List A)
parts c rule = rule >>= λ x. made (λ xs. x ∷ xs) (other_parts c rule)

-- logical-and-expr
unfoldable pub conjunction : QueryRule true here beyond ExprTree
conjunction = made (joined all_of) (parts ampersand basic)

-- the expression, after which blanks may stand
abbrev pub ended_by_blanks : ExprTree → QueryRule false beyond here ExprTree
ended_by_blanks e = blanks {m = beyond} >> value {m = here} e

-- logical-or-expr
unfoldable pub expression : QueryRule true here beyond ExprTree
expression = made (joined any_of) (parts bar conjunction)

-- the expression of a filter alone, with blanks around it
unfoldable pub filter_text : QueryRule true here beyond ExprTree
filter_text = relaxed (blanks {m = here} >> (expression >>= ended_by_blanks))

-- ---- arguments of functions (section 2.4)

-- the argument that a side is, if there is no more of it
abbrev pub argument_alone : OperandTree → ArgumentTree
argument_alone (literal_operand l) = literal_argument l
argument_alone (node_value q) = query_argument q
argument_alone (call_value c) = call_argument c

-- what goes on from the first side of an argument
abbrev pub compared_or_alone : OperandTree → QueryRule false beyond beyond ArgumentTree
compared_or_alone x =
    look beyond begins_operator (blanks {m = beyond} >> made logical_argument (comparison_with x))
    (value {m = beyond} (argument_alone x))

-- the first basic-expr of an argument, or a literal that is all of it
unfoldable pub argument_start : QueryRule true here beyond ArgumentTree
argument_start =
    upon exclamation_mark (made logical_argument negation_on)
    (nested (expression_after opening_parenthesis) (λ e. made logical_argument (closed e))
    (side >>= compared_or_alone))

-- the first part of an argument, as an expression too, and others after it
abbrev pub argument_of_parts : ArgumentTree → ExprTree → List ExprTree → List ExprTree
    → ArgumentTree
argument_of_parts x e [] [] = x
argument_of_parts x e es fs = logical_argument (joined any_of (joined all_of (e ∷ es) ∷ fs))

-- the other parts of an argument
abbrev pub other_argument_parts : ArgumentTree → ExprTree
    → QueryRule false beyond beyond ArgumentTree
other_argument_parts x e = do
  es ← other_parts ampersand basic
  made (argument_of_parts x e es) (other_parts bar conjunction)

-- what goes on from the first part: a literal is no part of an expression
abbrev pub argument_on : ArgumentTree → QueryRule false beyond beyond ArgumentTree
argument_on (literal_argument l) = value {m = beyond} (literal_argument l)
argument_on (query_argument q) = other_argument_parts (query_argument q) (exists q)
argument_on (call_argument c) = other_argument_parts (call_argument c) (call_test c)
argument_on (logical_argument e) = other_argument_parts (logical_argument e) e

-- whether an argument is a logical expression, which is a component
abbrev pub is_logical : ArgumentTree → Bool
is_logical (logical_argument e) = true
is_logical x = false

-- what ends an expression inside a filter or a parenthesis, and an argument
abbrev pub is_closing : ℕ → Bool
is_closing c = is comma c || is closing_bracket c || is closing_parenthesis c

-- function-argument
unfoldable pub argument : QueryRule true here beyond ArgumentTree
argument = until is_closing (component_where is_logical (argument_start >>= argument_on))

-- another argument after a comma
unfoldable pub next_argument : QueryRule true beyond beyond ArgumentTree
next_argument = blanks {m = beyond} >> (the comma >> (blanks {m = here} >> argument))

-- arguments up to the closing parenthesis
unfoldable pub some_arguments : QueryRule true here beyond (List ArgumentTree)
some_arguments = do
  x ← argument
  xs ← some beyond (is comma) next_argument
  blanks {m = beyond}
  the closing_parenthesis
  value {m = beyond} (x ∷ xs)

-- arguments, if there are any, after the opening parenthesis
unfoldable pub after_parenthesis : QueryRule true here beyond (List ArgumentTree)
after_parenthesis =
    blanks {m = here} >> upon closing_parenthesis (value {m = beyond} []) some_arguments

-- the rest of a function expression with these
abbrev pub call_rest : Text → List ArgumentTree → CallRest
call_rest rest arguments = record { rest = rest; arguments = arguments }

-- the rest of a function expression, whatever it begins with
unfoldable pub any_call : QueryRule true here beyond CallRest
any_call = do
  w ← run is_function_char
  the opening_parenthesis
  made (call_rest w) after_parenthesis

-- the rest of a function expression from a character of its name on that passes
unfoldable pub named_call : (ℕ → Bool) → QueryRule true here beyond CallRest
named_call ok = do
  c ← character ok
  w ← run is_function_char
  the opening_parenthesis
  made (call_rest (c ∷ w)) after_parenthesis

-- ---- levels

-- an expression one level further in, with the character that opens it
unfoldable pub inside_expression : ℕ → QueryRule true here beyond ExprTree
inside_expression m = the m >> (blanks {m = here} >> expression)

-- what is one level further in, from its opening on
abbrev pub opened : (o : QueryOpening) → QueryRule true here beyond (Opened o)
opened (expression_after m) = inside_expression m
opened (name_from others) = named_call (opens (name_from others))
opened (name_on other) =
    upon opening_parenthesis (made (call_rest []) after_parenthesis)
    (named_call (λ c. is_function_char c && not (is_among (only_this other) c)))
