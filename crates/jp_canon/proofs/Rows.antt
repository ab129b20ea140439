-- Worked rows of the definitions.
use Rattle.std.proofs.Common.{◌≡◌, ℕ, Bool, true, false, List, [], ◌∷◌}
use Rattle.std.proofs.Common.{Some, None, pos, negsuc, codes, refl}
use Rattle.std.specs.Fmt.{digits}
use Rattle.jp_reading.specs.Characters as char
use Rattle.jp_document.specs.Spelling.{spelling}
use Rattle.jp_tree.specs.declared.tree.Numeral.TheVariants.{Whole}
use Rattle.jp_tree.specs.declared.tree.Op.TheVariants.{Equal}
use Rattle.jp_tree.specs.Tree.{ArgumentTree, ExprTree, QueryTree, SelectorTree, all_of, any_of}
use Rattle.jp_tree.specs.Tree.{arguments, call, call_argument, call_test, call_value, comparison}
use Rattle.jp_tree.specs.Tree.{exists, exprs, filter, index, literal, literal_argument}
use Rattle.jp_tree.specs.Tree.{logical_argument, name, negation, node_value, number, query}
use Rattle.jp_tree.specs.Tree.{query_argument, segment, segments, selectors, slice, text, wildcard}
use Rattle.jp_canon.specs.Canon.{canon_of, expr_text, selector_text}
use Rattle.jp_canon.specs.Precedence.{is_grouped}

-- @.a, @.b and @.c, as tests
abbrev child : ℕ → QueryTree
child c = query false (segments (segment false (selectors (name (c ∷ []) ∷ [])) ∷ []))

abbrev child_test : ℕ → ExprTree
child_test c = exists (child c)

abbrev test_a : ExprTree
test_a = child_test char.letter_a

abbrev test_b : ExprTree
test_b = child_test char.letter_b

abbrev test_c : ExprTree
test_c = child_test char.letter_c

abbrev or_of : ExprTree → ExprTree → ExprTree
or_of e f = any_of (exprs (e ∷ f ∷ []))

abbrev and_of : ExprTree → ExprTree → ExprTree
and_of e f = all_of (exprs (e ∷ f ∷ []))

-- @==1
abbrev relation : ExprTree
relation = comparison (node_value (query false (segments []))) Equal
    (literal (number (Whole (pos 1))))

-- in which expressions which parts stand in parentheses: in `||`, in `&&`, and after `!`
abbrev grouped_parts : ℕ → List Bool
grouped_parts outer =
    is_grouped outer (or_of test_a test_b) ∷ is_grouped outer (and_of test_a test_b) ∷
    is_grouped outer relation ∷ is_grouped outer (negation test_a) ∷ is_grouped outer test_a ∷ []

in_or : grouped_parts 1 ≡ true ∷ false ∷ false ∷ false ∷ false ∷ []
in_or = refl

in_and : grouped_parts 2 ≡ true ∷ true ∷ false ∷ false ∷ false ∷ []
in_and = refl

after_not : grouped_parts 4 ≡ true ∷ true ∷ true ∷ true ∷ false ∷ []
after_not = refl

-- expressions
or_in_and : expr_text (and_of test_a (or_of test_b test_c)) ≡ codes "@['a']&&(@['b']||@['c'])"
unfolding spelling
or_in_and = refl

and_in_or : expr_text (or_of test_a (and_of test_b test_c)) ≡ codes "@['a']||@['b']&&@['c']"
unfolding spelling
and_in_or = refl

or_in_or : expr_text (or_of (or_of test_a test_b) test_c) ≡ codes "(@['a']||@['b'])||@['c']"
unfolding spelling
or_in_or = refl

not_in_not : expr_text (negation (negation test_a)) ≡ codes "!(!@['a'])"
unfolding spelling
not_in_not = refl

not_relation : expr_text (negation relation) ≡ codes "!(@==1)"
unfolding spelling digits
not_relation = refl

-- function expressions
abbrev call_row : List ℕ → List ℕ → List ArgumentTree → Type 0
call_row row function xs = expr_text (call_test (call function (arguments xs))) ≡ row

without_arguments : call_row (codes "f()") (codes "f") []
without_arguments = refl

matched : call_row (codes "match(@['b'],'[jk]')") (codes "match")
    (query_argument (child char.letter_b) ∷ literal_argument (text (codes "[jk]")) ∷ [])
unfolding spelling
matched = refl

distinct : call_row (codes "distinct(@['a'])") (codes "distinct")
    (query_argument (child char.letter_a) ∷ [])
unfolding spelling
distinct = refl

test_argument : call_row (codes "f((@['a']),@['a'])") (codes "f")
    (logical_argument test_a ∷ query_argument (child char.letter_a) ∷ [])
unfolding spelling
test_argument = refl

call_arguments : call_row (codes "f((g()),g(),!g())") (codes "f")
    (logical_argument (call_test (call (codes "g") (arguments []))) ∷ call_argument
    (call (codes "g") (arguments [])) ∷ logical_argument
    (negation (call_test (call (codes "g") (arguments [])))) ∷ [])
call_arguments = refl

logical_arguments : call_row (codes "f(@['a']||@['b'],@['a']&&@['b'],!@['a'],@==1)") (codes "f")
    (logical_argument (or_of test_a test_b) ∷ logical_argument (and_of test_a test_b) ∷
    logical_argument (negation test_a) ∷ logical_argument relation ∷ [])
unfolding spelling digits
logical_arguments = refl

compared_call : expr_text
    (comparison (call_value (call (codes "count")
    (arguments (query_argument (child char.letter_a) ∷ []))))
    Equal (literal (number (Whole (pos 1))))) ≡ codes "count(@['a'])==1"
unfolding spelling digits
compared_call = refl

-- slices
abbrev slice_row : List ℕ → SelectorTree → Type 0
slice_row row x = selector_text x ≡ row

without_step : slice_row (codes "1:2")
    (slice (record {
      start = Some (Whole (pos 1));
      end = Some (Whole (pos 2));
      step = Whole
          (pos 1);
    }))
unfolding digits
without_step = refl

negative_step : slice_row (codes "::-1")
    (slice (record { start = None; end = None; step = Whole (negsuc 0) }))
unfolding digits
negative_step = refl

without_bounds : slice_row (codes ":")
    (slice (record { start = None; end = None; step = Whole (pos 1) }))
without_bounds = refl

-- queries
text_of_the_root : canon_of (query true (segments [])) ≡ codes "$"
text_of_the_root = refl

two_segments : canon_of
    (query true (segments
    (segment false (selectors (name (codes "a") ∷ wildcard ∷ [])) ∷ segment true
    (selectors (index (Whole (negsuc 1)) ∷ [])) ∷ []))) ≡ codes "$['a',*]..[-2]"
unfolding spelling digits
two_segments = refl

escaped : selector_text (name (char.single_quote ∷ char.backslash ∷ 31 ∷ char.line_feed ∷
    char.double_quote ∷ 233 ∷ [])) ≡ codes "'\\'\\\\\\u001f\\n\"é'"
unfolding spelling
escaped = refl

filter_of_not : canon_of
    (query true (segments (segment false (selectors (filter (negation test_a) ∷ [])) ∷ [])))
    ≡ codes "$[?!@['a']]"
unfolding spelling
filter_of_not = refl
