-- That the rules of queries are alive, and apart from one another and from what follows them. Each
-- is found by computing, once `all_rules` says what a rule is made of: a new rule is a name there.
-- What is stated here is what is used, or used more than once.
use Rattle.std.proofs.Common.{◌≡◌, ℕ, Bool, true, false, ◌&&◌, not, List, [], ◌∷◌, ◌++◌, Option}
use Rattle.std.proofs.Common.{Some, None, inl, inr, refl, arith}
use Rattle.std.specs.Prelude.{codes}
use Rattle.std.proofs.lemmas.Bool.{cases_Bool, eqb-true}
use Rattle.std.proofs.lemmas.Bool.Decides.{nat_tests}
use Rattle.jp_reading.specs.Characters as char
use Rattle.jp_reading.specs.Texts.{Text}
use Rattle.jp_reading.specs.Rule.{Look}
use Rattle.jp_reading.specs.Outcome.{is}
use Rattle.jp_reading.specs.Numbers.{is_digit}
use Rattle.jp_reading.proofs.Rules.Ranges.{Range, ranges, within, without, without-covers, single}
use Rattle.jp_reading.proofs.Rules.Ranges.{single-covers, within-left, within-right, one_of}
use Rattle.jp_reading.proofs.Conjunctions.{and-left}
use Rattle.jp_reading.proofs.Rules.Classes.{Class}
use Rattle.jp_reading.proofs.Rules.Form.{Alive}
use Rattle.jp_reading.proofs.Rules.Follow.{Follow, any, at_end, beginning, either_of, blanked}
use Rattle.jp_reading.proofs.Rules.Follow.{begins}
use Rattle.jp_reading.proofs.Rules.Follow.{Under, under-computed, Apart}
use Rattle.jp_tree.specs.Tree.{OperandTree, literal, node_value, call_value, ArgumentTree}
use Rattle.jp_tree.specs.Tree.{ExprTree, exists, call_test}
use Rattle.jp_tree.specs.Tree.{literal_argument, query_argument, call_argument, logical_argument}
use Rattle.jp_query.specs.Names.{is_function_first, is_function_char}
use Rattle.jp_query.specs.Private.Rules.{opens}
use Rattle.jp_reading.specs.Texts.{is_among}
use Rattle.jp_query.specs.Private.Rules as rule
use Rattle.jp_query.proofs.Rules.Classes.{classes}
use Rattle.jp_query.proofs.Forms.FunctionNames.{from-letter}

-- what each rule is made of
all_rules : Unit {0}
unfolding rule.shorthand rule.unit_after rule.unit rule.surrogates_after rule.hexchar
    rule.escape rule.string_character rule.characters rule.quoted rule.size rule.unsigned
    rule.int rule.bound rule.later_step rule.step rule.slice_from rule.digits rule.decimals
    rule.power rule.exponent rule.int_digits rule.mantissa rule.number rule.plain_literal rule.operator
    rule.number_selector rule.selector rule.entry rule.entries rule.bracket rule.member
    rule.selection rule.segment rule.segments rule.query rule.identifier rule.query_within
    rule.word rule.side_within rule.side rule.comparison_with rule.closed rule.subject
    rule.test_expr rule.negated rule.negation_on rule.basic rule.conjunction rule.expression
    rule.filter_text rule.argument_start rule.argument rule.next_argument rule.some_arguments
    rule.after_parenthesis rule.named_call rule.inside_expression
all_rules = tt

-- ---- each class of characters in a rule is one of the table

pub mantissa-alive : Alive rule.mantissa
unfolding all_rules
mantissa-alive = assumption classes

selector-alive : Alive rule.selector
unfolding all_rules
selector-alive = assumption classes

bracket-alive : (d : Bool) → Alive (rule.bracket d)
unfolding all_rules
bracket-alive d = assumption (classes, selector-alive)

pub segment-alive : Alive rule.segment
unfolding all_rules
segment-alive = assumption (classes, bracket-alive true, bracket-alive false)

pub query-alive : Alive rule.query
unfolding all_rules
query-alive = assumption (classes, segment-alive)

side-alive : Alive rule.side
unfolding all_rules
side-alive = assumption (classes, segment-alive)

comparison-alive : (first : OperandTree) → Alive (rule.comparison_with first)
unfolding all_rules
comparison-alive first = assumption (classes, side-alive)

compared_or_test-alive : (first : OperandTree) → Alive (rule.compared_or_test first)
compared_or_test-alive (literal l) = comparison-alive (literal l)
compared_or_test-alive (node_value q) = assumption (classes, comparison-alive (node_value q))
compared_or_test-alive (call_value c) = assumption (classes, comparison-alive (call_value c))

basic-alive : Alive rule.basic
unfolding all_rules
basic-alive = assumption (classes, segment-alive, side-alive, compared_or_test-alive)

conjunction-alive : Alive rule.conjunction
unfolding all_rules
conjunction-alive = assumption (classes, basic-alive)

pub expression-alive : Alive rule.expression
unfolding all_rules
expression-alive = assumption (classes, conjunction-alive)

pub filter-alive : Alive rule.filter_text
unfolding all_rules
filter-alive = assumption (expression-alive)

others-alive : (x : ArgumentTree) (e : ExprTree) → Alive (rule.other_argument_parts x e)
unfolding all_rules
others-alive x e = assumption (classes, basic-alive, conjunction-alive)

argument_on-alive : (x : ArgumentTree) → Alive (rule.argument_on x)
argument_on-alive (literal_argument l) = tt
argument_on-alive (query_argument q) = others-alive (query_argument q) (exists q)
argument_on-alive (call_argument c) = others-alive (call_argument c) (call_test c)
argument_on-alive (logical_argument e) = others-alive (logical_argument e) e

after_parenthesis-alive : Alive rule.after_parenthesis
unfolding all_rules
after_parenthesis-alive =
    assumption (classes, segment-alive, side-alive, comparison-alive, argument_on-alive)

named_call-alive : (ok : ℕ → Bool) → Class ok → Alive (rule.named_call ok)
unfolding all_rules
named_call-alive ok class = assumption (class, classes, after_parenthesis-alive)

-- ---- openings
-- ---- openings

-- the characters of functions' names
abbrev letters : List Range
letters = ranges (codes "09__az")

letters-covers : (c : ℕ) → is_function_char c ≡ true → within letters c ≡ true
unfolding is_digit
letters-covers c h = grind (arith, nat_tests)

first-covers : (c : ℕ) → is_function_first c ≡ true → within (ranges (codes "az")) c ≡ true
first-covers c h = grind (arith, nat_tests)

abbrev without_all : Text → List Range → List Range
without_all [] rs = rs
without_all (d ∷ ds) rs = without d (without_all ds rs)

without_all-covers : (ds : Text) (rs : List Range) (c : ℕ) → within rs c ≡ true
    → is_among ds c ≡ false → within (without_all ds rs) c ≡ true
without_all-covers [] rs c h other = h
without_all-covers (d ∷ ds) rs c h other =
    elim (cases_Bool (is d c)) [
      | inl e ↦ absurd cc
      | inr e ↦
          without-covers d (without_all ds rs) c
          (without_all-covers ds rs c h (rw e at other)) e
    ]

-- how what is opened begins
abbrev pub starts : rule.QueryOpening → List Range
starts (rule.expression_after m) = single m
starts (rule.name_from others) = without_all others (ranges (codes "az"))
starts (rule.name_on other) = ranges (codes "((") ++ without_all (rule.only_this other) letters

-- a test that another one narrows
narrowed : {P : Type 0} (a b : Bool) → (a && not b) ≡ true → (a ≡ true → b ≡ false → P) → P
narrowed true false h f = f refl refl
narrowed true true h f = absurd cc
narrowed false b h f = absurd cc

pub starts-covers : (o : rule.QueryOpening) (c : ℕ) → opens o c ≡ true → within (starts o) c ≡ true
starts-covers (rule.expression_after m) c h = single-covers m c h
starts-covers (rule.name_from others) c h =
    narrowed (is_function_first c) (is_among others c) h
    (λ f off. without_all-covers others (ranges (codes "az")) c (first-covers c f) off)
starts-covers (rule.name_on other) c h =
    one_of (is char.opening_parenthesis c) _ h
    (λ f. within-left (ranges (codes "((")) (without_all (rule.only_this other) letters) c
    (within-left (ranges (codes "((")) [] c (single-covers char.opening_parenthesis c f)))
    (λ f. narrowed (is_function_char c) (is_among (rule.only_this other) c) f
    (λ g off. within-right (ranges (codes "((")) (without_all (rule.only_this other) letters) c
    (without_all-covers (rule.only_this other) letters c (letters-covers c g) off)))

none-within : {P : Type 0} (c : ℕ) → within [] c ≡ true → P
none-within c h = absurd cc

-- some characters of functions' names, of which this is one
abbrev some_letters : (ok : ℕ → Bool) → ((c : ℕ) → ok c ≡ true → is_function_char c ≡ true)
    → (c : ℕ) → ok c ≡ true → Class ok
some_letters ok letter c passes = record {
  member = c;
  passes = passes;
  outer = letters;
  covers = λ d h. letters-covers d (letter d h);
  inner = [];
  filled = λ d. none-within d;
}

-- those that go on with a name, and are not that one
abbrev going_on : Option ℕ → ℕ → Bool
going_on other c = is_function_char c && not (is_among (rule.only_this other) c)

passed-on : (other : Option ℕ) → (c : ℕ) × (going_on other c ≡ true)
passed-on None = (char.letter_a, refl)
passed-on (Some d) =
    elim (cases_Bool (is d char.letter_a)) [
      | inl e ↦ (
        char.letter_b,
        let same : char.letter_a
            ≡ d = eqb-true char.letter_a d e in rw (← same) refl,
      )
      | inr e ↦ (char.letter_a, rw e refl)
    ]

abbrev going_on-class : (other : Option ℕ) → Class (going_on other)
going_on-class other =
    some_letters (going_on other)
    (λ c. and-left (is_function_char c) (not (is_among (rule.only_this other) c)))
    (passed-on other).0 (passed-on other).1

pub opened-alive : (o : rule.QueryOpening) (c : ℕ) → opens o c ≡ true → Alive (rule.opened o)
unfolding all_rules
opened-alive (rule.expression_after m) c h = assumption expression-alive
opened-alive (rule.name_from others) c h =
    named_call-alive (opens (rule.name_from others))
    (some_letters (opens (rule.name_from others)) (from-letter others) c h)
opened-alive (rule.name_on other) c h =
    (after_parenthesis-alive, named_call-alive (going_on other) (going_on-class other))

-- ---- what follows

-- what ends an expression inside a filter or a parenthesis, and an argument; it may have blanks
-- before it
abbrev pub before_closing : Follow
before_closing = blanked (beginning (ranges (codes ")),,]]")))

-- an expression is ended so, or, where it stands alone, by the end of the text
data Around : Type 0 where
  another : Around
  nothing : Around

abbrev after_expression : Around → Follow
after_expression another = before_closing
after_expression nothing = blanked at_end

-- a function expression ends with its closing parenthesis, whatever follows
abbrev pub closes : rule.QueryOpening → Follow
closes (rule.expression_after m) = before_closing
closes (rule.name_from others) = any
closes (rule.name_on other) = any

-- what follows a conjunction, a basic expression, and its first side
abbrev after_conjunction : Around → Follow
after_conjunction end = either_of (blanked (beginning (ranges (codes "||")))) (after_expression end)

abbrev after_basic : Around → Follow
after_basic end = either_of (blanked (beginning (ranges (codes "&&")))) (after_conjunction end)

abbrev after_first : Around → Follow
after_first end = either_of (blanked (beginning (ranges (codes "==!!<<>>")))) (after_basic end)

-- what follows a selector: blanks, and another or the end of the brackets
abbrev after_selector : Follow
after_selector =
    blanked (either_of (beginning (ranges (codes ",,"))) (beginning (ranges (codes "]]"))))

-- ---- each rule is apart

abbrev pub IsApart : {u : Bool} {a b : Look} {A : Type 0} (r : rule.QueryRule u a b A) → Alive r
    → Follow → Type 0
IsApart r w K = Apart starts closes r w K

-- with what each of them is alive
all_alive : Unit {0}
unfolding all_rules selector-alive bracket-alive segment-alive query-alive side-alive
    comparison-alive compared_or_test-alive basic-alive conjunction-alive expression-alive filter-alive
    others-alive argument_on-alive after_parenthesis-alive named_call-alive
all_alive = tt

selector-apart : IsApart rule.selector selector-alive after_selector
unfolding all_alive
selector-apart = assumption

bracket-apart : (d : Bool) → IsApart (rule.bracket d) (bracket-alive d) any
unfolding all_alive
bracket-apart d = assumption selector-apart

pub query-apart : IsApart rule.query query-alive at_end
unfolding all_alive
query-apart = assumption (bracket-apart false, bracket-apart true)

first-apart : (end : Around) → IsApart rule.side side-alive (after_first end)
unfolding all_alive
first-apart another = assumption (bracket-apart false, bracket-apart true)
first-apart nothing = assumption (bracket-apart false, bracket-apart true)

second-apart : (end : Around) → IsApart rule.side side-alive (after_basic end)
unfolding all_alive
second-apart another = assumption (bracket-apart false, bracket-apart true)
second-apart nothing = assumption (bracket-apart false, bracket-apart true)

comparison-apart : (end : Around) (first : OperandTree)
    → IsApart (rule.comparison_with first) (comparison-alive first) (after_basic end)
unfolding all_alive
comparison-apart end first = assumption (second-apart end)

compared_or_test-apart : (end : Around) (first : OperandTree)
    → IsApart (rule.compared_or_test first) (compared_or_test-alive first) (after_basic end)
unfolding all_alive
compared_or_test-apart another (literal l) = assumption (comparison-apart another (literal l))
compared_or_test-apart another (node_value q) = assumption (comparison-apart another (node_value q))
compared_or_test-apart another (call_value c) = assumption (comparison-apart another (call_value c))
compared_or_test-apart nothing (literal l) = assumption (comparison-apart nothing (literal l))
compared_or_test-apart nothing (node_value q) = assumption (comparison-apart nothing (node_value q))
compared_or_test-apart nothing (call_value c) = assumption (comparison-apart nothing (call_value c))

-- what goes on from a first side begins as what follows it
first-on : (end : Around) (first : OperandTree)
    → Under (begins starts (rule.compared_or_test first) (compared_or_test-alive first) (after_basic end))
    (after_first end)
unfolding all_alive
first-on another (literal l) = under-computed _ _ refl
first-on another (node_value q) = under-computed _ _ refl
first-on another (call_value c) = under-computed _ _ refl
first-on nothing (literal l) = under-computed _ _ refl
first-on nothing (node_value q) = under-computed _ _ refl
first-on nothing (call_value c) = under-computed _ _ refl

basic-apart : (end : Around) → IsApart rule.basic basic-alive (after_basic end)
unfolding all_alive
basic-apart another =
    assumption (
      bracket-apart false,
      bracket-apart true,
      first-apart another,
      compared_or_test-apart another,
      first-on another,
    )
basic-apart nothing =
    assumption (
      bracket-apart false,
      bracket-apart true,
      first-apart nothing,
      compared_or_test-apart nothing,
      first-on nothing,
    )

conjunction-apart : (end : Around) → IsApart rule.conjunction conjunction-alive (after_conjunction end)
unfolding all_alive
conjunction-apart another = assumption (basic-apart another)
conjunction-apart nothing = assumption (basic-apart nothing)

expression-apart : (end : Around) → IsApart rule.expression expression-alive (after_expression end)
unfolding all_alive
expression-apart another = assumption (conjunction-apart another)
expression-apart nothing = assumption (conjunction-apart nothing)

pub filter-apart : IsApart rule.filter_text filter-alive at_end
unfolding all_alive
filter-apart = assumption (expression-apart nothing, under-computed)

others-apart : (x : ArgumentTree) (e : ExprTree)
    → IsApart (rule.other_argument_parts x e) (others-alive x e) before_closing
unfolding all_alive
others-apart x e = assumption (basic-apart another, conjunction-apart another)

argument_on-apart : (x : ArgumentTree)
    → IsApart (rule.argument_on x) (argument_on-alive x) before_closing
unfolding all_alive
argument_on-apart (literal_argument l) = tt
argument_on-apart (query_argument q) = others-apart (query_argument q) (exists q)
argument_on-apart (call_argument c) = others-apart (call_argument c) (call_test c)
argument_on-apart (logical_argument e) = others-apart (logical_argument e) e

argument-on : (x : ArgumentTree)
    → Under (begins starts (rule.argument_on x) (argument_on-alive x) before_closing) (after_basic another)
unfolding all_alive
argument-on (literal_argument l) = under-computed _ _ refl
argument-on (query_argument q) = under-computed _ _ refl
argument-on (call_argument c) = under-computed _ _ refl
argument-on (logical_argument e) = under-computed _ _ refl

after_parenthesis-apart : IsApart rule.after_parenthesis after_parenthesis-alive any
unfolding all_alive
after_parenthesis-apart =
    assumption (
      bracket-apart false,
      bracket-apart true,
      first-apart another,
      comparison-apart another,
      argument_on-apart,
      argument-on,
    )

pub opened-apart : (o : rule.QueryOpening) (c : ℕ) (h : opens o c ≡ true)
    → IsApart (rule.opened o) (opened-alive o c h) (closes o)
unfolding all_alive opened-alive
opened-apart (rule.expression_after m) c h = assumption (expression-apart another)
opened-apart (rule.name_from others) c h = assumption after_parenthesis-apart
opened-apart (rule.name_on other) c h = assumption after_parenthesis-apart
