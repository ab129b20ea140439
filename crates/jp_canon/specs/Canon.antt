-- The canonical text of a query: of all its spellings the one without blank space and without a
-- choice (RFC 9535 sections 2.1 to 2.5). It is a function of the tree, and knows no text that was
-- read.
use Rattle.std.specs.Prelude.{ℕ, ◌==◌, pos, Bool, false, if◌then◌else◌}
use Rattle.std.specs.Prelude.{List, [], ◌∷◌, ◌++◌, Option, Some, None, codes}
use Rattle.std.specs.Fmt.{signed_decimal}
use Rattle.std.specs.List.{join_by}
use Rattle.jp_reading.specs.Texts.{Text}
use Rattle.jp_document.specs.Path.{quoted}
use Rattle.jp_tree.specs.declared.tree.Numeral.{Numeral}
use Rattle.jp_tree.specs.declared.tree.Numeral.TheVariants.{Whole, Beyond, Fraction}
use Rattle.jp_tree.specs.declared.tree.Slice.{Slice}
use Rattle.jp_query.specs.Literals.{spelling}
use Rattle.jp_tree.specs.Tree.{SelectorTree, name, wildcard, index, slice, filter, SelectorTrees}
use Rattle.jp_tree.specs.Tree.{no_selectors, selector_then, SegmentTree, segment, SegmentTrees}
use Rattle.jp_tree.specs.Tree.{no_segments, segment_then, QueryTree, query, ExprTree, any_of}
use Rattle.jp_tree.specs.Tree.{all_of, negation, comparison, exists, call_test, ExprTrees}
use Rattle.jp_tree.specs.Tree.{no_exprs, expr_then, OperandTree, literal, node_value, call_value}
use Rattle.jp_tree.specs.Tree.{CallTree, call, ArgumentTree, literal_argument, query_argument}
use Rattle.jp_tree.specs.Tree.{call_argument, logical_argument, ArgumentTrees, no_arguments}
use Rattle.jp_tree.specs.Tree.{argument_then, LiteralTree, number, text, true_literal}
use Rattle.jp_tree.specs.Tree.{false_literal, null_literal}
use Rattle.jp_canon.specs.NumeralText.{fraction_text, integer_text}
use Rattle.jp_canon.specs.Precedence.{or_precedence, and_precedence}
use Rattle.jp_canon.specs.Precedence.{not_precedence, is_grouped, is_test, grouped}

-- the texts one after another, with a separator between two neighbours
abbrev pub separated : Text → List Text → Text
separated separator texts = join_by (λ t. t) separator texts

-- a number as it was written, with a fraction or an exponent or without; one that can't be held, which
-- no accepted query has, is written as another of its kind
abbrev pub numeral_text : Numeral → Text
numeral_text (Whole z) = signed_decimal z
numeral_text (Beyond (Some d)) = integer_text d
numeral_text (Beyond None) = codes "111111111111111111111111111111111111111"
numeral_text (Fraction (Some n)) = fraction_text n
numeral_text (Fraction None) = codes "1e-1000001"

-- whether the number is 1, the step that a slice has without one (section 2.3.4.1)
abbrev pub is_one : Numeral → Bool
is_one (Whole (pos n)) = n == 1
is_one _ = false

-- a bound of a slice, if it is there
abbrev pub bound_text : Option Numeral → Text
bound_text None = []
bound_text (Some i) = numeral_text i

-- a colon and the step, but for the step 1
abbrev pub step_text : Numeral → Text
step_text i = if is_one i then [] else codes ":" ++ numeral_text i

-- slice-selector (section 2.3.4.1)
abbrev pub slice_text : Slice → Text
slice_text s = bound_text s.start ++ (codes ":" ++ (bound_text s.end ++ step_text s.step))

-- literal (section 2.3.5.1): a text stands between quotes as a name in a normalized path does
abbrev pub literal_text : LiteralTree → Text
literal_text (number i) = numeral_text i
literal_text (text cs) = quoted cs
literal_text true_literal = codes "true"
literal_text false_literal = codes "false"
literal_text null_literal = codes "null"

abbrev mutual
  -- selector (section 2.3): a name between quotes as in a normalized path (section 2.7), `*`, an
  -- index, a slice, or `?` and an expression
  pub selector_text : SelectorTree → Text
  selector_text (name cs) = quoted cs
  selector_text wildcard = codes "*"
  selector_text (index i) = numeral_text i
  selector_text (slice s) = slice_text s
  selector_text (filter e) = codes "?" ++ expr_text e

  pub selector_texts : SelectorTrees → List Text
  selector_texts no_selectors = []
  selector_texts (selector_then x rest) = selector_text x ∷ selector_texts rest

  -- segment (section 2.5): selectors between brackets, with commas between them, after `..` in a
  -- descendant segment
  pub segment_text : SegmentTree → Text
  segment_text (segment descendant all) =
      (if descendant then codes "..[" else codes "[")
      ++ (separated (codes ",") (selector_texts all) ++ codes "]")

  -- segments (section 2.1.1), one after another
  pub segments_text : SegmentTrees → Text
  segments_text no_segments = []
  segments_text (segment_then x rest) = segment_text x ++ segments_text rest

  -- the canonical text of a query (section 2.1.1): `$`, or `@` inside a filter, and its segments
  pub canon_of : QueryTree → Text
  canon_of (query absolute all) = (if absolute then codes "$" else codes "@") ++ segments_text all

  -- logical-expr (section 2.3.5.1): `||` or `&&` between parts, `!` before a part, an operator
  -- between sides, a query, or a function expression
  pub expr_text : ExprTree → Text
  expr_text (any_of es) = separated (codes "||") (part_texts or_precedence es)
  expr_text (all_of es) = separated (codes "&&") (part_texts and_precedence es)
  expr_text (negation e) = codes "!" ++ grouped (is_grouped not_precedence e) (expr_text e)
  expr_text (comparison left op right) = operand_text left ++ (spelling op ++ operand_text right)
  expr_text (exists q) = canon_of q
  expr_text (call_test c) = call_text c

  -- the parts of an expression of this precedence, in parentheses where they have to be
  pub part_texts : ℕ → ExprTrees → List Text
  part_texts outer no_exprs = []
  part_texts outer (expr_then e rest) =
      grouped (is_grouped outer e) (expr_text e) ∷ part_texts outer rest

  -- comparable (section 2.3.5.1): a literal, a query, or a function expression
  pub operand_text : OperandTree → Text
  operand_text (literal l) = literal_text l
  operand_text (node_value q) = canon_of q
  operand_text (call_value c) = call_text c

  -- function-expr (section 2.4): the function's name, and its arguments in parentheses, with commas
  -- between them
  pub call_text : CallTree → Text
  call_text (call function all) =
      function ++ (codes "(" ++ (separated (codes ",") (argument_texts all) ++ codes ")"))

  pub argument_texts : ArgumentTrees → List Text
  argument_texts no_arguments = []
  argument_texts (argument_then x rest) = argument_text x ∷ argument_texts rest

  -- function-argument (section 2.4): a test that is a logical expression as an argument stands in
  -- parentheses, without which it is another argument
  pub argument_text : ArgumentTree → Text
  argument_text (literal_argument l) = literal_text l
  argument_text (query_argument q) = canon_of q
  argument_text (call_argument c) = call_text c
  argument_text (logical_argument e) = grouped (is_test e) (expr_text e)
