-- The parts of brackets, of logical expressions and of calls, and what goes on from an argument's
-- first part.
use Rattle.std.specs.Prelude.{ℕ, Bool, true, ◌||◌, ◌∷◌, ◌++◌}
use Rattle.std.specs.Global.{Box}
use Rattle.jp_reading.specs.Outcome.{State, Outcome, ◌>>=◌, is, expect}
use Rattle.jp_reading.specs.Texts.{Text}
use Rattle.jp_reading.specs.Rule.{here, beyond, the, blanks, ◌>>◌}
use Rattle.jp_reading.specs.Views.{outcome_map}
use Rattle.jp_query.specs.declared.expressions.Connective.{Connective}
use Rattle.jp_query.specs.declared.expressions.Connective.TheVariants.{Or, And}
use Rattle.jp_query.specs.declared.calls.FirstPart.{FirstPart}
use Rattle.jp_query.specs.declared.calls.FirstPart.TheVariants as first
use Rattle.jp_query.specs.declared.sides.Uncompared.{Uncompared}
use Rattle.jp_query.specs.declared.sides.Uncompared.TheVariants as side
use Rattle.jp_tree.specs.declared.tree.Expr.{Expr}
use Rattle.jp_tree.specs.declared.tree.Operand.{Operand}
use Rattle.jp_tree.specs.declared.tree.Selector.{Selector}
use Rattle.jp_tree.specs.declared.tree.Argument.{Argument}
use Rattle.jp_tree.specs.Views.{expr_of, selector_of, argument_of, operand_of}
use Rattle.jp_tree.specs.Tree.{OperandTree, literal, node_value, call_value, exists, call_test}
use Rattle.jp_tree.specs.Tree.{SelectorTree, ExprTree, ExprTrees, any_of, all_of, CallTree, call}
use Rattle.jp_tree.specs.Tree.{arguments, ArgumentTree, logical_argument}
use Rattle.jp_reading.specs.Characters.{ampersand, bar, comma, opening_parenthesis}
use Rattle.jp_query.specs.Names.{is_function_char}
use Rattle.jp_query.specs.Grammar.{joined}
use Rattle.jp_query.specs.Private.Rules.{QueryRule, entry, basic, conjunction, other_parts, run}
use Rattle.jp_query.specs.Private.Rules.{after_parenthesis, argument_alone}
use Rattle.jp_query.specs.Private.Reading.{read_flat, read_inside}

-- the tree of what is in a box
abbrev pub boxed_expr : Box Expr → ExprTree
boxed_expr b = expr_of b.value

abbrev pub boxed_selector : Box Selector → SelectorTree
boxed_selector b = selector_of b.value

abbrev pub boxed_argument : Box Argument → ArgumentTree
boxed_argument b = argument_of b.value

abbrev pub boxed_operand : Box Operand → OperandTree
boxed_operand b = operand_of b.value

-- the argument that its first part is, if nothing goes on from it
abbrev pub first_argument : FirstPart → ArgumentTree
first_argument (first.Side b) = argument_alone (boxed_operand b)
first_argument (first.Logical b) = logical_argument (boxed_expr b)

-- what a side is that no operator follows: a literal, which has to be compared, or a test
pub data UncomparedTree : Type 0 where
  to_compare : OperandTree → UncomparedTree
  test : ExprTree → UncomparedTree

-- what that side is
abbrev pub uncompared : OperandTree → UncomparedTree
uncompared (literal l) = to_compare (literal l)
uncompared (node_value q) = test (exists q)
uncompared (call_value c) = test (call_test c)

-- what the program holds of it
abbrev pub uncompared_of : Uncompared → UncomparedTree
uncompared_of (side.Literal b) = to_compare (boxed_operand b)
uncompared_of (side.Test b) = test (boxed_expr b)

-- a selector after a comma, and the blanks after each of them
abbrev pub next_entry : QueryRule true here here SelectorTree
next_entry = the comma >> (blanks {m = here} >> entry)

-- the character that stands twice between two parts
abbrev pub character_of : Connective → ℕ
character_of Or = bar
character_of And = ampersand

-- the parts that the connective joins
abbrev pub part_of : Connective → QueryRule true here beyond ExprTree
part_of Or = conjunction
part_of And = basic

-- the tree of several parts
abbrev pub several : Connective → ExprTrees → ExprTree
several Or = any_of
several And = all_of

-- how parts are read inside n levels from the first on; a single one stands for itself
abbrev pub joined_at : Connective → ℕ → ExprTree → State → Outcome ExprTree
joined_at c n e p =
    outcome_map (λ es. joined (several c) (e ∷ es)) (read_inside n (other_parts (character_of c) (part_of c)) p)

-- whether a character begins another part of a logical expression
abbrev pub begins_part : ℕ → Bool
begins_part c = is ampersand c || is bar c

-- how an argument that is a logical expression is read inside n levels from its first part on
abbrev pub logical_at : ℕ → ExprTree → State → Outcome ArgumentTree
logical_at n e p = joined_at And n e p >>= λ a q. outcome_map logical_argument (joined_at Or n a q)

-- how the rest of a function's name that begins so, and arguments inside n levels, are read
abbrev pub rest_of_call : ℕ → Text → State → Outcome CallTree
rest_of_call n w p =
    outcome_map (λ u. w ++ u) (read_flat (run is_function_char) p) >>= λ name q. expect opening_parenthesis q
    >>= λ d r. outcome_map (λ xs. call name (arguments xs)) (read_inside n after_parenthesis r)
