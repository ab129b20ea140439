-- The trees of several expressions joined, of a segment, and of a function expression in its
-- places.
use Rattle.std.proofs.Common.{◌≡◌, map, rules, Bool, Vec, String, string_bytes, chars, Global}
use Rattle.jp_tree.specs.declared.tree.Subject.{the_lemmas}
use Rattle.jp_tree.specs.declared.tree.Expr.{Expr}
use Rattle.jp_tree.specs.declared.tree.Argument.TheViews.{roll-Segment, roll-Call}
use Rattle.jp_tree.specs.declared.tree.Selector.{Selector}
use Rattle.jp_tree.specs.declared.tree.Expr.TheVariants as expr
use Rattle.jp_tree.specs.declared.tree.Expr.TheVariants.{rolls-AnyOf, rolls-AllOf}
use Rattle.jp_tree.specs.declared.tree.Argument.{Argument}
use Rattle.jp_tree.specs.declared.tree.Argument.TheVariants as argument
use Rattle.jp_tree.specs.declared.tree.Call.{Call}
use Rattle.jp_tree.specs.declared.tree.Literal.{Literal}
use Rattle.jp_tree.specs.declared.tree.Operand.TheVariants as operand
use Rattle.jp_tree.specs.declared.tree.Query.{Query}
use Rattle.jp_tree.specs.declared.tree.Subject.{Subject}
use Rattle.jp_tree.specs.declared.tree.Subject.TheVariants as subject
use Rattle.jp_tree.specs.Tree.{arguments, call, call_test}
use Rattle.jp_tree.specs.Views.{argument_of, call_of}
use Rattle.jp_tree.specs.Tree.{call_argument, exists, literal}
use Rattle.jp_tree.specs.Views.{literal_of}
use Rattle.jp_tree.specs.Tree.{logical_argument, query_argument}
use Rattle.jp_tree.specs.Views.{operand_of, query_of, subject_of}
use Rattle.jp_tree.specs.Views.{expr_of}
use Rattle.jp_tree.specs.Tree.{segment, selectors}
use Rattle.jp_tree.specs.Views.{segment_of}
use Rattle.jp_tree.specs.Views.{selector_of}

pub tree_segment : (descendant : Bool) (all : Vec Selector Global) → segment_of
    (roll-Segment (record { descendant = descendant; selectors = all })) ≡ segment descendant
    (selectors (map selector_of all.items))
tree_segment descendant all = search (rules, the_lemmas)

pub tree_call : (name : String Global) (xs : Vec Argument Global)
    → call_of (roll-Call (record { name = name; arguments = xs })) ≡ call
    (chars (string_bytes name)) (arguments (map argument_of xs.items))
tree_call name xs = search (rules, the_lemmas)

pub tree_operand_literal : (x : Literal) → operand_of (operand.Literal x) ≡ literal (literal_of x)
tree_operand_literal x = search (rules, the_lemmas)

pub tree_subject_call : (x : Call) → subject_of (subject.Call x) ≡ call_test (call_of x)
tree_subject_call x = search (rules, the_lemmas)

pub tree_subject_query : (x : Query) → subject_of (subject.Query x) ≡ exists (query_of x)
tree_subject_query x = search (rules, the_lemmas)

pub tree_test : (x : Subject) → expr_of (expr.Test x) ≡ subject_of x
tree_test x = search (rules, the_lemmas)

pub tree_argument_query : (x : Query) → argument_of (argument.Query x) ≡ query_argument (query_of x)
tree_argument_query x = search (rules, the_lemmas)

pub tree_argument_call : (x : Call) → argument_of (argument.Call x) ≡ call_argument (call_of x)
tree_argument_call x = search (rules, the_lemmas)

pub tree_logical : (x : Expr) → argument_of (argument.Logical x) ≡ logical_argument (expr_of x)
tree_logical x = search (rules, the_lemmas)
