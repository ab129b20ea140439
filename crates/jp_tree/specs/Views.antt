-- The trees of the program's values (RFC 9535 sections 2.1 to 2.5).
use Rattle.std.specs.Str.{chars}
use Rattle.std.specs.String.{string_bytes}
use Rattle.jp_tree.specs.declared.tree.Literal.{Literal}
use Rattle.jp_tree.specs.declared.tree.Literal.TheVariants as written
use Rattle.jp_tree.specs.declared.tree.Expr.{Expr, fold-Expr}
use Rattle.jp_tree.specs.declared.tree.Operand.{Operand, fold-Operand}
use Rattle.jp_tree.specs.declared.tree.Selector.{Selector, fold-Selector}
use Rattle.jp_tree.specs.declared.tree.Segment.{Segment, fold-Segment}
use Rattle.jp_tree.specs.declared.tree.Query.{Query, fold-Query}
use Rattle.jp_tree.specs.declared.tree.Call.{Call, fold-Call}
use Rattle.jp_tree.specs.declared.tree.Subject.{Subject, fold-Subject}
use Rattle.jp_tree.specs.declared.tree.Argument.{Argument, fold-Argument}
use Rattle.jp_tree.specs.declared.tree.Argument.TheOpen.{Argument-F, Call-F, Expr-F, Operand-F}
use Rattle.jp_tree.specs.declared.tree.Argument.TheOpen.{Selector-F, Subject-F, Query-F, Segment-F}
use Rattle.jp_tree.specs.Tree.{ArgumentTree, CallTree, ExprTree, LiteralTree, OperandTree}
use Rattle.jp_tree.specs.Tree.{QueryTree, SegmentTree, SelectorTree, all_of, any_of, arguments}
use Rattle.jp_tree.specs.Tree.{call, call_argument, call_test, call_value, comparison, exists}
use Rattle.jp_tree.specs.Tree.{exprs, false_literal, filter, index, literal, literal_argument}
use Rattle.jp_tree.specs.Tree.{logical_argument, name, negation, node_value, null_literal, number}
use Rattle.jp_tree.specs.Tree.{query, query_argument, segment, segments, selectors, slice, text}
use Rattle.jp_tree.specs.Tree.{true_literal, wildcard}

-- the tree of a literal
abbrev pub literal_of : Literal → LiteralTree
literal_of (written.Number n) = number n
literal_of (written.Text s) = text (chars (string_bytes s))
literal_of written.True = true_literal
literal_of written.False = false_literal
literal_of written.Null = null_literal

-- one layer of a value, with the tree of each part in its place
abbrev pub Layer : (Type 0 → Type 0 → Type 0 → Type 0 → Type 0 → Type 0 → Type 0 → Type 0 → Type 0)
    → Type 0
Layer F = F ArgumentTree ExprTree OperandTree SelectorTree ExprTree CallTree QueryTree SegmentTree

-- ---- the tree of each kind of layer

abbrev pub expr_layer : Layer Expr-F → ExprTree
expr_layer (Expr-F.AnyOf es) = any_of (exprs es.items)
expr_layer (Expr-F.AllOf es) = all_of (exprs es.items)
expr_layer (Expr-F.Not e) = negation e.value
expr_layer (Expr-F.Compare left op right) = comparison left op right
expr_layer (Expr-F.Test e) = e

abbrev pub operand_layer : Layer Operand-F → OperandTree
operand_layer (Operand-F.Operand::Literal l) = literal (literal_of l)
operand_layer (Operand-F.Operand::Query q) = node_value q
operand_layer (Operand-F.Operand::Call c) = call_value c

abbrev pub argument_layer : Layer Argument-F → ArgumentTree
argument_layer (Argument-F.Argument::Literal l) = literal_argument (literal_of l)
argument_layer (Argument-F.Argument::Query q) = query_argument q
argument_layer (Argument-F.Argument::Call c) = call_argument c
argument_layer (Argument-F.Logical e) = logical_argument e

abbrev pub call_layer : Layer Call-F → CallTree
call_layer c = call (chars (string_bytes c.name)) (arguments c.arguments.items)

abbrev pub selector_layer : Layer Selector-F → SelectorTree
selector_layer (Selector-F.Name s) = name (chars (string_bytes s))
selector_layer Selector-F.Wildcard = wildcard
selector_layer (Selector-F.Index n) = index n
selector_layer (Selector-F.Slice s) = slice s
selector_layer (Selector-F.Filter e) = filter e

abbrev pub subject_layer : Layer Subject-F → ExprTree
subject_layer (Subject-F.Subject::Query q) = exists q
subject_layer (Subject-F.Subject::Call c) = call_test c

abbrev pub query_layer : Layer Query-F → QueryTree
query_layer q = query q.absolute (segments q.segments.items)

abbrev pub segment_layer : Layer Segment-F → SegmentTree
segment_layer s = segment s.descendant (selectors s.selectors.items)

-- ---- the tree of a value, from its innermost layers outwards

-- what a fold over the program's types makes of a value by these layers; the eight `_` of each fold
-- below stand for the types of the trees
abbrev by_layers : {X T : Type 0}
    → ((Layer Argument-F → ArgumentTree) → (Layer Expr-F → ExprTree)
    → (Layer Operand-F → OperandTree) → (Layer Selector-F → SelectorTree)
    → (Layer Subject-F → ExprTree) → (Layer Call-F → CallTree) → (Layer Query-F → QueryTree)
    → (Layer Segment-F → SegmentTree) → X → T)
    → X → T
by_layers fold =
    fold argument_layer expr_layer operand_layer selector_layer subject_layer call_layer
    query_layer segment_layer

-- the tree of an expression
abbrev pub expr_of : Expr → ExprTree
expr_of = by_layers (fold-Expr _ _ _ _ _ _ _ _)

-- the tree of a side of a comparison
abbrev pub operand_of : Operand → OperandTree
operand_of = by_layers (fold-Operand _ _ _ _ _ _ _ _)

-- the tree of a function expression
abbrev pub call_of : Call → CallTree
call_of = by_layers (fold-Call _ _ _ _ _ _ _ _)

-- the tree of an argument
abbrev pub argument_of : Argument → ArgumentTree
argument_of = by_layers (fold-Argument _ _ _ _ _ _ _ _)

-- the tree of a test
abbrev pub subject_of : Subject → ExprTree
subject_of = by_layers (fold-Subject _ _ _ _ _ _ _ _)

-- the tree of a selector
abbrev pub selector_of : Selector → SelectorTree
selector_of = by_layers (fold-Selector _ _ _ _ _ _ _ _)

-- the tree of a segment
abbrev pub segment_of : Segment → SegmentTree
segment_of = by_layers (fold-Segment _ _ _ _ _ _ _ _)

-- the tree of a query
abbrev pub query_of : Query → QueryTree
query_of = by_layers (fold-Query _ _ _ _ _ _ _ _)
