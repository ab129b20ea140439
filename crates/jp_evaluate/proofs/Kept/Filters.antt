-- Filters whose queries ask only for some members are true of the same values without the others.
use Rattle.std.proofs.Common.{◌≡◌, ℕ, Bool, true, false, not, ◌&&◌, ◌||◌, List, [], ◌∷◌, Some}
use Rattle.std.proofs.Common.{refl, ap, ap₂}
use Rattle.jp_document.specs.Node.{Node}
use Rattle.jp_document.specs.Value.{Value}
use Rattle.jp_reading.proofs.Conjunctions.{and-left, and-right}
use Rattle.jp_select.specs.Comparison.{compared}
use Rattle.jp_tree.specs.Tree.{ArgumentTree, CallTree, ExprTree, ExprTrees, OperandTree, QueryTree}
use Rattle.jp_tree.specs.Tree.{all_of, any_of, argument_then, call, call_argument, call_test}
use Rattle.jp_tree.specs.Tree.{call_value, comparison, exists, expr_then, literal}
use Rattle.jp_tree.specs.Tree.{literal_argument, logical_argument, negation, no_arguments, no_exprs}
use Rattle.jp_tree.specs.Tree.{node_value, query, query_argument}
use Rattle.jp_evaluate.specs.Functions.{logical_answer, nodes_answer, value_answer}
use Rattle.jp_evaluate.specs.Nodelist.{all_hold, any_holds, argument_nodes, argument_value}
use Rattle.jp_evaluate.specs.Nodelist.{call_answer, call_holds, call_nodes, has_node, holds}
use Rattle.jp_evaluate.specs.Nodelist.{meaning_named, nodelist_at, operand_value}
use Rattle.jp_evaluate.specs.Nodelist.{single_node_value, some_node}
use Rattle.jp_evaluate.specs.Private.Asks.{asks_argument, asks_call, asks_expr, asks_exprs}
use Rattle.jp_evaluate.specs.Private.Asks.{asks_operand, asks_query}
use Rattle.jp_evaluate.proofs.Kept.Members.{result-members, thin}

query-thin : (p : List ℕ → Bool) (q : QueryTree) (d u : Value) (n : Node) → asks_query p q ≡ true
    → nodelist_at q u (thin p n) ≡ nodelist_at q d n
query-thin p (query true all) d u n asks = absurd (cc)
query-thin p (query false all) d u n asks = result-members p all d u (n ∷ []) asks

mutual
  pub holds-thin : (p : List ℕ → Bool) (e : ExprTree) (d u : Value) (n : Node)
      → asks_expr p e ≡ true → holds e u (thin p n) ≡ holds e d n
  holds-thin p (any_of es) d u n asks = any-thin p es d u n asks
  holds-thin p (all_of es) d u n asks = all-thin p es d u n asks
  holds-thin p (negation e) d u n asks = ap not (holds-thin p e d u n asks)
  holds-thin p (comparison left op right) d u n asks =
      ap₂ (compared op) (operand-thin p left d u n (and-left _ _ asks))
      (operand-thin p right d u n (and-right _ _ asks))
  holds-thin p (exists q) d u n asks = ap has_node (query-thin p q d u n asks)
  holds-thin p (call_test f) d u n asks =
      ap₂ (λ b o. b || some_node o) (call_holds-thin p f d u n asks) (call_nodes-thin p f d u n asks)

  any-thin : (p : List ℕ → Bool) (es : ExprTrees) (d u : Value) (n : Node)
      → asks_exprs p es ≡ true → any_holds es u (thin p n) ≡ any_holds es d n
  any-thin p no_exprs d u n asks = refl
  any-thin p (expr_then e es) d u n asks =
      ap₂ (λ a b. a || b) (holds-thin p e d u n (and-left _ _ asks))
      (any-thin p es d u n (and-right _ _ asks))

  all-thin : (p : List ℕ → Bool) (es : ExprTrees) (d u : Value) (n : Node)
      → asks_exprs p es ≡ true → all_hold es u (thin p n) ≡ all_hold es d n
  all-thin p no_exprs d u n asks = refl
  all-thin p (expr_then e es) d u n asks =
      ap₂ (λ a b. a && b) (holds-thin p e d u n (and-left _ _ asks))
      (all-thin p es d u n (and-right _ _ asks))

  operand-thin : (p : List ℕ → Bool) (x : OperandTree) (d u : Value) (n : Node)
      → asks_operand p x ≡ true → operand_value x u (thin p n) ≡ operand_value x d n
  operand-thin p (literal x) d u n asks = refl
  operand-thin p (node_value q) d u n asks = ap (single_node_value q) (query-thin p q d u n asks)
  operand-thin p (call_value f) d u n asks = call_answer-thin p f d u n asks

  call_answer-thin : (p : List ℕ → Bool) (f : CallTree) (d u : Value) (n : Node)
      → asks_call p f ≡ true → call_answer f u (thin p n) ≡ call_answer f d n
  call_answer-thin p (call cs no_arguments) d u n asks = refl
  call_answer-thin p (call cs (argument_then x no_arguments)) d u n asks =
      ap₂ (value_answer (meaning_named cs)) (argument_value-thin p x d u n (and-left _ _ asks))
      (argument_nodes-thin p x d u n (and-left _ _ asks))
  call_answer-thin p (call cs (argument_then x (argument_then y rest))) d u n asks = refl

  call_holds-thin : (p : List ℕ → Bool) (f : CallTree) (d u : Value) (n : Node)
      → asks_call p f ≡ true → call_holds f u (thin p n) ≡ call_holds f d n
  call_holds-thin p (call cs no_arguments) d u n asks = refl
  call_holds-thin p (call cs (argument_then x no_arguments)) d u n asks = refl
  call_holds-thin p (call cs (argument_then x (argument_then y no_arguments))) d u n asks =
      ap₂ (logical_answer (meaning_named cs)) (argument_value-thin p x d u n (and-left _ _ asks))
      (argument_value-thin p y d u n (and-left _ _ (and-right (asks_argument p x) _ asks)))
  call_holds-thin p (call cs (argument_then x (argument_then y (argument_then z rest)))) d u n asks =
      refl

  call_nodes-thin : (p : List ℕ → Bool) (f : CallTree) (d u : Value) (n : Node)
      → asks_call p f ≡ true → call_nodes f u (thin p n) ≡ call_nodes f d n
  call_nodes-thin p (call cs no_arguments) d u n asks = refl
  call_nodes-thin p (call cs (argument_then x no_arguments)) d u n asks =
      ap (nodes_answer (meaning_named cs)) (argument_nodes-thin p x d u n (and-left _ _ asks))
  call_nodes-thin p (call cs (argument_then x (argument_then y rest))) d u n asks = refl

  argument_value-thin : (p : List ℕ → Bool) (x : ArgumentTree) (d u : Value) (n : Node)
      → asks_argument p x ≡ true → argument_value x u (thin p n) ≡ argument_value x d n
  argument_value-thin p (literal_argument x) d u n asks = refl
  argument_value-thin p (query_argument q) d u n asks =
      ap (single_node_value q) (query-thin p q d u n asks)
  argument_value-thin p (call_argument f) d u n asks = call_answer-thin p f d u n asks
  argument_value-thin p (logical_argument e) d u n asks = refl

  argument_nodes-thin : (p : List ℕ → Bool) (x : ArgumentTree) (d u : Value) (n : Node)
      → asks_argument p x ≡ true → argument_nodes x u (thin p n) ≡ argument_nodes x d n
  argument_nodes-thin p (literal_argument x) d u n asks = refl
  argument_nodes-thin p (query_argument q) d u n asks = ap Some (query-thin p q d u n asks)
  argument_nodes-thin p (call_argument f) d u n asks = call_nodes-thin p f d u n asks
  argument_nodes-thin p (logical_argument e) d u n asks = refl
