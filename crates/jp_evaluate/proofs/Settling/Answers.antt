-- An answer stands for what was asked, at each value.
use Rattle.std.proofs.Common.{◌≡◌, ℕ, Bool, true, false, if◌then◌else◌, List}
use Rattle.std.proofs.Common.{Option, Some, None, length, option_map, pos, refl, ap, sym, ◌∙◌}
use Rattle.jp_document.specs.Node.{Node}
use Rattle.jp_document.specs.Value.{Value, whole}
use Rattle.jp_tree.specs.declared.function.Function.{Function}
use Rattle.jp_tree.specs.declared.function.Function.TheVariants.{Count}
use Rattle.jp_tree.specs.Tree.{ArgumentTrees, CallTree, ExprTree}
use Rattle.jp_tree.specs.Tree.{QueryTree, all_of, any_of, argument_then, call, call_test}
use Rattle.jp_tree.specs.Tree.{comparison, exists, negation, no_arguments, query}
use Rattle.jp_tree.specs.Tree.{LiteralTree}
use Rattle.jp_check.specs.Functions.{function_named}
use Rattle.jp_check.specs.declared.profile.Profile.TheVariants.{Extended}
use Rattle.jp_evaluate.specs.Functions.{meaning, nodes_answer, value_answer}
use Rattle.jp_evaluate.specs.Nodelist.{argument_nodes, argument_value, call_answer}
use Rattle.jp_evaluate.specs.Nodelist.{call_nodes, has_node, holds, meaning_named}
use Rattle.jp_evaluate.specs.Nodelist.{nodelist, nodelist_at, operand_value}
use Rattle.jp_evaluate.specs.Private.Calls.{NodesQuery, argument_query, call_query, counted}
use Rattle.jp_evaluate.specs.Private.Settled.{count_answer, count_argument, count_literal}
use Rattle.jp_evaluate.specs.Private.Settled.{count_nodes, count_operand, given_query, is_asked_once}
use Rattle.jp_evaluate.specs.Private.Settled.{nodes_once, query_once, settled_test, test_answer}
use Rattle.jp_evaluate.specs.Private.Settled.{truth}
use Rattle.jp_evaluate.proofs.Parts.Counted.{argument_nodes-counted, counted_nodes, test-nodes}

-- a query that is asked once is absolute, and gives the same at each node
pub same-anywhere : (q : QueryTree) (d : Value) (c : Node) → is_asked_once q ≡ true
    → nodelist q d ≡ nodelist_at q d c
same-anywhere (query true all) d c once = refl
same-anywhere (query false all) d c once = absurd (cc)

-- ---- tests

truth-holds : (b : Bool) (d : Value) (c : Node) → holds (truth b) d c ≡ b
truth-holds true d c = refl
truth-holds false d c = refl

answered : (e : ExprTree) (q : QueryTree) (b : Bool) (d : Value) (c : Node) → is_asked_once q ≡ b
    → has_node (nodelist_at q d c) ≡ holds e d c
    → holds (test_answer d e (if b then Some q else None)) d c ≡ holds e d c
answered e q true d c once asks =
    truth-holds (has_node (nodelist q d)) d c ∙ ap has_node (same-anywhere q d c once) ∙ asks
answered e q false d c once asks = refl

answered_call : (f : CallTree) (o : Option NodesQuery) (d : Value) (c : Node) → o ≡ call_query f
    → holds (test_answer d (call_test f) (query_once (option_map (λ p. p.0) o))) d c
    ≡ holds (call_test f) d c
answered_call f None d c is = refl
answered_call f (Some p) d c is =
    answered (call_test f) p.0 (is_asked_once p.0) d c refl (test-nodes f d c p is)

pub test-same : (e : ExprTree) (d : Value) (c : Node) → holds (settled_test d e) d c ≡ holds e d c
test-same (any_of es) d c = refl
test-same (all_of es) d c = refl
test-same (negation e) d c = refl
test-same (comparison left op right) d c = refl
test-same (exists q) d c = answered (exists q) q (is_asked_once q) d c refl refl
test-same (call_test f) d c = answered_call f (call_query f) d c refl

-- ---- calls of `count`

count-once : (f : CallTree) (p : NodesQuery) (b : Bool) (d : Value) (c : Node)
    → is_asked_once p.0 ≡ b
    → Some (whole (pos (length (counted_nodes d c p)))) ≡ call_answer f d c
    → operand_value (count_operand f (option_map (count_literal d) (if b then Some p else None))) d c
    ≡ call_answer f d c
count-once f p true d c once answers =
    ap (λ ns. Some (whole (pos (length (counted p.1 ns))))) (same-anywhere p.0 d c once) ∙ answers
count-once f p false d c once answers = refl

count-nodes : (f : CallTree) (h : Option Function) (o : Option NodesQuery) (v : Option Value)
    (d : Value) (c : Node)
    → value_answer (option_map meaning h) v (option_map (counted_nodes d c) o) ≡ call_answer f d c
    → operand_value (count_operand f (option_map (count_literal d) (count_nodes h o))) d c
    ≡ call_answer f d c
count-nodes f (Some Count) None v d c answers = refl
count-nodes f (Some Count) (Some p) v d c answers =
    count-once f p (is_asked_once p.0) d c refl answers
count-nodes f h o v d c answers = refl

no_nodes : (h : Option Function) → count_nodes h None ≡ None
no_nodes (Some Count) = refl
no_nodes h = refl

not_counted : (f : CallTree) (h : Option Function) (d : Value) (c : Node)
    → operand_value (count_operand f (option_map (count_literal d) (count_nodes h None))) d c
    ≡ call_answer f d c
not_counted f h d c =
    ap (λ o. operand_value (count_operand f (option_map (count_literal d) o)) d c) (no_nodes h)

pub count-same : (f : CallTree) (d : Value) (c : Node)
    → operand_value (count_operand f (count_answer d f)) d c ≡ call_answer f d c
count-same (call cs no_arguments) d c =
    not_counted (call cs no_arguments) (function_named Extended cs) d c
count-same (call cs (argument_then x no_arguments)) d c =
    count-nodes (call cs (argument_then x no_arguments)) (function_named Extended cs)
    (argument_query x) (argument_value x d c) d c
    (sym (ap (value_answer (meaning_named cs) (argument_value x d c))
    (argument_nodes-counted x d c)))
count-same (call cs (argument_then x (argument_then y rest))) d c =
    not_counted (call cs (argument_then x (argument_then y rest))) (function_named Extended cs) d c

-- as an argument it has the same value, and no nodes as a call of `count` has none

argument_value-count : (f : CallTree) (o : Option LiteralTree) (d : Value) (c : Node)
    → argument_value (count_argument f o) d c ≡ operand_value (count_operand f o) d c
argument_value-count f None d c = refl
argument_value-count f (Some x) d c = refl

pub argument-same : (f : CallTree) (d : Value) (c : Node)
    → argument_value (count_argument f (count_answer d f)) d c ≡ call_answer f d c
argument-same f d c = argument_value-count f (count_answer d f) d c ∙ count-same f d c

count-has-no-nodes : (f : CallTree) (h : Option Function) (o : Option NodesQuery) (d : Value)
    (c : Node) → (h ≡ Some Count → call_nodes f d c ≡ None)
    → argument_nodes (count_argument f (option_map (count_literal d) (count_nodes h o))) d c
    ≡ call_nodes f d c
count-has-no-nodes f (Some Count) o d c none = either (nodes_once o)
  where
    either : (p : Option NodesQuery)
        → argument_nodes (count_argument f (option_map (count_literal d) p)) d c ≡ call_nodes f d c
    either None = refl
    either (Some p) = sym (none refl)
count-has-no-nodes f h o d c none = refl

count_nodes-none : (cs : List ℕ) (xs : ArgumentTrees) (d : Value) (c : Node)
    → function_named Extended cs ≡ Some Count → call_nodes (call cs xs) d c ≡ None
count_nodes-none cs no_arguments d c named = refl
count_nodes-none cs (argument_then x no_arguments) d c named =
    ap (λ h. nodes_answer (option_map meaning h) (argument_nodes x d c)) named
count_nodes-none cs (argument_then x (argument_then y rest)) d c named = refl

pub argument_nodes-same : (f : CallTree) (d : Value) (c : Node)
    → argument_nodes (count_argument f (count_answer d f)) d c ≡ call_nodes f d c
argument_nodes-same (call cs xs) d c =
    count-has-no-nodes (call cs xs) (function_named Extended cs) (given_query (call cs xs)) d c
    (count_nodes-none cs xs d c)
