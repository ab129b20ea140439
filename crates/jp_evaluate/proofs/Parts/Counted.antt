-- The nodes that an argument stands for, as those of a query, each once or as often as it comes.
use Rattle.std.proofs.Common.{◌≡◌, ◌≢◌, ℕ, Bool, true, false, ◌||◌, List, [], ◌∷◌, Option, Some, None}
use Rattle.std.proofs.Common.{option_map, refl, ap, ap₂, sym, ◌∙◌}
use Rattle.std.proofs.lemmas.Option.{same_Some}
use Rattle.jp_document.specs.Node.{Node}
use Rattle.jp_document.specs.Value.{Value}
use Rattle.jp_tree.specs.Tree.{ArgumentTree, ArgumentTrees, CallTree, argument_then, call}
use Rattle.jp_tree.specs.Tree.{call_argument, call_test, literal_argument, logical_argument}
use Rattle.jp_tree.specs.Tree.{no_arguments, query_argument}
use Rattle.jp_check.specs.Functions.{function_named}
use Rattle.jp_tree.specs.declared.function.Function.{Function}
use Rattle.jp_tree.specs.declared.function.Function.TheVariants.{Distinct}
use Rattle.jp_check.specs.declared.profile.Profile.TheVariants.{Extended}
use Rattle.jp_evaluate.specs.Functions.{Meaning, meaning, nodes_answer, value_answer}
use Rattle.jp_evaluate.specs.Functions.{value_of_nodes, without_repeats}
use Rattle.jp_evaluate.specs.Private.Meanings.{kind_of, made_of_nodes}
use Rattle.jp_evaluate.specs.declared.kind.Kind.TheVariants.{ValueOfNodes}
use Rattle.jp_evaluate.specs.NodelistLaws.{StandardCalls}
use Rattle.jp_evaluate.specs.Nodelist.{argument_nodes, argument_value, call_answer, call_holds}
use Rattle.jp_evaluate.specs.Nodelist.{call_nodes, has_node, holds, meaning_named, nodelist_at}
use Rattle.jp_evaluate.specs.Nodelist.{some_node}
use Rattle.jp_evaluate.specs.Private.Calls.{NodesQuery, argument_query, call_function, call_query}
use Rattle.jp_evaluate.specs.Private.Calls.{counted, once, only_argument}
use Rattle.jp_evaluate.proofs.Nodelists.Repeats.{repeated}

-- the nodes of a query that count
abbrev pub counted_nodes : Value → Node → NodesQuery → List Node
counted_nodes d c p = counted p.1 (nodelist_at p.0 d c)

counted-once : (b : Bool) (ns : List Node) → without_repeats (counted b ns) ≡ without_repeats ns
counted-once false ns = refl
counted-once true ns = repeated ns

answer-once : (f : Option Function) (o : Option NodesQuery) (d : Value) (c : Node)
    → nodes_answer (option_map meaning f) (option_map (counted_nodes d c) o)
    ≡ option_map (counted_nodes d c) (once f o)
answer-once (Some Distinct) None d c = refl
answer-once (Some Distinct) (Some p) d c = ap Some (counted-once p.1 (nodelist_at p.0 d c))
answer-once f o d c = refl

mutual
  pub argument_nodes-counted : (x : ArgumentTree) (d : Value) (c : Node)
      → argument_nodes x d c ≡ option_map (counted_nodes d c) (argument_query x)
  argument_nodes-counted (query_argument q) d c = refl
  argument_nodes-counted (literal_argument x) d c = refl
  argument_nodes-counted (call_argument f) d c = call_nodes-counted f d c
  argument_nodes-counted (logical_argument e) d c = refl

  pub call_nodes-counted : (f : CallTree) (d : Value) (c : Node)
      → call_nodes f d c ≡ option_map (counted_nodes d c) (call_query f)
  call_nodes-counted (call cs no_arguments) d c = refl
  call_nodes-counted (call cs (argument_then x no_arguments)) d c =
      ap (nodes_answer (meaning_named cs)) (argument_nodes-counted x d c)
      ∙ answer-once (function_named Extended cs) (argument_query x) d c
  call_nodes-counted (call cs (argument_then x (argument_then y rest))) d c = refl

-- what a call with one argument answers as a value
pub one-answer : (f : CallTree) (x : ArgumentTree) (g : Option Function) (d : Value) (c : Node)
    → Some x ≡ only_argument f → g ≡ call_function f
    → value_answer (option_map meaning g) (argument_value x d c)
    (option_map (counted_nodes d c) (argument_query x))
    ≡ call_answer f d c
one-answer (call cs no_arguments) x g d c one named = absurd (cc)
one-answer (call cs (argument_then y no_arguments)) x g d c one named =
    ap (value_answer (option_map meaning g) (argument_value x d c)) (sym (argument_nodes-counted x d c))
    ∙ ap₂ (λ h z. value_answer (option_map meaning h) (argument_value z d c) (argument_nodes z d c))
    named (same_Some x y one)
one-answer (call cs (argument_then y (argument_then z rest))) x g d c one named = absurd (cc)

-- ---- a call with one argument, of a function that makes a value of nodes

made-of_nodes : (m : Meaning) (v : Option Value) (ns : List Node) → kind_of m ≡ ValueOfNodes
    → made_of_nodes m ns ≡ value_answer (Some m) v (Some ns)
made-of_nodes (value_of_nodes f) v ns is = refl
made-of_nodes m v ns is = absurd (cc)

made-of_none : (m : Meaning) (v : Option Value) → kind_of m ≡ ValueOfNodes
    → None ≡ value_answer (Some m) v None
made-of_none (value_of_nodes f) v is = refl
made-of_none m v is = absurd (cc)

pub value_of_nodes-answer : (f : CallTree) (x : ArgumentTree) (g : Function) (p : NodesQuery)
    (d : Value) (c : Node)
    → Some x ≡ only_argument f → Some g ≡ call_function f → kind_of (meaning g) ≡ ValueOfNodes
    → Some p ≡ argument_query x
    → made_of_nodes (meaning g) (counted_nodes d c p) ≡ call_answer f d c
value_of_nodes-answer f x g p d c one named kind is =
    made-of_nodes (meaning g) (argument_value x d c) (counted_nodes d c p) kind
    ∙ ap (λ o. value_answer (Some (meaning g)) (argument_value x d c)
    (option_map (counted_nodes d c) o)) is
    ∙ one-answer f x (Some g) d c one named

pub no_nodes-value : (f : CallTree) (x : ArgumentTree) (g : Function) (d : Value) (c : Node)
    → Some x ≡ only_argument f → Some g ≡ call_function f → kind_of (meaning g) ≡ ValueOfNodes
    → None ≡ argument_query x → None ≡ call_answer f d c
no_nodes-value f x g d c one named kind is =
    made-of_none (meaning g) (argument_value x d c) kind
    ∙ ap (λ o. value_answer (Some (meaning g)) (argument_value x d c)
    (option_map (counted_nodes d c) o)) is
    ∙ one-answer f x (Some g) d c one named

-- ---- a call as a test

has_node-counted : (b : Bool) (ns : List Node) → has_node (counted b ns) ≡ has_node ns
has_node-counted false ns = refl
has_node-counted true [] = refl
has_node-counted true (n ∷ ns) = refl

or-false : (b : Bool) → (b || false) ≡ b
or-false true = refl
or-false false = refl

-- one that answers no nodes
pub test-logical : (f : CallTree) (d : Value) (c : Node) → None ≡ call_query f
    → call_holds f d c ≡ holds (call_test f) d c
test-logical f d c none =
    sym
    (ap (λ o. call_holds f d c || some_node o)
    (call_nodes-counted f d c ∙ ap (option_map (counted_nodes d c)) (sym none))
    ∙ or-false (call_holds f d c))

-- what a call of one argument, or of none, is not
not-logical : (f : CallTree) (d : Value) (c : Node) (p : NodesQuery) → Some p ≡ call_query f
    → call_holds f d c ≡ false
not-logical (call cs no_arguments) d c p is = refl
not-logical (call cs (argument_then x no_arguments)) d c p is = refl
not-logical (call cs (argument_then x (argument_then y rest))) d c p is = absurd (cc)

-- one that answers nodes
pub test-nodes : (f : CallTree) (d : Value) (c : Node) (p : NodesQuery) → Some p ≡ call_query f
    → has_node (nodelist_at p.0 d c) ≡ holds (call_test f) d c
test-nodes f d c p is =
    sym
    (ap (λ b. b || some_node (call_nodes f d c)) (not-logical f d c p is)
    ∙ ap some_node (call_nodes-counted f d c ∙ ap (option_map (counted_nodes d c)) (sym is))
    ∙ has_node-counted p.1 (nodelist_at p.0 d c))

-- ---- other functions than `distinct`

no_nodes-answer : (f : Option Function) (o : Option (List Node)) → f ≢ Some Distinct
    → nodes_answer (option_map meaning f) o ≡ None
no_nodes-answer (Some Distinct) o other = absurd (other refl)
no_nodes-answer f o other = refl

no_nodes : (cs : List ℕ) (xs : ArgumentTrees) (d : Value) (c : Node)
    → function_named Extended cs ≢ Some Distinct → call_nodes (call cs xs) d c ≡ None
no_nodes cs no_arguments d c other = refl
no_nodes cs (argument_then x no_arguments) d c other =
    no_nodes-answer (function_named Extended cs) (argument_nodes x d c) other
no_nodes cs (argument_then x (argument_then y rest)) d c other = refl

tests : (cs : List ℕ) (xs : ArgumentTrees) (d : Value) (c : Node)
    → function_named Extended cs ≢ Some Distinct
    → holds (call_test (call cs xs)) d c ≡ call_holds (call cs xs) d c
tests cs xs d c other =
    ap (λ o. call_holds (call cs xs) d c || some_node o) (no_nodes cs xs d c other)
    ∙ or-false (call_holds (call cs xs) d c)

pub calls_law : StandardCalls
calls_law = record { no_nodes = no_nodes; tests = tests }
