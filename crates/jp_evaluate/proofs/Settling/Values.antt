-- A call of `value` with a path in the place of its query answers the same.
use Rattle.std.proofs.Common.{◌≡◌, Bool, true, false, if◌then◌else◌, List, [], ◌∷◌, Option, Some}
use Rattle.std.proofs.Common.{ℕ, None, option_map, refl, ap, subst, sym, ◌∙◌}
use Rattle.jp_document.specs.Node.{Node}
use Rattle.jp_document.specs.Value.{Value}
use Rattle.jp_tree.specs.Singular.{is_singular}
use Rattle.jp_tree.specs.declared.function.Function.{Function}
use Rattle.jp_tree.specs.declared.function.Function.TheVariants.{ValueOf}
use Rattle.jp_tree.specs.Tree.{ArgumentTree, CallTree, QueryTree, argument_then, call}
use Rattle.jp_tree.specs.Tree.{no_arguments, query_argument}
use Rattle.jp_check.specs.Functions.{function_named}
use Rattle.jp_check.specs.declared.profile.Profile.TheVariants.{Extended}
use Rattle.jp_select.proofs.Comparisons.Sameness.{equals_is}
use Rattle.jp_evaluate.specs.Functions.{meaning, nodes_answer, only_value, value_answer}
use Rattle.jp_evaluate.specs.Nodelist.{argument_nodes, argument_value, call_answer, call_holds}
use Rattle.jp_evaluate.specs.Nodelist.{call_nodes, meaning_named, nodelist, single_node_value}
use Rattle.jp_evaluate.specs.Private.Calls.{NodesQuery, argument_query, counted}
use Rattle.jp_evaluate.specs.Private.PathTrees.{path_tree}
use Rattle.jp_evaluate.specs.Private.Settled.{is_asked_once, is_at_path, only_node}
use Rattle.jp_evaluate.specs.Private.Settled.{path_arguments, settled_value, value_call, value_nodes}
use Rattle.jp_evaluate.specs.Private.Settled.{with_arguments}
use Rattle.jp_evaluate.proofs.Parts.Counted.{argument_nodes-counted, counted_nodes}
use Rattle.jp_evaluate.proofs.Settling.Answers.{same-anywhere}

-- two calls that answer the same
pub record AnswerAlike (d : Value) (c : Node) (f g : CallTree) : Type 0 where
  pub value : call_answer f d c ≡ call_answer g d c
  pub truth : call_holds f d c ≡ call_holds g d c
  pub nodes : call_nodes f d c ≡ call_nodes g d c

alike : (d : Value) (c : Node) (f : CallTree) → AnswerAlike d c f f
alike d c f = record { value = refl; truth = refl; nodes = refl }

-- ---- the value at a path

from_single : (b : Bool) (ns : List Node) (v : Value)
    → (if b then only_value ns else None) ≡ Some v → only_value ns ≡ Some v
from_single true ns v is = is
from_single false ns v is = absurd (cc)

at_path : (q : QueryTree) (d : Value) (v : Value) → is_at_path d q v ≡ true
    → only_value (nodelist q d) ≡ Some v
at_path q d v is =
    from_single (is_singular q) (nodelist q d) v
    (equals_is (single_node_value q (nodelist q d)) (Some v) is)

only_node-value : (ns : List Node) → option_map (λ n. n.value) (only_node ns) ≡ only_value ns
only_node-value [] = refl
only_node-value (n ∷ []) = refl
only_node-value (n ∷ m ∷ ns) = refl

-- ---- one argument

no_nodes-value : (h : Option Function) (o : Option (List Node)) → h ≡ Some ValueOf
    → nodes_answer (option_map meaning h) o ≡ None
no_nodes-value h o is = ap (λ g. nodes_answer (option_map meaning g) o) is

with_path : (cs : List ℕ) (x : ArgumentTree) (n : Node) (b : Bool) (d : Value) (c : Node)
    → function_named Extended cs ≡ Some ValueOf
    → is_at_path d (path_tree n.location) n.value ≡ b
    → Some n.value ≡ call_answer (call cs (argument_then x no_arguments)) d c
    → AnswerAlike d c
    (with_arguments (call cs (argument_then x no_arguments))
    (if b then Some (argument_then (query_argument (path_tree n.location)) no_arguments) else None))
    (call cs (argument_then x no_arguments))
with_path cs x n false d c named leads answers = alike d c (call cs (argument_then x no_arguments))
with_path cs x n true d c named leads answers = record {
  value =
      ap (λ g. value_answer (option_map meaning g) (argument_value (query_argument (path_tree n.location)) d c)
      (Some (nodelist (path_tree n.location) d))) named
      ∙ at_path (path_tree n.location) d n.value leads ∙ answers;
  truth = refl;
  nodes =
      no_nodes-value (function_named Extended cs) (Some (nodelist (path_tree n.location) d)) named
      ∙ sym (no_nodes-value (function_named Extended cs) (argument_nodes x d c) named);
}

with_node : (cs : List ℕ) (x : ArgumentTree) (o : Option Node) (d : Value) (c : Node)
    → function_named Extended cs ≡ Some ValueOf
    → option_map (λ n. n.value) o ≡ call_answer (call cs (argument_then x no_arguments)) d c
    → AnswerAlike d c
    (with_arguments (call cs (argument_then x no_arguments)) (path_arguments d o))
    (call cs (argument_then x no_arguments))
with_node cs x None d c named answers = record {
  value = answers;
  truth = refl;
  nodes = sym (no_nodes-value (function_named Extended cs) (argument_nodes x d c) named);
}
with_node cs x (Some n) d c named answers =
    with_path cs x n (is_at_path d (path_tree n.location) n.value) d c named refl answers

value-once : (cs : List ℕ) (x : ArgumentTree) (p : NodesQuery) (b : Bool) (d : Value) (c : Node)
    → function_named Extended cs ≡ Some ValueOf → is_asked_once p.0 ≡ b
    → only_value (counted_nodes d c p) ≡ call_answer (call cs (argument_then x no_arguments)) d c
    → AnswerAlike d c
    (value_call d (call cs (argument_then x no_arguments)) (if b then Some p else None))
    (call cs (argument_then x no_arguments))
value-once cs x p false d c named once answers = alike d c (call cs (argument_then x no_arguments))
value-once cs x p true d c named once answers =
    with_node cs x (only_node (counted p.1 (nodelist p.0 d))) d c named
    (only_node-value (counted p.1 (nodelist p.0 d))
    ∙ ap (λ ns. only_value (counted p.1 ns)) (same-anywhere p.0 d c once) ∙ answers)

value-nodes : (cs : List ℕ) (x : ArgumentTree) (h : Option Function) (o : Option NodesQuery)
    (d : Value) (c : Node) → function_named Extended cs ≡ h
    → value_answer (option_map meaning h) (argument_value x d c) (option_map (counted_nodes d c) o)
    ≡ call_answer (call cs (argument_then x no_arguments)) d c
    → AnswerAlike d c
    (value_call d (call cs (argument_then x no_arguments)) (value_nodes h o))
    (call cs (argument_then x no_arguments))
value-nodes cs x (Some ValueOf) None d c named answers = alike d c _
value-nodes cs x (Some ValueOf) (Some p) d c named answers =
    value-once cs x p (is_asked_once p.0) d c named refl answers
value-nodes cs x h o d c named answers = alike d c _

-- ---- all calls

no_nodes : (h : Option Function) → value_nodes h None ≡ None
no_nodes (Some ValueOf) = refl
no_nodes h = refl

stays : (f : CallTree) (h : Option Function) (d : Value) (c : Node)
    → AnswerAlike d c (value_call d f (value_nodes h None)) f
stays f h d c = subst (λ o. AnswerAlike d c (value_call d f o) f) (sym (no_nodes h)) (alike d c f)

pub value-same : (f : CallTree) (d : Value) (c : Node) → AnswerAlike d c (settled_value d f) f
value-same (call cs no_arguments) d c =
    stays (call cs no_arguments) (function_named Extended cs) d c
value-same (call cs (argument_then x no_arguments)) d c =
    value-nodes cs x (function_named Extended cs) (argument_query x) d c refl
    (sym (ap (value_answer (meaning_named cs) (argument_value x d c))
    (argument_nodes-counted x d c)))
value-same (call cs (argument_then x (argument_then y rest))) d c =
    stays (call cs (argument_then x (argument_then y rest))) (function_named Extended cs) d c
