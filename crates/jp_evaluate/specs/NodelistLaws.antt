-- Further laws of nodelists, of which the headline needs none: singular queries, names in sides, sets,
-- counts, `distinct`, and calls of the standard's functions.
use Rattle.std.specs.Prelude.{◌≡◌, ◌≢◌, ◌≤◌, ℕ, None, List, [], ◌∷◌, ◌++◌, length, Bool, true, false, All, Some}
use Rattle.std.specs.Prelude.{if◌then◌else◌, sum_by}
use Rattle.std.specs.List.{AllByRecursion, Contains, list_any}
use Rattle.jp_document.specs.Node.{Node, StandsIn}
use Rattle.jp_document.specs.Value.{NamesRise, Value}
use Rattle.jp_tree.specs.Singular.{is_singular}
use Rattle.jp_tree.specs.Tree.{ArgumentTrees, OperandTree, QueryTree, SegmentTrees, call, call_test}
use Rattle.jp_check.specs.Functions.{function_named}
use Rattle.jp_tree.specs.declared.function.Function.TheVariants.{Distinct}
use Rattle.jp_check.specs.declared.profile.Profile.TheVariants.{Extended}
use Rattle.jp_evaluate.specs.Functions.{is_same_node, without_repeats}
use Rattle.jp_evaluate.specs.Nodelist.{call_holds, call_nodes, has_node, holds}
use Rattle.jp_evaluate.specs.Nodelist.{nodelist_at, operand_value, result}

-- a singular query selects at most one node (RFC 9535 section 2.3.5.1)
abbrev pub SingularSelectsOne : Type 0
SingularSelectsOne =
    (q : QueryTree) (d : Value) (c : Node) → is_singular q ≡ true → length (nodelist_at q d c) ≤ 1

-- names rise in the value of each side of a comparison over a document, if it has one, so that `==`
-- is equality there (sections 2.3.5.1 and 2.3.5.2.2)
abbrev pub NamesRiseInSides : Type 0
NamesRiseInSides =
    (x : OperandTree) (d : Value) (c : Node) (v : Value) → StandsIn d c
    → operand_value x d c ≡ Some v → NamesRise v

-- whether segments reach a node from a list of nodes depends on the set of these alone, and not on
-- their order, nor on how often one stands there (section 2.1.2)
abbrev pub ExistenceGoesBySets : Type 0
ExistenceGoesBySets =
    (all : SegmentTrees) (d : Value) (ns ms : List Node) → All (Contains ms) ns → All (Contains ns) ms
    → has_node (result all d ns) ≡ has_node (result all d ms)

-- segments reach from a list as many nodes as from each of its nodes together (section 2.1.2)
abbrev pub CountsAddUp : Type 0
CountsAddUp =
    (all : SegmentTrees) (d : Value) (ns : List Node)
    → length (result all d ns) ≡ sum_by (λ n. length (result all d (n ∷ []))) ns

-- a node of the list has the location of n
abbrev pub is_there : List Node → Node → Bool
is_there ns n = list_any (is_same_node n) ns

-- no two of the nodes have one location
abbrev pub AreApart : List Node → Type 0
AreApart [] = Unit {0}
AreApart (n ∷ ns) = AllByRecursion (λ m. is_same_node n m ≡ false) ns × AreApart ns

-- what `distinct` answers
pub record DistinctIsExact : Type 0 where
  -- it has the locations of the argument's nodes
  pub same : (ns : List Node) (n : Node) → is_there (without_repeats ns) n ≡ is_there ns n
  -- each is a node of the argument
  pub own : (ns : List Node) → All (Contains ns) (without_repeats ns)
  -- no two of them have one location
  pub apart : (ns : List Node) → AreApart (without_repeats ns)
  -- they stand in the order of their first occurrences: one node more comes last, unless its
  -- location was there
  pub first : (ns : List Node) (n : Node)
      → without_repeats (ns ++ n ∷ []) ≡ without_repeats ns ++ (if is_there ns n then [] else n ∷ [])
  -- a list without repeats stays as it is
  pub unchanged : (ns : List Node) → AreApart ns → without_repeats ns ≡ ns

-- what a call of a function other than `distinct` is, or of none: it answers no nodes, so that no
-- argument stands for any by it, and it is true as a test where its answer is. So a query without
-- `distinct` means what it means with the functions of the standard alone
pub record StandardCalls : Type 0 where
  pub no_nodes : (cs : List ℕ) (xs : ArgumentTrees) (d : Value) (c : Node)
      → function_named Extended cs ≢ Some Distinct → call_nodes (call cs xs) d c ≡ None
  pub tests : (cs : List ℕ) (xs : ArgumentTrees) (d : Value) (c : Node)
      → function_named Extended cs ≢ Some Distinct
      → holds (call_test (call cs xs)) d c ≡ call_holds (call cs xs) d c
