-- Names rise in the values of the sides of comparisons.
use Rattle.std.proofs.Common.{Bool, true, false, if◌then◌else◌, List, Option, Some, None, refl}
use Rattle.std.specs.List.{All}
use Rattle.std.specs.Option.{IfSome, option_map}
use Rattle.std.proofs.lemmas.List.Elements.{All-weaker}
use Rattle.jp_decimal.specs.declared.number.Number.TheVariants.{Whole as AsWhole, Decimal as AsDecimal}
use Rattle.jp_document.proofs.Descent.Entries.{document-names_rise}
use Rattle.jp_document.proofs.Descent.Nodes.{IsDocumentValue-at}
use Rattle.jp_document.specs.Node.{Node, StandsIn}
use Rattle.jp_document.specs.Value.{Value}
use Rattle.jp_tree.specs.Singular.{is_singular}
use Rattle.jp_tree.specs.Tree.{ArgumentTree, CallTree, LiteralTree, QueryTree, argument_then, call}
use Rattle.jp_tree.specs.Tree.{call_argument, call_value, false_literal, literal, literal_argument}
use Rattle.jp_tree.specs.Tree.{logical_argument, no_arguments, node_value, null_literal, number}
use Rattle.jp_tree.specs.Tree.{query_argument, text, true_literal}
use Rattle.jp_tree.specs.declared.tree.Numeral.TheVariants.{Beyond, Fraction, Whole}
use Rattle.jp_check.specs.Functions.{function_named}
use Rattle.jp_check.specs.declared.profile.Profile.TheVariants.{Extended}
use Rattle.jp_tree.specs.declared.function.Function.{Function}
use Rattle.jp_evaluate.specs.Functions.{Meaning, meaning, only_value, value_answer, value_of_nodes}
use Rattle.jp_evaluate.specs.Functions.{value_of_value}
use Rattle.jp_evaluate.specs.NodelistLaws.{NamesRiseInSides}
use Rattle.jp_evaluate.specs.Nodelist.{argument_nodes, argument_value, call_answer, literal_value}
use Rattle.jp_evaluate.specs.Nodelist.{nodelist_at, single_node_value}
use Rattle.jp_evaluate.proofs.Nodelists.Meanings.{IsLawful, Rises, RisesAt, is_lawful, rises-none}
use Rattle.jp_evaluate.proofs.Nodelists.Meanings.{rises-only, rises-some}
use Rattle.jp_evaluate.proofs.Nodelists.Standing.{argument_stands, selects_nodes_alone}

rises-if : (b : Bool) (o : Option Value) → Rises o → Rises (if b then o else None)
rises-if true o rise = rise
rises-if false o rise = rises-none

rise-standing : (d : Value) (ns : List Node) → All (StandsIn d) ns → All RisesAt ns
rise-standing d ns stand =
    All-weaker (StandsIn d) RisesAt
    (λ n stands. document-names_rise n.value
    (IsDocumentValue-at d n.value n.location stands.document stands.there)) ns stand

rises-query : (q : QueryTree) (d : Value) (c : Node) → StandsIn d c
    → Rises (single_node_value q (nodelist_at q d c))
rises-query q d c stands =
    rises-if (is_singular q) (only_value (nodelist_at q d c))
    (rises-only (nodelist_at q d c)
    (rise-standing d (nodelist_at q d c) (selects_nodes_alone q d c stands)))

rises-literal : (x : LiteralTree) → Rises (literal_value x)
rises-literal (number (Whole z)) = rises-some _ refl
rises-literal (number (Beyond (Some d))) = rises-some _ refl
rises-literal (number (Beyond None)) = rises-none
rises-literal (number (Fraction (Some (AsWhole z)))) = rises-some _ refl
rises-literal (number (Fraction (Some (AsDecimal d)))) = rises-some _ refl
rises-literal (number (Fraction None)) = rises-none
rises-literal (text cs) = rises-some _ refl
rises-literal true_literal = rises-some _ refl
rises-literal false_literal = rises-some _ refl
rises-literal null_literal = rises-some _ refl

-- what a function answers for a value, or for nodes of the document
rises-answer : (f : Option Function) (v : Option Value) (d : Value) (o : Option (List Node))
    → Rises v → IfSome o (All (StandsIn d)) → Rises (value_answer (option_map meaning f) v o)
rises-answer None v d o rise stand = rises-none
rises-answer (Some f) v d o rise stand = of_meaning (meaning f) (is_lawful f) o stand
  where
    of_meaning : (m : Meaning) → IsLawful m → (o : Option (List Node))
        → IfSome o (All (StandsIn d)) → Rises (value_answer (Some m) v o)
    of_meaning (value_of_value g) lawful o stand = lawful v rise
    of_meaning (value_of_nodes g) lawful None stand = rises-none
    of_meaning (value_of_nodes g) lawful (Some ns) stand =
        lawful.rises ns (rise-standing d ns stand)
    of_meaning m lawful o stand = rises-none

mutual
  rises-call : (f : CallTree) (d : Value) (c : Node) → StandsIn d c → Rises (call_answer f d c)
  rises-call (call cs no_arguments) d c stands = rises-none
  rises-call (call cs (argument_then x no_arguments)) d c stands =
      rises-answer (function_named Extended cs) (argument_value x d c) d (argument_nodes x d c)
      (rises-argument x d c stands) (argument_stands x d c stands)
  rises-call (call cs (argument_then x (argument_then y more))) d c stands = rises-none

  rises-argument : (x : ArgumentTree) (d : Value) (c : Node) → StandsIn d c
      → Rises (argument_value x d c)
  rises-argument (literal_argument x) d c stands = rises-literal x
  rises-argument (query_argument q) d c stands = rises-query q d c stands
  rises-argument (call_argument f) d c stands = rises-call f d c stands
  rises-argument (logical_argument e) d c stands = rises-none

pub sides_law : NamesRiseInSides
sides_law (literal x) d c v stands is = rises-literal x v is
sides_law (node_value q) d c v stands is = rises-query q d c stands v is
sides_law (call_value f) d c v stands is = rises-call f d c stands v is
