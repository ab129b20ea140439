-- Queries that can be told to ask only for some members, where p tells the names of these.
use Rattle.std.specs.Prelude.{◌≡◌, ℕ, Bool, true, false, ◌&&◌, if◌then◌else◌, List, [], ◌∷◌}
use Rattle.std.specs.Prelude.{Option, Some, None, String, string_bytes}
use Rattle.std.specs.Str.{encode_utf8_all}
use Rattle.std.specs.declared.alloc.Global.{Global}
use Rattle.jp_flat.specs.declared.asked.AskedFor.{AskedFor}
use Rattle.jp_held.specs.declared.portion.Portion.{Portion}
use Rattle.jp_held.specs.declared.portion.Portion.TheVariants.{Members, Whole}
use Rattle.jp_tree.specs.Tree.{ArgumentTree, ArgumentTrees, CallTree, ExprTree, ExprTrees}
use Rattle.jp_tree.specs.Tree.{OperandTree, QueryTree, SegmentTrees, SelectorTree, SelectorTrees}
use Rattle.jp_tree.specs.Tree.{all_of, any_of, argument_then, call, call_argument, call_test}
use Rattle.jp_tree.specs.Tree.{call_value, comparison, exists, expr_then, filter, literal}
use Rattle.jp_tree.specs.Tree.{literal_argument, logical_argument, name, negation, no_arguments}
use Rattle.jp_tree.specs.Tree.{no_exprs, no_segments, no_selectors, node_value, query}
use Rattle.jp_tree.specs.Tree.{query_argument, segment, segment_then, selector_then}
use Rattle.jp_evaluate.specs.Asked.{AsksNoMore}

-- ---- segments

-- the selector is no filter
abbrev pub is_unfiltered : SelectorTree → Bool
is_unfiltered (filter e) = false
is_unfiltered s = true

-- no selector is one
abbrev pub are_unfiltered : SelectorTrees → Bool
are_unfiltered no_selectors = true
are_unfiltered (selector_then s rest) = is_unfiltered s && are_unfiltered rest

-- no segment has a filter
abbrev pub has_no_filter : SegmentTrees → Bool
has_no_filter no_segments = true
has_no_filter (segment_then (segment descendant ss) rest) = are_unfiltered ss && has_no_filter rest

-- the name that a selector is
abbrev pub name_selected : SelectorTree → Option (List ℕ)
name_selected (name cs) = Some (encode_utf8_all cs)
name_selected s = None

-- the selector is a name, and passes
abbrev pub asks_name : (List ℕ → Bool) → SelectorTree → Bool
asks_name p (name cs) = p (encode_utf8_all cs)
asks_name p s = false

-- each selector is one that does
abbrev pub asks_names : (List ℕ → Bool) → SelectorTrees → Bool
asks_names p no_selectors = true
asks_names p (selector_then s rest) = asks_name p s && asks_names p rest

-- the first segment selects children by such names alone, and no later one has a filter
abbrev pub asks_members : (List ℕ → Bool) → SegmentTrees → Bool
asks_members p (segment_then (segment false ss) rest) = asks_names p ss && has_no_filter rest
asks_members p _ = false

-- ---- filters, which ask each query of an item

-- the query does so from the current node
abbrev pub asks_query : (List ℕ → Bool) → QueryTree → Bool
asks_query p (query true all) = false
asks_query p (query false all) = asks_members p all

-- each query of an expression does so
abbrev mutual
  pub asks_expr : (List ℕ → Bool) → ExprTree → Bool
  asks_expr p (any_of es) = asks_exprs p es
  asks_expr p (all_of es) = asks_exprs p es
  asks_expr p (negation e) = asks_expr p e
  asks_expr p (comparison left op right) = asks_operand p left && asks_operand p right
  asks_expr p (exists q) = asks_query p q
  asks_expr p (call_test f) = asks_call p f

  pub asks_exprs : (List ℕ → Bool) → ExprTrees → Bool
  asks_exprs p no_exprs = true
  asks_exprs p (expr_then e rest) = asks_expr p e && asks_exprs p rest

  pub asks_operand : (List ℕ → Bool) → OperandTree → Bool
  asks_operand p (literal x) = true
  asks_operand p (node_value q) = asks_query p q
  asks_operand p (call_value f) = asks_call p f

  pub asks_call : (List ℕ → Bool) → CallTree → Bool
  asks_call p (call cs xs) = asks_arguments p xs

  pub asks_argument : (List ℕ → Bool) → ArgumentTree → Bool
  asks_argument p (literal_argument x) = true
  asks_argument p (query_argument q) = asks_query p q
  asks_argument p (call_argument f) = asks_call p f
  asks_argument p (logical_argument e) = asks_expr p e

  pub asks_arguments : (List ℕ → Bool) → ArgumentTrees → Bool
  asks_arguments p no_arguments = true
  asks_arguments p (argument_then x rest) = asks_argument p x && asks_arguments p rest

-- ---- queries

-- a selector of items asks for these members of them at most
abbrev pub asks_selector : (List ℕ → Bool) → SelectorTree → Bool
asks_selector p (filter e) = asks_expr p e
asks_selector p s = true

-- the same of each selector
abbrev pub asks_selectors : (List ℕ → Bool) → SelectorTrees → Bool
asks_selectors p no_selectors = true
asks_selectors p (selector_then s rest) = asks_selector p s && asks_selectors p rest

-- the first segment selects children so, and what follows asks for these members of them
abbrev pub asks_items : (List ℕ → Bool) → SegmentTrees → Bool
asks_items p (segment_then (segment false ss) rest) = asks_selectors p ss && asks_members p rest
asks_items p _ = false

-- the query asks for these members of the document alone
abbrev pub asks_root : (List ℕ → Bool) → QueryTree → Bool
asks_root p (query absolute all) = asks_members p all

-- the name that is the only selector
abbrev pub only_name : SelectorTrees → Option (List ℕ)
only_name (selector_then s no_selectors) = name_selected s
only_name _ = None

-- the name that the first segment selects anywhere, where no later one has a filter
abbrev pub asked_anywhere : SegmentTrees → Option (List ℕ)
asked_anywhere (segment_then (segment true ss) rest) =
    if has_no_filter rest then only_name ss else None
asked_anywhere _ = None

-- a query of these segments asks no more
abbrev pub AskNoMore : SegmentTrees → AskedFor → Type 0
AskNoMore all asked = (absolute : Bool) → AsksNoMore (query absolute all) asked

-- what is wanted of a document of which so much is asked, where it is told
abbrev pub portion_asked : Option AskedFor → Portion
portion_asked (Some asked) = Members asked
portion_asked None = Whole

-- ---- the names that were seen

-- each of the names passes
abbrev pub pass : (List ℕ → Bool) → List (String Global) → Bool
pass p [] = true
pass p (n ∷ ns) = p (string_bytes n) && pass p ns

-- where these names pass, so much is true
abbrev pub AskedOf : List (String Global) → ((List ℕ → Bool) → Bool) → Type 0
AskedOf ns asks = (p : List ℕ → Bool) → pass p ns ≡ true → asks p ≡ true

-- what was told of a part of a query while the names ns became ms: those stand still, and where it
-- was told, these are all that the part asks for
pub record Collects (ns ms : List (String Global)) (asks : (List ℕ → Bool) → Bool) (is_told : Bool)
    : Type 0 where
  pub stand : AskedOf ms (λ p. pass p ns)
  pub told : is_told ≡ true → AskedOf ms asks
