-- Patterns as pure trees, and the tree of a pattern in code.
use Rattle.std.specs.Prelude.{ℕ, Bool, List, Option, [], ◌∷◌}
use Rattle.jp_iregexp.specs.declared.class.ClassElement.{ClassElement}
use Rattle.jp_iregexp.specs.declared.pattern.Pattern.{Pattern}
use Rattle.jp_iregexp.specs.declared.pattern.Pattern.TheOpen as one
use Rattle.jp_iregexp.specs.declared.pattern.Pattern.TheOpen.{Pattern-F}
use Rattle.jp_iregexp.specs.declared.pattern.Pattern.TheFolds.{fold-Pattern}

-- a pattern as a pure tree: a class; no branch, or a branch beside other branches; no piece, or a
-- piece before other pieces; a repeat (RFC 9485 section 3)
pub data Tree : Type 0 where
  class : Bool → List ClassElement → Tree
  nothing : Tree
  either : Tree → Tree → Tree
  empty : Tree
  sequence : Tree → Tree → Tree
  repeat : Tree → ℕ → Option ℕ → Tree

-- the branches of a list
abbrev pub branches : List Tree → Tree
branches [] = nothing
branches (a ∷ others) = either a (branches others)

-- the pieces of a list
abbrev pub pieces : List Tree → Tree
pieces [] = empty
pieces (a ∷ others) = sequence a (pieces others)

-- the tree of a pattern whose parts are trees already
abbrev pub node_tree : Pattern-F Tree → Tree
node_tree (one.Either bs) = branches bs.items
node_tree (one.Sequence ps) = pieces ps.items
node_tree (one.Repeat inner least most) = repeat inner.value least most
node_tree (one.Class c) = class c.negated c.elements.items

-- the tree of a pattern
unfoldable pub tree : Pattern → Tree
tree = fold-Pattern Tree node_tree
