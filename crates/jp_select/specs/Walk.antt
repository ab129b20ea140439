-- What a walk over a node and its descendants still has to give.
use Rattle.std.specs.Prelude.{ℕ, ◌-◌, List, [], ◌∷◌, ◌++◌, Bool, drop, length, map}
use Rattle.std.specs.Prelude.{reverse, take}
use Rattle.std.specs.List.{flat_map}
use Rattle.std.specs.Option.{option_map_or}
use Rattle.jp_document.specs.DocumentValue.{lent_value}
use Rattle.jp_document.specs.Location.{Location, step_of}
use Rattle.jp_document.specs.Node.{Node, children, node_of}
use Rattle.jp_document.specs.declared.location.Step.{Step}
use Rattle.jp_select.specs.Subtree.{subtree_of}
use Rattle.jp_select.specs.declared.descent.Descent.{Descent}
use Rattle.jp_select.specs.declared.descent.Frame.{Frame}

-- the nodes of the children of a node from a position on, each with its descendants
abbrev pub child_subtrees : Node → ℕ → List Node
child_subtrees n position = flat_map subtree_of (drop position (children n))

-- the location one step shorter
abbrev pub parent : Location → Location
parent l = take (length l - 1) l

-- the node of a frame's value at l
abbrev pub frame_node : Location → Frame → Node
frame_node l f = record { location = l; value = lent_value f.value }

-- what frames still give, the last one first: it stands at l, each other one a step before
abbrev pub frames_give_from : Location → List Frame → List Node
frames_give_from l [] = []
frames_give_from l (f ∷ fs) = child_subtrees (frame_node l f) f.next ++ frames_give_from (parent l) fs

-- the same where these steps are the location of the last one's value
abbrev pub frames_give : List Step → List Frame → List Node
frames_give steps fs = frames_give_from (map step_of steps) (reverse fs)

-- what a walk still gives: before its first node was given, that node and its descendants; after
-- that, what its frames give
abbrev pub rest_of : Descent → List Node
rest_of w =
    option_map_or (λ n. subtree_of (node_of n)) w.first
    (frames_give w.location.items w.frames.items)

-- memory ran out for a node, so that no more are given
abbrev pub has_failed : Descent → Bool
has_failed w = w.failed
