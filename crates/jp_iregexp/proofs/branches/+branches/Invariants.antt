-- Each call of the cycle opens a group more, or goes on in the same one, on the way from branches to
-- a group, whose six functions are numbered from 7 down to 2. 8 is above these numbers, so a group
-- outweighs them.
use Rattle.std.proofs.Common.{◌≡◌, ◌+◌, ◌*◌, ◌++◌, length, map}
use Rattle.jp_reading.specs.Characters as char
use Rattle.jp_reading.specs.Outcome.{is_at, each}
use Rattle.jp_reading.specs.Views.{outcome_map}
use Rattle.jp_iregexp.specs.Tree.{tree, branches, pieces}
use Rattle.jp_iregexp.specs.Private.Reading.{inside_at, branches_at}
use Rattle.jp_iregexp.specs.Private.Reading.{next_branch_at, branch_at, pieces_at}
use Rattle.jp_iregexp.proofs.branches.+branches.Given as goal

abbrev pub decreases-branches : goal.decreases-branches
decreases-branches l = l.groups * 8 + 7

abbrev pub decreases-next_branch : goal.decreases-next_branch
decreases-next_branch l = l.groups * 8 + 6

abbrev pub decreases-branch : goal.decreases-branch
decreases-branch l = l.groups * 8 + 5

abbrev pub decreases-piece : goal.decreases-piece
decreases-piece l = l.groups * 8 + 4

abbrev pub decreases-atom : goal.decreases-atom
decreases-atom l = l.groups * 8 + 3

abbrev pub decreases-group : goal.decreases-group
decreases-group l = l.groups * 8 + 2

abbrev pub invariant-branch-pieces : goal.invariant-branch-pieces
invariant-branch-pieces l =
    branch_at (inside_at l.groups) l.initial.reader ≡
    outcome_map (λ xs. pieces (map tree l.pieces.items ++ xs)) (pieces_at (inside_at l.groups) l.reader)

abbrev pub decreases-branch-pieces : goal.decreases-branch-pieces
decreases-branch-pieces l = length l.reader.rest

abbrev pub invariant-branches-branches : goal.invariant-branches-branches
invariant-branches-branches l =
    branches_at (inside_at l.groups) l.fn.reader ≡
    outcome_map (λ xs. branches (map tree l.branches.items ++ xs))
    (each (is_at char.bar) (next_branch_at (inside_at l.groups)) l.reader)

abbrev pub decreases-branches-branches : goal.decreases-branches-branches
decreases-branches-branches l = length l.reader.rest
