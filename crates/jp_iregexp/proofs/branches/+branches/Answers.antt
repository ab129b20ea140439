use Rattle.std.proofs.Common.{◌≡◌, ℕ, Bool, true, List, sym, ◌∙◌, ap, rules, map, append-nil, ◌++◌}
use Rattle.std.proofs.Common.{◌∷◌, []}
use Rattle.std.proofs.lemmas.Result.{err_from_is_err_and}
use Rattle.jp_reading.specs.Characters as char
use Rattle.jp_reading.specs.Outcome.{State, Outcome, each, took, is_at, passes, head}
use Rattle.jp_reading.specs.Views.{outcome_map}
use Rattle.jp_reading.proofs.States.Folds.{folds_on, folds_end, folds_fail}
use Rattle.jp_iregexp.specs.declared.pattern.Pattern.{Pattern}
use Rattle.jp_iregexp.specs.Tree.{Tree, tree, branches, pieces}
use Rattle.jp_iregexp.specs.Private.Reading.{begins_piece, piece_at, next_branch_at, inside_at}
use Rattle.jp_iregexp.proofs.Trees.{tree_either, tree_sequence, mapped_push}
use Rattle.jp_reading.proofs.States.Progress.{Progress, moved}
use Rattle.jp_iregexp.proofs.Progress.{moves-piece, moves-next_branch, keeps-inside}
use Rattle.jp_iregexp.proofs.branches.+branches.Goals as goal

piece-moves : (groups : ℕ) → Progress (piece_at (inside_at groups))
piece-moves groups = moves-piece (inside_at groups) (keeps-inside groups)

next_branch-moves : (groups : ℕ) → Progress (next_branch_at (inside_at groups))
next_branch-moves groups = moves-next_branch (inside_at groups) (keeps-inside groups)

-- a round that pushed a pattern to the parts
pushed_on : (begins : State → Bool) (rule : State → Outcome Tree) → Progress rule
    → (whole : List Tree → Tree) (parts more : List Pattern) (x : Pattern) (p q : State)
    → begins p ≡ true → rule p ≡ took (tree x) q → more ≡ parts ++ x ∷ []
    → outcome_map (λ xs. whole (map tree parts ++ xs)) (each begins rule p)
    ≡ outcome_map (λ xs. whole (map tree more ++ xs)) (each begins rule q)
pushed_on begins rule moves whole parts more x p q on read pushed =
    folds_on begins rule moves (λ xs. whole (map tree parts ++ xs))
    (λ xs. whole (map tree more ++ xs)) p q (tree x) on read
    (λ xs. rw pushed (ap whole (mapped_push parts x xs)))

pub branch-returns-in_err-next : goal.branch-returns-in_err-next
branch-returns-in_err-next t c =
    let p = err_from_is_err_and c.from_residual.result c.from_residual.ensures.1 in
    rw (p.1, p.2, c.pieces.invariant)
    (folds_fail (λ q. passes begins_piece (head q)) (piece_at (inside_at c.args.groups))
    (piece-moves c.args.groups)
    (λ xs. pieces (map tree c.pieces.pieces.items ++ xs)) c.pieces.reader c.in_err-next.field-0.0
    (sym c.is_at_one_of.ensures ∙ c.pieces-test.true) c.in_err-next.ensures)

pub branch-pieces-smaller : goal.branch-pieces-smaller
branch-pieces-smaller t c =
    moved (piece_at (inside_at c.args.groups)) (piece-moves c.args.groups) c.pieces.reader
    c.piece.new.reader (tree c.in_ok-next.next) c.in_ok-next.ensures

pub branch-pieces-preserved : goal.branch-pieces-preserved
branch-pieces-preserved t c =
    c.pieces.invariant
    ∙ pushed_on (λ q. passes begins_piece (head q)) (piece_at (inside_at c.args.groups))
    (piece-moves c.args.groups) pieces c.pieces.pieces.items c.push.new.self.items
    c.in_ok-next.next c.pieces.reader c.piece.new.reader
    (sym c.is_at_one_of.ensures ∙ c.pieces-test.true) c.in_ok-next.ensures (search rules)

pub branch-returns : goal.branch-returns
branch-returns t c =
    c.pieces.invariant
    ∙ folds_end (λ q. passes begins_piece (head q)) (piece_at (inside_at c.args.groups))
    (λ xs. pieces (map tree c.pieces.pieces.items ++ xs)) c.pieces.reader
    (sym c.is_at_one_of.ensures ∙ c.pieces-test.false)
    ∙ ap (λ x. took x c.pieces.reader)
    (ap pieces (append-nil (map tree c.pieces.pieces.items))
    ∙ sym (tree_sequence c.pieces.pieces))

pub branches-returns-in_err-next : goal.branches-returns-in_err-next
branches-returns-in_err-next t c =
    let p =
    err_from_is_err_and c.from_residual-in_err-next.result
    c.from_residual-in_err-next.ensures.1 in
    rw (p.1, p.2, c.branches.invariant)
    (folds_fail (is_at char.bar) (next_branch_at (inside_at c.args.groups))
    (next_branch-moves c.args.groups)
    (λ xs. branches (map tree c.branches.branches.items ++ xs)) c.branches.reader
    c.in_err-next.field-0.0 (sym c.is_at.ensures ∙ c.branches-test.true) c.in_err-next.ensures)

pub branches-branches-smaller : goal.branches-branches-smaller
branches-branches-smaller t c =
    moved (next_branch_at (inside_at c.args.groups)) (next_branch-moves c.args.groups)
    c.branches.reader c.next_branch.new.reader (tree c.in_ok-next.next) c.in_ok-next.ensures

pub branches-branches-preserved : goal.branches-branches-preserved
branches-branches-preserved t c =
    c.branches.invariant
    ∙ pushed_on (is_at char.bar) (next_branch_at (inside_at c.args.groups))
    (next_branch-moves c.args.groups) branches c.branches.branches.items
    c.push-in-branches.new.self.items c.in_ok-next.next c.branches.reader
    c.next_branch.new.reader (sym c.is_at.ensures ∙ c.branches-test.true) c.in_ok-next.ensures
    (search rules)

pub branches-returns : goal.branches-returns
branches-returns t c =
    c.branches.invariant
    ∙ folds_end (is_at char.bar) (next_branch_at (inside_at c.args.groups))
    (λ xs. branches (map tree c.branches.branches.items ++ xs)) c.branches.reader
    (sym c.is_at.ensures ∙ c.branches-test.false)
    ∙ ap (λ x. took x c.branches.reader)
    (ap branches (append-nil (map tree c.branches.branches.items))
    ∙ sym (tree_either c.branches.branches))
