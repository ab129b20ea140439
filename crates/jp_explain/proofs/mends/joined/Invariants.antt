use Rattle.std.proofs.Common.{◌≡◌, ◌++◌, drop}
use Rattle.std.specs.List.{flat_map}
use Rattle.jp_explain.specs.Private.Pieces.{piece_text}
use Rattle.jp_explain.proofs.mends.joined.Given as goal

abbrev pub invariant-loop-piece : goal.invariant-loop-piece
invariant-loop-piece l =
    l.out ++ flat_map piece_text (drop l.piece-index l.pieces) ≡ flat_map piece_text l.pieces
