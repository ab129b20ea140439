use Rattle.std.proofs.Common.{◌++◌, ◌-◌, ◌≤◌, length, string_bytes}
use Rattle.std.specs.List.{slice_range}
use Rattle.std.specs.Str.{IsCharBoundary}
use Rattle.jp_flat.specs.Private.Escapes.{GoesOn}
use Rattle.jp_flat.proofs.escapes.push_content.Given as goal

-- with the piece that is not yet there, all up to an offset is there
abbrev pub invariant-pieces : goal.invariant-pieces
invariant-pieces l = record {
  goes : GoesOn l.text (string_bytes l.initial.out) 0
      (string_bytes l.out ++ slice_range l.text l.first l.at) l.at;
  boundary : IsCharBoundary l.text l.first;
  order : l.first ≤ l.at;
}

abbrev pub decreases-pieces : goal.decreases-pieces
decreases-pieces l = length l.text - l.at
