use Rattle.std.proofs.Common.{◌≡◌, ◌++◌, length, string_bytes}
use Rattle.std.specs.List.{flat_map}
use Rattle.jp_cells.specs.Fields.{spelling}
use denote.Shadow.{shadow}
use denote.Text.{Utf8}
use Rattle.jp_cells.proofs.field.push_spelled.Given as goal

-- what stands there with the rest spelled is the whole
abbrev pub invariant-runs : goal.invariant-runs
invariant-runs l = record {
  utf8 : shadow (Utf8 l.rest);
  whole : string_bytes l.row ++ flat_map (spelling l.format) l.rest ≡
      string_bytes l.initial.row ++ flat_map (spelling l.format) l.text;
}

abbrev pub decreases-runs : goal.decreases-runs
decreases-runs l = length l.rest
