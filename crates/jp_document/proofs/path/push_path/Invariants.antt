use Rattle.std.proofs.Common.{◌≡◌, ◌++◌, drop, map, string_bytes}
use Rattle.std.specs.List.{flat_map}
use Rattle.jp_decimal.specs.Appended.{IsBegun}
use Rattle.jp_document.specs.Location.{step_of}
use Rattle.jp_document.specs.Path.{path_of, step_text}
use Rattle.jp_document.proofs.path.push_path.Given as goal

-- what stands there is a beginning of the whole, and with the steps to come it is the whole
abbrev pub invariant-loop-step : goal.invariant-loop-step
invariant-loop-step l = record {
  whole : string_bytes l.out ++ flat_map step_text (map step_of (drop l.step-index l.location)) ≡
      string_bytes l.fn.out ++ path_of (map step_of l.location);
  kept : IsBegun (string_bytes l.fn.out) (path_of (map step_of l.location))
      (string_bytes l.out);
}
