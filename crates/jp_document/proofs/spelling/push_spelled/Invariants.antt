use Rattle.std.proofs.Common.{◌≡◌, ◌++◌, length, string_bytes}
use Rattle.std.specs.List.{flat_map}
use Rattle.jp_decimal.specs.Appended.{IsBegun}
use Rattle.jp_document.specs.Spelling.{spelling}
use denote.Shadow.{shadow}
use denote.Text.{Utf8}
use Rattle.jp_document.proofs.spelling.push_spelled.Given as goal

-- what stands there is a beginning of the whole, and with the rest spelled it is the whole
abbrev pub invariant-runs : goal.invariant-runs
invariant-runs l = record {
  utf8 : shadow (Utf8 l.rest);
  whole : string_bytes l.out ++ flat_map (spelling l.quote) l.rest ≡
      string_bytes l.initial.out ++ flat_map (spelling l.quote) l.text;
  kept : IsBegun (string_bytes l.initial.out) (flat_map (spelling l.quote) l.text)
      (string_bytes l.out);
}

abbrev pub decreases-runs : goal.decreases-runs
decreases-runs l = length l.rest
