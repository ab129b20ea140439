use Rattle.std.proofs.Common.{◌≤◌, ◌+◌, length}
use Rattle.std.specs.Str.{chars, IsUtf8}
use Rattle.jp_json.proofs.Places.{IsPassed}
use Rattle.jp_json.proofs.place.line_and_column.Given as goal

abbrev pub invariant-characters : goal.invariant-characters
invariant-characters l = record {
  utf8 : IsUtf8 l.rest;
  passed : IsPassed (chars l.text) (chars l.rest) l.offset l.left l.feeds l.since;
  feeds_fit : l.feeds + length l.rest ≤ length l.text;
  since_fits : l.since + length l.rest ≤ length l.text;
}

abbrev pub decreases-characters : goal.decreases-characters
decreases-characters l = length l.rest
