use Rattle.std.proofs.Common.{◌≡◌, ◌+◌, length}
use Rattle.std.specs.Str.{chars, IsUtf8}
use Rattle.jp_json.specs.Private.Machine.{top}
use Rattle.jp_json.specs.Private.Reading.{IsReadTo}
use Rattle.jp_json.proofs.reading.read.Given as goal

abbrev pub invariant-characters : goal.invariant-characters
invariant-characters l = record {
  utf8 : IsUtf8 l.rest;
  read : IsReadTo (chars l.text) (chars l.rest) l.offset l.levels l.state;
  top_is : l.top ≡ top l.levels;
  within : l.offset + length l.rest ≡ length l.text;
}

abbrev pub decreases-characters : goal.decreases-characters
decreases-characters l = length l.rest
