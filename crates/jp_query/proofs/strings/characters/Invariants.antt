use Rattle.std.proofs.Common.{◌≡◌, length}
use Rattle.std.specs.Str.{chars}
use Rattle.std.specs.String.{string_bytes}
use Rattle.jp_reading.specs.Views.{with_prefix}
use Rattle.jp_query.specs.Private.Rules.{characters}
use Rattle.jp_query.specs.Private.Reading.{read_flat}
use Rattle.jp_query.proofs.strings.characters.Given as goal

abbrev pub invariant-characters : goal.invariant-characters
invariant-characters l =
    with_prefix (chars (string_bytes l.text)) (read_flat (characters l.quote) l.reader) ≡ read_flat
    (characters l.quote) l.initial.reader

abbrev pub decreases-characters : goal.decreases-characters
decreases-characters l = length l.reader.rest
