use Rattle.std.proofs.Common.{◌≡◌, length}
use Rattle.std.specs.Str.{chars}
use Rattle.std.specs.String.{string_bytes}
use Rattle.jp_reading.specs.Views.{with_prefix}
use Rattle.jp_query.specs.Private.NameCharacters.{is_one_of}
use Rattle.jp_query.specs.Private.Rules.{run}
use Rattle.jp_query.specs.Private.Reading.{read_flat}
use Rattle.jp_query.proofs.names.name_from.Given as goal

abbrev pub invariant-characters : goal.invariant-characters
invariant-characters l =
    with_prefix (chars (string_bytes l.text)) (read_flat (run (is_one_of l.class)) l.reader)
    ≡ with_prefix (chars (string_bytes l.fn.name)) (read_flat (run (is_one_of l.class)) l.fn.reader)

abbrev pub decreases-characters : goal.decreases-characters
decreases-characters l = length l.reader.rest
