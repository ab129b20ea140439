use Rattle.std.proofs.Common.{◌≡◌, [], length}
use denote.Text.{Utf8}
use denote.Shadow.{shadow}
use Rattle.std.specs.Str.{chars}
use Rattle.jp_reading.specs.Outcome.{after_blank}
use Rattle.jp_reading.proofs.reader.first_past_blanks.Given as goal

abbrev pub invariant-blanks : goal.invariant-blanks
invariant-blanks l =
    shadow (Utf8 l.rest) × (after_blank (record { at = 0; rest = chars l.rest; found = [] })
    ≡ after_blank (record { at = 0; rest = chars l.fn.text; found = [] }))

abbrev pub decreases-blanks : goal.decreases-blanks
decreases-blanks l = length l.rest
