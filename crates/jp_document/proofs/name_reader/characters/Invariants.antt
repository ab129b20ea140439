use Rattle.std.proofs.Common.{◌≡◌, ◌++◌, length, string_bytes}
use Rattle.std.specs.Str.{encode_utf8_all}
use Rattle.jp_reading.specs.Outcome.{each, head, passes}
use Rattle.jp_reading.specs.Views.{outcome_map}
use Rattle.jp_document.specs.Private.PathReading.{read_rule}
use Rattle.jp_document.specs.Private.PathRules.{is_inside, name_character, name_characters}
use Rattle.jp_document.proofs.name_reader.characters.Given as goal

abbrev pub invariant-characters : goal.invariant-characters
invariant-characters l =
    read_rule name_characters l.initial.reader
    ≡ outcome_map (λ cs. string_bytes l.name ++ encode_utf8_all cs)
    (each (λ q. passes is_inside (head q)) (read_rule name_character) l.reader)

abbrev pub decreases-characters : goal.decreases-characters
decreases-characters l = length l.reader.rest
