use Rattle.std.proofs.Common.{◌++◌, string_bytes, refl, sym, ap, ◌∙◌, append_assoc, append-nil}
use Rattle.std.proofs.lemmas.Result.{err_from_is_err_and}
use Rattle.std.specs.Char.{encode_utf8}
use Rattle.std.specs.Str.{encode_utf8_all}
use Rattle.jp_reading.specs.Outcome.{took, head, passes}
use Rattle.jp_reading.proofs.States.Folds.{folds_on, folds_end, folds_fail}
use Rattle.jp_reading.proofs.States.Progress.{moved}
use Rattle.jp_document.specs.Private.PathReading.{read_rule}
use Rattle.jp_document.specs.Private.PathRules.{is_inside, name_character, name_characters}
use Rattle.jp_document.proofs.Paths.Progress.{path_rule-progress}
use Rattle.jp_document.proofs.name_reader.characters.Goals as goal

pub characters-init : goal.characters-init
unfolding name_characters
characters-init c = sym (rw c.new-name.ensures.bytes refl)

pub returns-in_err-next : goal.returns-in_err-next
returns-in_err-next c =
    let p = err_from_is_err_and c.from_residual.result c.from_residual.ensures.1 in
    rw (p.1, p.2, c.characters.invariant)
    (folds_fail (λ q. passes is_inside (head q)) (read_rule name_character)
    (path_rule-progress name_character)
    (λ cs. string_bytes c.characters.name ++ encode_utf8_all cs) c.characters.reader
    c.in_err-next.field-0.0 (sym c.is_at_one_of.ensures ∙ c.characters-test.true)
    c.in_err-next.ensures)

pub characters-smaller : goal.characters-smaller
characters-smaller c =
    moved (read_rule name_character) (path_rule-progress name_character) c.characters.reader
    c.character.new.reader
    c.in_ok-next.next c.in_ok-next.ensures

pub characters-preserved : goal.characters-preserved
characters-preserved c =
    c.characters.invariant
    ∙ folds_on (λ q. passes is_inside (head q)) (read_rule name_character)
    (path_rule-progress name_character)
    (λ cs. string_bytes c.characters.name ++ encode_utf8_all cs)
    (λ cs. string_bytes c.push.new.self ++ encode_utf8_all cs) c.characters.reader
    c.character.new.reader c.in_ok-next.next
    (sym c.is_at_one_of.ensures ∙ c.characters-test.true) c.in_ok-next.ensures
    (λ cs. rw c.in_ok-push.ensures.bytes
    (sym
    (append_assoc (string_bytes c.characters.name) (encode_utf8 c.in_ok-next.next)
    (encode_utf8_all cs))))

pub returns : goal.returns
returns c =
    c.characters.invariant
    ∙ folds_end (λ q. passes is_inside (head q)) (read_rule name_character)
    (λ cs. string_bytes c.characters.name ++ encode_utf8_all cs)
    c.characters.reader (sym c.is_at_one_of.ensures ∙ c.characters-test.false)
    ∙ ap (λ s. took s c.characters.reader) (append-nil (string_bytes c.characters.name))
