use Rattle.std.proofs.Common.{ℕ, ◌++◌, sym, ap, ◌∙◌}
use Rattle.std.specs.Str.{chars}
use Rattle.std.specs.String.{string_bytes}
use Rattle.std.proofs.lemmas.Str.{chars-nil}
use Rattle.jp_query.proofs.Readers.Exits.{err_is}
use Rattle.jp_reading.specs.Outcome.{passes, head}
use Rattle.jp_reading.specs.Views.{with_prefix}
use Rattle.jp_reading.proofs.States.Progress.{moved}
use Rattle.jp_reading.proofs.States.Folds.{with_prefix-nil, pushes_on, pushes_end, folds_fail}
use Rattle.jp_query.specs.Private.Rules.{nesting, characters, string_character, begins_character}
use Rattle.jp_query.specs.Private.Reading.{read_flat}
use Rattle.jp_reading.specs.RuleReading.{nothing}
use Rattle.jp_reading.proofs.States.Progress.{Progress}
use Rattle.jp_reading.proofs.Rules.Progress.{goes}
use Rattle.jp_query.proofs.strings.characters.Goals as goal

-- each leaves a shorter text
character-progress : (quote : ℕ) → Progress (read_flat (string_character quote))
character-progress quote p = goes (nothing nesting) (λ o q. tt) (string_character quote) p

pub characters-init : goal.characters-init
characters-init c =
    ap (λ t. with_prefix t (read_flat (characters c.args.quote) c.args.reader.now))
    (ap chars c.new-text.ensures.bytes ∙ chars-nil)
    ∙ with_prefix-nil (read_flat (characters c.args.quote) c.args.reader.now)

pub returns-in_err-next : goal.returns-in_err-next
unfolding characters
returns-in_err-next c =
    let text = chars (string_bytes c.characters.text) in
    rw (err_is c.from_residual.result c.from_residual.ensures.1, ← c.characters.invariant)
    (folds_fail (λ q. passes (begins_character c.args.quote) (head q))
    (read_flat (string_character c.args.quote)) (character-progress c.args.quote) (λ ys. text ++ ys)
    c.characters.reader c.in_err-next.field-0.0
    (sym c.is_at_character.ensures ∙ c.characters-test.true) c.in_err-next.ensures)

pub characters-smaller : goal.characters-smaller
characters-smaller c =
    moved (read_flat (string_character c.args.quote))
    (character-progress c.args.quote) c.characters.reader c.character.new.reader c.in_ok-next.next
    c.in_ok-next.ensures

pub characters-preserved : goal.characters-preserved
unfolding characters
characters-preserved c =
    let text = chars (string_bytes c.characters.text) in
    let step = pushes_on (λ q. passes (begins_character c.args.quote) (head q))
    (read_flat (string_character c.args.quote)) (character-progress c.args.quote) text
    c.characters.reader c.character.new.reader c.in_ok-next.next
    (sym c.is_at_character.ensures ∙ c.characters-test.true) c.in_ok-next.ensures in
    rw (c.in_ok-append_char.ensures, ← step) c.characters.invariant

pub returns : goal.returns
unfolding characters
returns c =
    sym c.characters.invariant ∙ pushes_end (λ q. passes (begins_character c.args.quote) (head q))
    (read_flat (string_character c.args.quote))
    (chars (string_bytes c.characters.text)) c.characters.reader
    (sym c.is_at_character.ensures ∙ c.characters-test.false)
