use Rattle.std.proofs.Common.{sym, ◌∙◌, ◌++◌}
use Rattle.std.specs.Str.{chars}
use Rattle.std.specs.String.{string_bytes}
use Rattle.jp_reading.specs.Outcome.{passes, head, take_if}
use Rattle.jp_reading.proofs.States.Progress.{moves-take_if, moved}
use Rattle.jp_reading.proofs.States.Folds.{pushes_on, pushes_end, folds_fail}
use Rattle.jp_query.specs.Private.NameCharacters.{is_one_of}
use Rattle.jp_query.proofs.Readers.Exits.{err_is}
use Rattle.jp_query.proofs.names.name_from.Goals as goal

pub returns-in_err-next : goal.returns-in_err-next
returns-in_err-next c =
    let ok = is_one_of c.args.class in
    let text = chars (string_bytes c.characters.text) in
    rw (err_is c.from_residual.result c.from_residual.ensures.1, ← c.characters.invariant)
    (folds_fail (λ q. passes ok (head q)) (take_if ok) (moves-take_if ok) (λ ys. text ++ ys)
    c.characters.reader c.in_err-next.field-0.0
    (sym c.is_at_one_of.ensures ∙ c.characters-test.true) c.in_err-next.ensures.taken)

pub characters-smaller : goal.characters-smaller
characters-smaller c =
    let ok = is_one_of c.args.class in
    moved (take_if ok) (moves-take_if ok) c.characters.reader c.take_one_of.new.self
    c.in_ok-next.next c.in_ok-next.ensures.taken

pub characters-preserved : goal.characters-preserved
characters-preserved c =
    let ok = is_one_of c.args.class in
    rw (
      c.in_ok-append_char.ensures,
      ← pushes_on (λ q. passes ok (head q)) (take_if ok)
          (moves-take_if ok) (chars (string_bytes c.characters.text)) c.characters.reader
          c.take_one_of.new.self c.in_ok-next.next
          (sym c.is_at_one_of.ensures ∙ c.characters-test.true) c.in_ok-next.ensures.taken,
    )
    c.characters.invariant

pub returns : goal.returns
returns c =
    let ok = is_one_of c.args.class in
    sym c.characters.invariant
    ∙ pushes_end (λ q. passes ok (head q)) (take_if ok) (chars (string_bytes c.characters.text))
    c.characters.reader (sym c.is_at_one_of.ensures ∙ c.characters-test.false)
