use Rattle.std.proofs.Common.{◌≡◌, ◌∷◌, [], ◌++◌, ap, sym, ◌∙◌}
use Rattle.jp_match.specs.Private.Rows.{parts_of}
use Rattle.jp_match.proofs.Patterns.Variants.{either_is, sequence_is, repeat_is}
use Rattle.jp_match.proofs.Sets.Rowwise.{parts_branches, parts_pieces, known_as, known_only}
use Rattle.jp_match.proofs.Sets.Searching.{finds_as}
use Rattle.jp_match.proofs.relations.+relations.Goals as goal

pub known_parts-returns-in-Either : goal.known_parts-returns-in-Either
known_parts-returns-in-Either t c =
    let is = either_is _ _ _ c.in-Either.is c.deref.ensures.value in
    finds_as (λ known. known_as (sym (ap parts_of is.same ∙ parts_branches _))) c.each_known.ensures

pub known_parts-returns-in-Sequence : goal.known_parts-returns-in-Sequence
known_parts-returns-in-Sequence t c =
    let is = sequence_is _ _ _ c.in-Sequence.is c.deref-in-Sequence.ensures.value in
    finds_as (λ known. known_as (sym (ap parts_of is.same ∙ parts_pieces _)))
    c.each_known-in-Sequence.ensures

pub known_parts-returns-in_ok-push-in-Repeat : goal.known_parts-returns-in_ok-push-in-Repeat
known_parts-returns-in_ok-push-in-Repeat t c =
    let is = repeat_is _ _ _ _ _ c.in-Repeat.is c.deref-in-Repeat.ensures in
    let rows = c.in_ok-known_rows-in-Repeat.ensures in
    let items : c.push.new.self.items ≡ c.in_ok-known_rows-in-Repeat.field-0 ∷ [] =
    c.in_ok-push-in-Repeat.ensures.items ∙ ap (λ known. known ++
    c.in_ok-known_rows-in-Repeat.field-0 ∷ []) c.new-known.ensures.items in
    record {
      found = rw items (known_as (sym (ap parts_of is.same)) (known_only rows.found));
      kept = rows.kept;
    }
