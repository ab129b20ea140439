use Rattle.std.proofs.Common.{◌≡◌, ◌++◌, ◌∷◌, [], ap, ◌∙◌}
use Rattle.std.specs.Str.{chars}
use Rattle.std.specs.String.{string_bytes}
use Rattle.std.proofs.lemmas.Str.{chars-nil}
use Rattle.jp_query.specs.Private.Rules.{shorthand}
use Rattle.jp_query.proofs.names.shorthand.Goals as goal

pub returns : goal.returns
unfolding shorthand
returns c =
    let first = c.in_ok-first.first in
    let one : chars (string_bytes c.append_char.new.text) ≡ first ∷ [] =
    c.in_ok-append_char.ensures
    ∙ ap (λ w. w ++ first ∷ []) (ap chars c.new-name.ensures.bytes ∙ chars-nil) in
    rw c.in_ok-first.ensures.taken (rw one at c.name_from.ensures)
