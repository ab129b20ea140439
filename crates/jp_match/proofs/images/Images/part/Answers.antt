use Rattle.std.proofs.Common.{◌∙◌}
use Rattle.jp_match.proofs.Sets.WholeAndPart.{part_reached}
use Rattle.jp_match.proofs.images.Images.part.Goals as goal

pub returns-clause-exact : goal.returns-clause-exact
returns-clause-exact c =
    let text = c.deref.ensures.value ∙ c.in_ok-text.ensures in
    let every = rw text at c.in_ok-start.ensures.every in
    let any = rw c.deref-2.ensures.value at c.is_any.ensures in
    let part = part_reached every (rw text at c.in_ok-offsets.ensures.found) in
    (λ h. part.0 (any.0 h), λ h. any.1 (part.1 h))
