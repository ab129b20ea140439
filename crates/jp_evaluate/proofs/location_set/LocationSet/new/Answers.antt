use Rattle.std.proofs.Common.{ap, false, ◌∙◌}
use Rattle.jp_evaluate.proofs.Walks.Locations.{has-none}
use Rattle.jp_evaluate.specs.declared.location_set.LocationSet.TheViews.{out-roll-LocationSet, roll-LocationSet}
use Rattle.jp_evaluate.proofs.location_set.LocationSet.new.Goals as goal

pub returns : goal.returns
returns c =
    let rolled = out-roll-LocationSet (record { here = false; inside = c.new.result }) in
    has-none (roll-LocationSet (record { here = false; inside = c.new.result }))
    (ap (λ f. f.here) rolled) (ap (λ f. f.inside.entries) rolled ∙ c.new.ensures.empty)
