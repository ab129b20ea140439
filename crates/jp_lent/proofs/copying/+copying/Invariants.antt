use Rattle.std.proofs.Common.{◌≡◌, ◌-◌, suc, length, map, take}
use Rattle.jp_document.specs.Location.{entries}
use Rattle.jp_document.specs.Value.{member_of, value_of}
use Rattle.jp_lent.specs.Private.Copying.{as_member}
use Rattle.jp_lent.proofs.Weights.{weight, weight_inside}
use Rattle.jp_lent.proofs.copying.+copying.Given as goal

abbrev pub decreases-json_of : goal.decreases-json_of
decreases-json_of g l = weight (g.V.Lent.meaning l.value)

abbrev pub decreases-items : goal.decreases-items
decreases-items g l = weight_inside (g.V.Lent.meaning l.value)

abbrev pub decreases-members : goal.decreases-members
decreases-members g l = weight_inside (g.V.Lent.meaning l.value)

abbrev pub decreases-member : goal.decreases-member
decreases-member g l = suc (weight (g.V.Lent.meaning l.part.1))

-- the values so far
abbrev pub invariant-items-parts : goal.invariant-items-parts
invariant-items-parts g l =
    map value_of l.found.items
    ≡ take (length l.found.items) (map (λ e. e.1) (entries (g.V.Lent.meaning l.value)))

abbrev pub decreases-items-parts : goal.decreases-items-parts
decreases-items-parts g l = length (entries (g.V.Lent.meaning l.value)) - length l.found.items

abbrev pub invariant-members-parts : goal.invariant-members-parts
invariant-members-parts g l =
    map member_of l.found.items
    ≡ take (length l.found.items) (map as_member (entries (g.V.Lent.meaning l.value)))

abbrev pub decreases-members-parts : goal.decreases-members-parts
decreases-members-parts g l = length (entries (g.V.Lent.meaning l.value)) - length l.found.items
