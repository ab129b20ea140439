use Rattle.std.proofs.Common.{◌≡◌, ◌++◌, ◌-◌, suc, drop, length, string_bytes}
use Rattle.std.specs.List.{join_with_byte}
use Rattle.jp_reading.specs.Characters as char
use Rattle.jp_decimal.specs.Appended.{IsBegun}
use Rattle.jp_document.specs.Location.{entries}
use Rattle.jp_lent.specs.Private.Printing.{part_texts}
use Rattle.jp_lent.proofs.Parts.{parts_from}
use Rattle.jp_lent.proofs.Weights.{weight, weight_inside}
use Rattle.jp_lent.proofs.printing.+printing.Given as goal

abbrev pub decreases-push_value : goal.decreases-push_value
decreases-push_value g l = suc (weight (g.V.Lent.meaning l.value))

abbrev pub decreases-push_copy : goal.decreases-push_copy
decreases-push_copy g l = weight (g.V.Lent.meaning l.value)

abbrev pub decreases-push_enclosed : goal.decreases-push_enclosed
decreases-push_enclosed g l = suc (weight_inside (g.V.Lent.meaning l.value))

abbrev pub decreases-push_parts : goal.decreases-push_parts
decreases-push_parts g l = weight_inside (g.V.Lent.meaning l.value)

abbrev pub decreases-push_part : goal.decreases-push_part
decreases-push_part g l = suc (suc (weight (g.V.Lent.meaning l.part.1)))

-- what stands there is a beginning of the whole, and with the parts to come it is the whole
abbrev pub invariant-push_parts-loop-part : goal.invariant-push_parts-loop-part
invariant-push_parts-loop-part g l =
    let es = entries (g.V.Lent.meaning l.value) in
    record {
      whole : string_bytes l.out ++ parts_from l.position (part_texts (drop l.position es))
          ≡ string_bytes l.initial.out ++ join_with_byte char.comma (part_texts es);
      kept : IsBegun (string_bytes l.initial.out)
          (join_with_byte char.comma (part_texts es)) (string_bytes l.out);
    }

abbrev pub decreases-push_parts-loop-part : goal.decreases-push_parts-loop-part
decreases-push_parts-loop-part g l = length (entries (g.V.Lent.meaning l.value)) - l.position
