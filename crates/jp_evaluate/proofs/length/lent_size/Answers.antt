use Rattle.std.proofs.Common.{inl, inr, ap, sym, ◌∙◌}
use Rattle.jp_lent.specs.Lending.{seen_value}
use Rattle.jp_evaluate.proofs.Parts.Lengths.{list_size, object_size}
use Rattle.jp_evaluate.proofs.length.lent_size.Goals as goal

pub returns-in-List : goal.returns-in-List
returns-in-List g c =
    let v = g.V.Lent.meaning c.args.value in
    elim c.in-List.is [
      | inl is ↦ list_size v c.count.result (sym (ap seen_value is) ∙ c.seen.ensures) c.count.ensures
      | inr is ↦ object_size v c.count.result (sym (ap seen_value is) ∙ c.seen.ensures) c.count.ensures
    ]
