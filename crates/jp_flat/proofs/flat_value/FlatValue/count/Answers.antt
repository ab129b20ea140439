use Rattle.std.proofs.Common.{◌≡◌, true, sym, ap, subst, ◌∙◌, length, inl, inr}
use Rattle.jp_document.specs.Location.{entries}
use Rattle.jp_flat.specs.Flat.{is_flat, meaning, shown}
use Rattle.jp_flat.proofs.Inside.{leaf-entries, list-count, object-count}
use Rattle.jp_flat.proofs.flat_value.FlatValue.count.Goals as goal

pub returns-in-Null : goal.returns-in-Null
returns-in-Null c =
    sym (ap length (leaf-entries (shown c.args.self.tables.now) c.args.self.item c.args.self.sound
    c.in-Null.is))

pub returns-in-List : goal.returns-in-List
returns-in-List c =
    let t = shown c.args.self.tables.now in
    let p = c.in-List.span in
    elim c.in-List.is [
      | inl e ↦
          list-count t p (subst (λ i. is_flat t i ≡ true) e c.args.self.sound)
          ∙ ap (λ i. length (entries (meaning t i))) (sym e)
      | inr e ↦
          object-count t p (subst (λ i. is_flat t i ≡ true) e c.args.self.sound)
          ∙ ap (λ i. length (entries (meaning t i))) (sym e)
    ]
