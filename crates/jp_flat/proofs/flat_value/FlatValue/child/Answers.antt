use Rattle.std.proofs.Common.{◌≡◌, Some, None, true, option_map, sym, ap, subst, ◌∙◌, rules}
use Rattle.std.specs.List.{slice_get}
use Rattle.jp_document.specs.Location.{entries, nth}
use Rattle.jp_flat.specs.Flat.{is_flat, meaning, shown}
use Rattle.jp_flat.specs.FlatValue.{flat_entry}
use Rattle.jp_flat.specs.Private.Parts.{item_at}
use Rattle.jp_flat.proofs.Inside.{item-sound, leaf-entries, list-entry}
use Rattle.jp_flat.proofs.flat_value.FlatValue.child.Goals as goal

pub returns-in_ok-item-in-List-clause-entry : goal.returns-in_ok-item-in-List-clause-entry
returns-in_ok-item-in-List-clause-entry c =
    let t = shown c.args.self.tables.now in
    let e = c.in-List.is in
    let k = c.args.position in
    let i = c.in_ok-item-in-List.item in
    let there : Some i ≡ item_at t c.in-List.span k = c.in_ok-item-in-List.ensures.item in
    ap (option_map (λ j. (nth k, meaning t j))) there
    ∙ list-entry t c.in-List.span k (subst (λ j. is_flat t j ≡ true) e c.args.self.sound)
    ∙ ap (λ j. slice_get (entries (meaning t j)) k) (sym e)

pub returns-in_err-item-in-List-clause-entry : goal.returns-in_err-item-in-List-clause-entry
returns-in_err-item-in-List-clause-entry c =
    let t = shown c.args.self.tables.now in
    let e = c.in-List.is in
    let k = c.args.position in
    let there : None ≡ item_at t c.in-List.span k = search rules in
    ap (option_map flat_entry) c.from_residual.ensures
    ∙ ap (option_map (λ j. (nth k, meaning t j))) there
    ∙ list-entry t c.in-List.span k (subst (λ j. is_flat t j ≡ true) e c.args.self.sound)
    ∙ ap (λ j. slice_get (entries (meaning t j)) k) (sym e)

pub invariant_of-result : goal.invariant_of-result
invariant_of-result c =
    let t = shown c.args.self.tables.now in
    record {
      sound = item-sound t c.in-List.span c.args.position c.in_ok-item-in-List.item
          (subst (λ j. is_flat t j ≡ true) c.in-List.is c.args.self.sound)
          (sym c.in_ok-item-in-List.ensures.item);
    }

pub returns-in-Members-clause-entry : goal.returns-in-Members-clause-entry
returns-in-Members-clause-entry c =
    let t = shown c.args.self.tables.now in
    c.member_entry.ensures.entry
    ∙ ap (λ j. slice_get (entries (meaning t j)) c.args.position) (sym c.in-Members.is)

pub returns-in-Null : goal.returns-in-Null
returns-in-Null c =
    record {
      entry =
          sym
          (ap (λ es. slice_get es c.args.position)
          (leaf-entries (shown c.args.self.tables.now) c.args.self.item c.args.self.sound
          c.in-Null.is));
      more = tt;
    }
