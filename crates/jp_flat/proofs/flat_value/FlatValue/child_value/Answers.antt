use Rattle.std.proofs.Common.{◌≡◌, ℕ, Option, Some, None, true, option_map, refl, sym, ap, subst, ◌∙◌, rules}
use Rattle.std.specs.List.{slice_get}
use Rattle.jp_document.specs.Location.{Step, entries, nth}
use Rattle.jp_document.specs.Value.{Value}
use Rattle.jp_lent.specs.Lending.{entry_value}
use Rattle.jp_flat.specs.Flat.{Shown, is_flat, meaning, shown}
use Rattle.jp_flat.specs.FlatValue.{lent_flat}
use Rattle.jp_flat.specs.Private.Parts.{item_at, member_at}
use Rattle.jp_flat.specs.declared.item.Item.TheVariants.{List, Members}
use Rattle.jp_flat.specs.declared.item.Span.{Span}
use Rattle.jp_flat.proofs.Inside.{item-sound, leaf-entries, list-entry, member-sound, member_entry, object-entry}
use Rattle.jp_flat.proofs.flat_value.FlatValue.child_value.Goals as goal

-- of a part that is there, or not, the value without the step
without-step : {A : Type 0} (f : A → Step × Value) (o : Option A)
    → option_map (λ a. entry_value (f a)) o ≡ option_map entry_value (option_map f o)
without-step f None = refl
without-step f (Some a) = refl

item-value : (t : Shown) (s : Span) (k : ℕ) → is_flat t (List s) ≡ true
    → option_map (meaning t) (item_at t s k) ≡ option_map entry_value (slice_get (entries (meaning t (List s))) k)
item-value t s k sound =
    without-step (λ j. (nth k, meaning t j)) (item_at t s k) ∙ ap (option_map entry_value) (list-entry t s k sound)

member-value : (t : Shown) (s : Span) (k : ℕ) → is_flat t (Members s) ≡ true
    → option_map (λ m. meaning t m.item) (member_at t s k)
    ≡ option_map entry_value (slice_get (entries (meaning t (Members s))) k)
member-value t s k sound =
    without-step (member_entry t) (member_at t s k) ∙ ap (option_map entry_value) (object-entry t s k sound)

pub returns-in_ok-item-in-List-clause-value : goal.returns-in_ok-item-in-List-clause-value
returns-in_ok-item-in-List-clause-value c =
    let t = shown c.args.self.tables.now in
    let e = c.in-List.is in
    let k = c.args.position in
    let there : Some c.in_ok-item-in-List.item ≡ item_at t c.in-List.span k = c.in_ok-item-in-List.ensures.item in
    ap (option_map (meaning t)) there
    ∙ item-value t c.in-List.span k (subst (λ j. is_flat t j ≡ true) e c.args.self.sound)
    ∙ ap (λ j. option_map entry_value (slice_get (entries (meaning t j)) k)) (sym e)

pub returns-in_err-item-in-List-clause-value : goal.returns-in_err-item-in-List-clause-value
returns-in_err-item-in-List-clause-value c =
    let t = shown c.args.self.tables.now in
    let e = c.in-List.is in
    let k = c.args.position in
    let there : None ≡ item_at t c.in-List.span k = search rules in
    ap (option_map lent_flat) c.from_residual.ensures
    ∙ ap (option_map (meaning t)) there
    ∙ item-value t c.in-List.span k (subst (λ j. is_flat t j ≡ true) e c.args.self.sound)
    ∙ ap (λ j. option_map entry_value (slice_get (entries (meaning t j)) k)) (sym e)

pub invariant_of-result : goal.invariant_of-result
invariant_of-result c =
    let t = shown c.args.self.tables.now in
    record {
      sound = item-sound t c.in-List.span c.args.position c.in_ok-item-in-List.item
          (subst (λ j. is_flat t j ≡ true) c.in-List.is c.args.self.sound)
          (sym c.in_ok-item-in-List.ensures.item);
    }

pub returns-in_ok-item-in-Members-clause-value : goal.returns-in_ok-item-in-Members-clause-value
returns-in_ok-item-in-Members-clause-value c =
    let t = shown c.args.self.tables.now in
    let e = c.in-Members.is in
    let k = c.args.position in
    let m = c.in_ok-item-in-Members.field-0 in
    let there : Some m ≡ member_at t c.in-Members.span k = c.in_ok-item-in-Members.ensures.member in
    ap (option_map (λ n. meaning t n.item)) there
    ∙ member-value t c.in-Members.span k (subst (λ j. is_flat t j ≡ true) e c.args.self.sound)
    ∙ ap (λ j. option_map entry_value (slice_get (entries (meaning t j)) k)) (sym e)

pub returns-in_err-item-in-Members-clause-value : goal.returns-in_err-item-in-Members-clause-value
returns-in_err-item-in-Members-clause-value c =
    let t = shown c.args.self.tables.now in
    let e = c.in-Members.is in
    let k = c.args.position in
    let there : None ≡ member_at t c.in-Members.span k = search rules in
    ap (option_map lent_flat) c.from_residual-in_err-item-in-Members.ensures
    ∙ ap (option_map (λ n. meaning t n.item)) there
    ∙ member-value t c.in-Members.span k (subst (λ j. is_flat t j ≡ true) e c.args.self.sound)
    ∙ ap (λ j. option_map entry_value (slice_get (entries (meaning t j)) k)) (sym e)

pub invariant_of-result-in-Members : goal.invariant_of-result-in-Members
invariant_of-result-in-Members c =
    let t = shown c.args.self.tables.now in
    record {
      sound = member-sound t c.in-Members.span c.args.position c.in_ok-item-in-Members.field-0
          (subst (λ j. is_flat t j ≡ true) c.in-Members.is c.args.self.sound)
          (sym c.in_ok-item-in-Members.ensures.member);
    }

pub returns-in-Null : goal.returns-in-Null
returns-in-Null c =
    record {
      value =
          sym
          (ap (λ es. option_map entry_value (slice_get es c.args.position))
          (leaf-entries (shown c.args.self.tables.now) c.args.self.item c.args.self.sound
          c.in-Null.is));
      more = tt;
    }
