use Rattle.std.proofs.Common.{◌≡◌, List, [], ◌∷◌, Option, Some, ap, cond, length, map, not, refl, subst, sym, true, ◌∙◌}
use Rattle.std.specs.BTreeMap.{get_by, is_at}
use Rattle.std.specs.Option.{IsSome}
use Rattle.std.specs.Result.{IfOk, OnOk}
use Rattle.std.specs.declared.result.Result.{Result}
use Rattle.std.specs.declared.result.Result.TheVariants.{Ok, Err}
use Rattle.jp_document.specs.Location.{step_of}
use Rattle.jp_document.specs.contracts.location.StepOrd.TheImpl.{ghosts as steps}
use Rattle.jp_document.specs.declared.location.Step as code
use Rattle.jp_evaluate.proofs.Walks.Locations.{has-absent, has-found, has-here, has-put}
use Rattle.jp_evaluate.specs.Private.LocationSet.{has}
use Rattle.jp_evaluate.specs.declared.location_set.LocationSet.{LocationSet, out-LocationSet}
use Rattle.jp_evaluate.specs.declared.location_set.LocationSet.TheViews.{out-roll-LocationSet, roll-LocationSet}
use Rattle.jp_evaluate.proofs.location_set.LocationSet.+insert.Goals as goal

none-of : (xs : List code.Step) → length xs ≡ 0 → map step_of xs ≡ []
none-of [] none = refl
none-of (x ∷ xs) none = cc

if-ok : {A E : Type 0} {P Q : A → Type 0} (r : Result A E) → ((x : A) → P x → Q x) → IfOk r P → IfOk r Q
if-ok (Ok x) more told = more x told
if-ok (Err e) more told = tt

on-ok : {A E : Type 0} {P Q : Type 0} (r : Result A E) → (P → Q) → OnOk r P → OnOk r Q
on-ok (Ok x) more told = more told
on-ok (Err e) more told = tt

pub returns-in_default-clause-more : goal.returns-in_default-clause-more
returns-in_default-clause-more t c =
    let s = out-LocationSet c.args.self.now in
    let rolled = out-roll-LocationSet (record s { here = true }) in
    has-here c.args.self.now (roll-LocationSet (record s { here = true })) (map step_of c.args.location.now)
    (none-of c.args.location.now c.in_default.ensures.cases) (ap (λ f. f.here) rolled) (ap (λ f. f.inside) rolled)

pub returns-in-Some-get_mut-clause-new : goal.returns-in-Some-get_mut-clause-new
returns-in-Some-get_mut-clause-new t c =
    let k = c.in-Some.step.now in
    let rest = map step_of c.in-Some.rest.now in
    let at = ap (map step_of) c.in-Some.ensures.cases.0 in
    let found = has-found c.args.self.now c.in-Some-get_mut.inside.now k c.in-Some-get_mut.ensures.value rest in
    if-ok c.insert.result (λ new is. is ∙ ap not (sym found) ∙ ap (λ l. not (has c.args.self.now l)) (sym at))
    c.insert.ensures.new

pub returns-in-Some-get_mut-clause-more : goal.returns-in-Some-get_mut-clause-more
returns-in-Some-get_mut-clause-more t c =
    let s = out-LocationSet c.args.self.now in
    let k = c.in-Some.step.now in
    let v = c.insert.new.self in
    let after = c.get_mut.follows.lender v in
    let rolled = out-roll-LocationSet (record s { inside = after }) in
    on-ok c.insert.result
    (has-put c.args.self.now (roll-LocationSet (record s { inside = after })) c.in-Some-get_mut.inside.now v
    k (map step_of c.in-Some.rest.now) (map step_of c.args.location.now) after
    (ap (map step_of) c.in-Some.ensures.cases.0)
    (ap (λ f. f.here) rolled) (ap (λ f. f.inside) rolled) ((c.get_mut.follows.holds v).3
    (subst (λ (o : Option LocationSet). IsSome o) c.in-Some-get_mut.ensures.value refl)).0
    (has-found c.args.self.now c.in-Some-get_mut.inside.now k c.in-Some-get_mut.ensures.value))
    c.insert.ensures.more

pub returns-clause-new : goal.returns-clause-new
returns-clause-new t c =
    let k = c.in-Some.step.now in
    let rest = map step_of c.in-Some.rest.now in
    let at = ap (map step_of) c.in-Some.ensures.cases.0 in
    let absent = has-absent c.args.self.now k c.in_default-get_mut.ensures.value rest in
    c.in_ok-new.ensures.new ∙ ap not (c.new-inside.ensures rest)
    ∙ ap not (sym absent) ∙ ap (λ l. not (has c.args.self.now l)) (sym at)

pub returns-clause-more : goal.returns-clause-more
returns-clause-more t c =
    let s = out-LocationSet c.args.self.now in
    let k = c.in-Some.step.now in
    let same = out-roll-LocationSet (record s { inside = c.get_mut.follows.lender-at-none }) in
    let before = ap (λ f. f.inside) same ∙ c.get_mut.follows.holds-at-none in
    let after = record (out-LocationSet (roll-LocationSet (record s { inside = c.get_mut.follows.lender-at-none }))) { inside = c.insert-3.new.self } in
    let rolled = out-roll-LocationSet after in
    has-put c.args.self.now (roll-LocationSet after) c.new-inside.result c.insert-2.new.self
    k (map step_of c.in-Some.rest.now) (map step_of c.args.location.now) c.insert-3.new.self
    (ap (map step_of) c.in-Some.ensures.cases.0)
    (ap (λ f. f.here) rolled ∙ ap (λ f. f.here) same) (ap (λ f. f.inside) rolled)
    (λ q. c.in_ok-insert.ensures.updates.0 q
    ∙ ap (λ m. cond (is_at (steps.cmp k) q) (Some c.insert-2.new.self) (get_by (steps.cmp q) m)) before)
    (λ l. has-absent c.args.self.now k c.in_default-get_mut.ensures.value l ∙ sym (c.new-inside.ensures l))
    c.in_ok-new.ensures.more
