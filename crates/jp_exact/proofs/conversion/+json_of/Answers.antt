use Rattle.std.proofs.Common.{◌≡◌, ◌+◌, ◌<◌, [], ◌∷◌, ◌++◌, IfErr, append-nil, get_or, length, drop, map}
use Rattle.std.proofs.Common.{string_bytes, sym, ap, ap₂, ◌∙◌, subst, arith, rules}
use Rattle.std.specs.List.{AllByRecursion, slice_get}
use Rattle.std.proofs.lemmas.List.{drop_all, length-map}
use Rattle.json.specs.Json as json
use Rattle.json.specs.Value.{items_view, members_view, value_view}
use Rattle.json.proofs.Trees.{view-Object}
use Rattle.jp_document.specs.Location.{named, nth}
use Rattle.jp_document.specs.Value.{items_of, list, member_of, members_of, object, value_of}
use Rattle.jp_document.specs.declared.value.Member.{Member}
use Rattle.jp_document.specs.declared.location.OwnedStep.TheVariants.{Name, Index}
use Rattle.jp_document.proofs.Readings.ListsFit.{items_fit_more, members_fit_more}
use Rattle.jp_document.proofs.Values.{member_of_is, value_of-Members}
use Rattle.jp_exact.specs.Defects.{IsFirstUnheld}
use Rattle.jp_exact.specs.Private.ExactValue.{StandsBefore, items_in, member_there, members_in}
use Rattle.jp_exact.specs.Private.ExactValue.{value_in, value_of_member}
use Rattle.jp_exact.specs.Private.RangeFault.{IsRangeFaultOf}
use Rattle.jp_exact.proofs.Converted.{item_value, items-stop, items_held-more, items_in-view}
use Rattle.jp_exact.proofs.Converted.{members-stop, members_held-more, next-item, seen-more}
use Rattle.jp_exact.proofs.Faults.{range_fault-within}
use Rattle.jp_exact.proofs.LastMembers.{there-at}
use Rattle.jp_exact.proofs.Validity.{value-rises}
use Rattle.jp_exact.proofs.conversion.+json_of.Goals as goal

-- ---- items

pub json_items-loop-item-preserved : goal.json_items-loop-item-preserved
json_items-loop-item-preserved t c =
    let l = c.loop-item in
    let xs = c.args.items.now in
    let i = l.item-index in
    let x = c.item-item.result in
    let done = l.found.items in
    let more = c.push.new.self.items in
    let j = c.in-Ok.json in
    let within : i < length xs = omega (arith, c.loop-item-test.true) in
    let pushed : more ≡ done ++ j ∷ [] = search rules in (
      seen-more value_of done more j (item_value x) (map item_value (drop (i + 1) xs))
          (map item_value xs) pushed c.in-Ok.ensures.value
          (ap (λ ys. map value_of done ++ ys) (sym (next-item xs i x within c.item-item.is))
          ∙ l.invariant.0),
      items_held-more done more j pushed l.invariant.1 c.in-Ok.ensures.held,
      items_fit_more done more j l.fits c.json_of.new.fits c.args.fits.now pushed l.invariant.2
          c.in-Ok.ensures.fits,
    )

pub json_items-returns-in-Err-clause-fault : goal.json_items-returns-in-Err-clause-fault
json_items-returns-in-Err-clause-fault t c =
    let l = c.loop-item in
    let xs = c.args.items.now in
    let i = l.item-index in
    let x = c.item-item.result in
    let done = l.found.items in
    let rest = map item_value (drop (i + 1) xs) in
    let all = list (items_in (items_view xs)) in
    let within : i < length xs = omega (arith, c.loop-item-test.true) in
    let index : length done ≡ c.len.result = search rules in
    let cut : all ≡ list (items_of (map value_of done ++ item_value x ∷ rest)) =
    ap list
    (items_in-view xs
    ∙ ap items_of
    (sym
    (ap (λ ys. map value_of done ++ ys) (sym (next-item xs i x within c.item-item.is))
    ∙ l.invariant.0))) in
    range_fault-within (item_value x) all c.in-Err.fault c.within.result (Index c.len.result)
    (λ k first. subst (λ n. IsFirstUnheld all (nth n ∷ k)) (length-map done value_of ∙ index)
    (items-stop (map value_of done) (item_value x) rest all k cut
    (value-rises (json.array (items_view xs))) l.invariant.1 first))
    c.in-Err.ensures.fault c.within.ensures

pub json_items-returns-clause-value : goal.json_items-returns-clause-value
json_items-returns-clause-value t c =
    let l = c.loop-item in
    let xs = c.args.items.now in
    let done = l.found.items in
    let none : drop l.item-index xs ≡ [] =
    drop_all l.item-index xs (omega (arith, c.loop-item-test.false)) in
    ap items_of
    (sym (append-nil (map value_of done))
    ∙ ap (λ ys. map value_of done ++ map item_value ys) (sym none) ∙ l.invariant.0)
    ∙ sym (items_in-view xs)

-- ---- members

pub json_members-loop-name-preserved : goal.json_members-loop-name-preserved
json_members-loop-name-preserved t c =
    let l = c.loop-name in
    let ms = c.args.members.now in
    let k = c.in-Some.name in
    let i = c.in-Some.index in
    let done = l.found.items in
    let more = c.push.new.self.items in
    let rest = c.next.new.self in
    let m : Member = record { name = c.in_ok-name.name; value = c.in-Ok.value } in
    let step : l.name-iterator ≡ (k, i) ∷ rest = search rules in
    let pushed : more ≡ done ++ m ∷ [] = search rules in
    let before = subst (AllByRecursion (StandsBefore (length ms))) step l.invariant.1 in
    let name : string_bytes c.in_ok-name.name ≡ k.now = search rules in
    let value : value_of c.in-Ok.value ≡ value_of_member (slice_get ms i) =
    c.in-Ok.ensures.value ∙ sym (there-at ms i c.index-members-index.result before.0) in
    let same : member_of m ≡ member_there ms (k, i) =
    member_of_is m ∙ ap₂ (λ a b. (a, b)) name value in
    let second : (member_of m).1 ≡ value_of c.in-Ok.value = ap (λ p. p.1) (member_of_is m) in (
      seen-more member_of done more m (member_there ms (k, i)) (map (member_there ms) rest)
          (members_in (members_view ms) []) pushed same
          (ap (λ es. map member_of done ++ map (member_there ms) es) (sym step) ∙ l.invariant.0),
      before.1,
      members_held-more done more m (value_of c.in-Ok.value) pushed second l.invariant.2
          c.in-Ok.ensures.held,
      members_fit_more done more m (value_of c.in-Ok.value) l.fits c.json_of.new.fits
          c.args.fits.now pushed second l.invariant.3 c.in-Ok.ensures.fits,
    )

pub json_members-returns-in-Err-clause-fault : goal.json_members-returns-in-Err-clause-fault
json_members-returns-in-Err-clause-fault t c =
    let l = c.loop-name in
    let ms = c.args.members.now in
    let k = c.in-Some.name in
    let i = c.in-Some.index in
    let e = get_or ms i c.index-members-index.result in
    let v = value_in (value_view e.1) in
    let done = l.found.items in
    let rest = map (member_there ms) c.next.new.self in
    let all = object (members_of (members_in (members_view ms) [])) in
    let step : l.name-iterator ≡ (k, i) ∷ c.next.new.self = search rules in
    let before = subst (AllByRecursion (StandsBefore (length ms))) step l.invariant.1 in
    let name : string_bytes c.in_ok-name.name ≡ k.now = search rules in
    let cut : all ≡ object (members_of (map member_of done ++ (k.now, v) ∷ rest)) =
    ap (λ es. object (members_of es))
    (sym
    (ap (λ w. map member_of done ++ (k.now, w) ∷ rest)
    (sym (there-at ms i c.index-members-index.result before.0))
    ∙ ap (λ es. map member_of done ++ map (member_there ms) es) (sym step) ∙ l.invariant.0)) in
    range_fault-within v all c.in-Err.fault c.within.result (Name c.in_ok-name.name)
    (λ p first. subst (λ n. IsFirstUnheld all (named n ∷ p)) (sym name)
    (members-stop (map member_of done) k.now v rest all p cut
    (value-rises (json.object (members_view ms))) l.invariant.2 first))
    c.in-Err.ensures.fault c.within.ensures

-- ---- an object

pub json_of-returns-in_err-json_members-in-Object-clause-fault :
    goal.json_of-returns-in_err-json_members-in-Object-clause-fault
json_of-returns-in_err-json_members-in-Object-clause-fault t c =
    let ms = c.as_slice-in-Object.result.now in
    let all = object (members_of (members_in (members_view ms) [])) in
    let answer = c.from_residual-in_err-json_members-in-Object.result in
    let same : all ≡ value_in (value_view c.args.value.now) =
    ap (λ xs. value_in (json.object (members_view xs))) c.as_slice-in-Object.ensures.value
    ∙ sym (ap value_in (ap value_view c.in-Object.is ∙ view-Object c.in-Object.members)) in
    let inside : IfErr answer (IsRangeFaultOf all) = search rules in
    subst (λ v. IfErr answer (IsRangeFaultOf v)) same inside

pub json_of-returns-in_ok-json_members-in-Object-clause-value :
    goal.json_of-returns-in_ok-json_members-in-Object-clause-value
json_of-returns-in_ok-json_members-in-Object-clause-value t c =
    let found = c.in_ok-json_members-in-Object.field-0 in
    value_of-Members found
    ∙ ap (λ es. object (members_of es)) c.in_ok-json_members-in-Object.ensures.value
    ∙ ap (λ xs. value_in (json.object (members_view xs))) c.as_slice-in-Object.ensures.value
    ∙ sym (ap value_in (ap value_view c.in-Object.is ∙ view-Object c.in-Object.members))
