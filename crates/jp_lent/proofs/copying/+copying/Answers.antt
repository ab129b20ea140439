use Rattle.std.proofs.Common.{◌≡◌, ◌<◌, ◌++◌, ◌∷◌, ◌∙◌, [], Some, suc, ap, arith, length, map, rules}
use Rattle.std.proofs.Common.{subst, sym, take}
use Rattle.std.specs.List.{slice_get}
use Rattle.std.proofs.lemmas.Option.{slice_get_within}
use Rattle.jp_document.specs.Location.{Step, entries}
use Rattle.jp_document.specs.Value.{Value, items_of, list, member_of, members_of, object, value_of}
use Rattle.jp_document.proofs.Descent.Nodes.{finished, grown}
use Rattle.jp_document.proofs.Values.{value_of-List, value_of-Members}
use Rattle.jp_lent.specs.Lending.{step_with}
use Rattle.jp_lent.specs.Private.Copying.{as_member}
use Rattle.jp_lent.proofs.Copies.{list-copied, made_at, none_at, object-copied}
use Rattle.jp_lent.proofs.Weights.{part_within, item_within}
use Rattle.jp_lent.proofs.copying.+copying.Goals as goal

-- ---- items

pub items-json_of-requires : goal.items-json_of-requires
items-json_of-requires g t c κs within =
    let es = entries (g.V.Lent.meaning c.args.value) in
    let last : c.len.result ≡ length c.parts.found.items = search rules in (
      item_within (g.V.Lent.meaning c.args.value) c.len.result t
          (step_with g.V.Lent.meaning c.in-Some.part) c.in-Some.ensures.entry c.decreases,
      within,
    )

pub items-parts-smaller : goal.items-parts-smaller
items-parts-smaller g t c =
    let es = entries (g.V.Lent.meaning c.args.value) in
    let e = step_with g.V.Lent.meaning c.in-Some.part in
    let last : c.len.result ≡ length c.parts.found.items = search rules in
    let within : c.len.result < length es =
    slice_get_within es c.len.result e (sym c.in-Some.ensures.entry) in
    let more : length c.push.new.self.items ≡ suc (length c.parts.found.items) = search rules in
    omega arith

pub items-parts-preserved : goal.items-parts-preserved
items-parts-preserved g t c =
    let es = entries (g.V.Lent.meaning c.args.value) in
    let e = step_with g.V.Lent.meaning c.in-Some.part in
    let xs = c.parts.found.items in
    let x = c.in_ok-item.item in
    let pushed : c.push.new.self.items ≡ xs ++ x ∷ [] = search rules in
    let last : c.len.result ≡ length xs = search rules in
    subst (λ ys. map value_of ys ≡ take (length ys) (map (λ (e : Step × Value). e.1) es)) (sym pushed)
    (grown value_of xs x (map (λ (e : Step × Value). e.1) es) c.parts.invariant
    (ap Some c.in_ok-item.ensures
    ∙ made_at (λ (e : Step × Value). e.1) es (length xs) e (c.in-Some.ensures.entry ∙ ap (slice_get es) last)))

pub items-returns : goal.items-returns
items-returns g t c =
    let es = entries (g.V.Lent.meaning c.args.value) in
    let xs = c.parts.found.items in
    let last : c.len.result ≡ length xs = search rules in
    finished value_of xs (map (λ (e : Step × Value). e.1) es) c.parts.invariant
    (none_at (λ (e : Step × Value). e.1) es (length xs) (c.in_default.ensures.entry ∙ ap (slice_get es) last))

-- ---- members

pub members-member-requires : goal.members-member-requires
members-member-requires g t c κs within =
    let es = entries (g.V.Lent.meaning c.args.value) in
    let last : c.len.result ≡ length c.parts.found.items = search rules in (
      part_within (g.V.Lent.meaning c.args.value) c.len.result t
          (step_with g.V.Lent.meaning c.in-Some.part) c.in-Some.ensures.entry c.decreases,
      within,
    )

pub members-parts-smaller : goal.members-parts-smaller
members-parts-smaller g t c =
    let es = entries (g.V.Lent.meaning c.args.value) in
    let e = step_with g.V.Lent.meaning c.in-Some.part in
    let last : c.len.result ≡ length c.parts.found.items = search rules in
    let within : c.len.result < length es =
    slice_get_within es c.len.result e (sym c.in-Some.ensures.entry) in
    let more : length c.push.new.self.items ≡ suc (length c.parts.found.items) = search rules in
    omega arith

pub members-parts-preserved : goal.members-parts-preserved
members-parts-preserved g t c =
    let es = entries (g.V.Lent.meaning c.args.value) in
    let e = step_with g.V.Lent.meaning c.in-Some.part in
    let xs = c.parts.found.items in
    let x = c.in_ok-member.member in
    let pushed : c.push.new.self.items ≡ xs ++ x ∷ [] = search rules in
    let last : c.len.result ≡ length xs = search rules in
    subst (λ ys. map member_of ys ≡ take (length ys) (map as_member es)) (sym pushed)
    (grown member_of xs x (map as_member es) c.parts.invariant
    (ap Some c.in_ok-member.ensures
    ∙ made_at as_member es (length xs) e (c.in-Some.ensures.entry ∙ ap (slice_get es) last)))

pub members-returns : goal.members-returns
members-returns g t c =
    let es = entries (g.V.Lent.meaning c.args.value) in
    let xs = c.parts.found.items in
    let last : c.len.result ≡ length xs = search rules in
    finished member_of xs (map as_member es) c.parts.invariant
    (none_at as_member es (length xs) (c.in_default.ensures.entry ∙ ap (slice_get es) last))

-- ---- values

pub json_of-returns-in_ok-items-in-List : goal.json_of-returns-in_ok-items-in-List
json_of-returns-in_ok-items-in-List g t c =
    value_of-List c.in_ok-items-in-List.field-0
    ∙ ap (λ vs. list (items_of vs)) c.in_ok-items-in-List.ensures
    ∙ list-copied (g.V.Lent.meaning c.args.value) c.in-List.ensures

pub json_of-returns-in_ok-members-in-Members : goal.json_of-returns-in_ok-members-in-Members
json_of-returns-in_ok-members-in-Members g t c =
    value_of-Members c.in_ok-members-in-Members.field-0
    ∙ ap (λ vs. object (members_of vs)) c.in_ok-members-in-Members.ensures
    ∙ object-copied (g.V.Lent.meaning c.args.value) c.in-Members.ensures
