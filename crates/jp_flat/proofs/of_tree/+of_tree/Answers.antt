use Rattle.std.proofs.Common.{◌≡◌, ◌++◌, ◌∷◌, ◌+◌, ◌∙◌, [], Some, ap, ap₂, arith, map, rules, string_bytes}
use Rattle.std.proofs.Common.{subst, true}
use denote.Param.Weighed.{at_most, most}
use mir.Val.{of_z, to_z}
use Rattle.std.specs.Int.{w128, w32}
use Rattle.std.specs.List.{list_all}
use Rattle.jp_decimal.specs.Number.{is_decimal}
use Rattle.jp_document.specs.declared.value.Json.TheViews.{size_is-Member, sized-List, sized-Members}
use Rattle.jp_document.proofs.value.Json.TheLaws.{the_size as value_size}
use Rattle.jp_document.proofs.value.Member.TheLaws.{the_size as member_size}
use Rattle.std.proofs.Common.{sym, take}
use Rattle.jp_document.specs.Value.{decimal, everywhere, is_allowed, member_of, value_of}
use Rattle.jp_document.proofs.Values.{member_of_is}
use Rattle.jp_flat.specs.Flat.{shown}
use Rattle.jp_flat.specs.declared.item.Named.{Named}
use Rattle.jp_flat.proofs.Leaves.{boolean_means, null_means, text_means}
use Rattle.jp_flat.proofs.Planted.{ItemsPut, MembersPut, boolean_is, items_one, members_one, null_is}
use Rattle.jp_flat.proofs.Planted.{decimal-allowed, decimal-is, items-allowed, members-allowed}
use Rattle.jp_flat.proofs.Planted.{passes-at, taken_more, text_is}
use Rattle.jp_flat.proofs.of_tree.+of_tree.Goals as goal

pub put_items-loop-value-preserved : goal.put_items-loop-value-preserved
put_items-loop-value-preserved t c =
    let l = c.loop-value in
    let done = c.in_ok-item.ensures in
    let i = c.in_ok-item.item in
    let x = c.value-item.result in
    let s = shown c.put_value.new.tables in
    let all : c.push.new.self.items ≡ l.pending.items.items ++ i ∷ [] = search rules in
    let more = taken_more value_of c.args.items.now l.value-index x c.loop-value-test.true c.value-item.is in
    record {
      put =
          subst (λ xs. ItemsPut c.args.depth (shown c.args.tables.now) s c.args.pending.now.items.items xs
          (take (l.value-index + 1) (map value_of c.args.items.now))) (sym all)
          (subst (ItemsPut c.args.depth (shown c.args.tables.now) s c.args.pending.now.items.items
          (l.pending.items.items ++ i ∷ [])) (sym more)
          (items_one c.args.depth (shown c.args.tables.now) (shown l.tables) s
          c.args.pending.now.items.items l.pending.items.items (take l.value-index (map value_of c.args.items.now))
          i (value_of x) l.invariant.put done.grows done.means));
      others = done.members ∙ l.invariant.others;
    }

pub put_members-loop-member-preserved : goal.put_members-loop-member-preserved
put_members-loop-member-preserved t c =
    let l = c.loop-member in
    let done = c.in_ok-item.ensures in
    let named = c.in_ok-name.ensures in
    let x = c.member-item.result in
    let p : Named = record { name = c.in_ok-name.name; item = c.in_ok-item.item } in
    let s = shown c.put_value.new.tables in
    let all : c.push.new.self.items ≡ l.pending.members.items ++ p ∷ [] = search rules in
    let more = taken_more member_of c.args.members.now l.member-index x c.loop-member-test.true c.member-item.is in
    let ms = take l.member-index (map member_of c.args.members.now) in
    record {
      put =
          subst (λ xs. MembersPut c.args.depth (shown c.args.tables.now) s c.args.pending.now.members.items xs
          (take (l.member-index + 1) (map member_of c.args.members.now))) (sym all)
          (subst (MembersPut c.args.depth (shown c.args.tables.now) s c.args.pending.now.members.items
          (l.pending.members.items ++ p ∷ [])) (sym (more ∙ ap (λ m. ms ++ m ∷ []) (member_of_is x)))
          (members_one c.args.depth (shown c.args.tables.now) (shown l.tables) (shown c.spared.new.tables) s
          c.args.pending.now.members.items l.pending.members.items ms p (string_bytes x.name)
          (value_of x.value) l.invariant.put named.grows (named.spelled ∙ ap Some c.as_str.ensures.value)
          done.grows done.means));
      others = done.items ∙ l.invariant.others;
    }

pub put_value-returns-in-Null-clause-means : goal.put_value-returns-in-Null-clause-means
put_value-returns-in-Null-clause-means t c =
    null_means c.args.depth (shown c.args.tables.now) ∙ ap Some (sym (ap value_of c.in-Null.is ∙ null_is))

pub put_value-returns-in-Bool-clause-means : goal.put_value-returns-in-Bool-clause-means
put_value-returns-in-Bool-clause-means t c =
    boolean_means c.args.depth (shown c.args.tables.now) c.in-Bool.truth
    ∙ ap Some (sym (ap value_of c.in-Bool.is ∙ boolean_is c.in-Bool.truth))

pub put_value-returns-in_ok-span-in-Text-clause-means :
    goal.put_value-returns-in_ok-span-in-Text-clause-means
put_value-returns-in_ok-span-in-Text-clause-means t c =
    text_means c.args.depth (shown c.spared.new.tables) c.in_ok-span-in-Text.span
    (string_bytes c.in-Text.text) (c.in_ok-span-in-Text.ensures.spelled ∙ ap Some c.as_str.ensures.value)
    ∙ ap Some (sym (ap value_of c.in-Text.is ∙ text_is c.in-Text.text))

pub put_items-put_value-requires : goal.put_items-put_value-requires
put_items-put_value-requires t c = (
  omega (
    arith,
    c.decreases,
    at_most value_size c.args.items.now c.loop-value.value-index
        c.value-item.result c.loop-value-test.true,
    ap value_size c.value-item.is,
  ),
  passes-at (everywhere is_allowed) value_of c.args.items.now c.loop-value.value-index
      c.value-item.result c.requires c.loop-value-test.true c.value-item.is,
)

pub put_members-put_value-requires : goal.put_members-put_value-requires
put_members-put_value-requires t c = (
  omega (
    arith,
    c.decreases,
    at_most member_size c.args.members.now c.loop-member.member-index
        c.member-item.result c.loop-member-test.true,
    ap member_size c.member-item.is,
    size_is-Member c.member-item.result,
  ),
  subst (λ m. everywhere is_allowed m.1 ≡ true) (member_of_is c.member-item.result)
      (passes-at (λ m. everywhere is_allowed m.1) member_of c.args.members.now c.loop-member.member-index
      c.member-item.result c.requires c.loop-member-test.true c.member-item.is),
)

pub put_value-put_items-requires : goal.put_value-put_items-requires
put_value-put_items-requires t c = (
  omega (
    arith,
    c.decreases,
    ap value_size c.in-List.is,
    sized-List c.in-List.items,
    ap (most value_size) c.deref.ensures.value,
  ),
  subst (λ xs. list_all (everywhere is_allowed) (map value_of xs) ≡ true) (sym c.deref.ensures.value)
      (items-allowed c.args.value.now c.in-List.items c.requires c.in-List.is),
)

pub put_value-put_members-requires : goal.put_value-put_members-requires
put_value-put_members-requires t c = (
  omega (
    arith,
    c.decreases,
    ap value_size c.in-Members.is,
    sized-Members c.in-Members.members,
    ap (most member_size) c.deref-in-Members.ensures.value,
  ),
  subst (λ xs. list_all (λ m. everywhere is_allowed m.1) (map member_of xs) ≡ true)
      (sym c.deref-in-Members.ensures.value)
      (members-allowed c.args.value.now c.in-Members.members c.requires c.in-Members.is),
)

pub put_value-put_decimal-requires : goal.put_value-put_decimal-requires
put_value-put_decimal-requires t c =
    let k = c.in-Decimal.coefficient in
    let e = c.in-Decimal.exponent in
    let coefficient : to_z w128 (of_z w128 k) ≡ k = search rules in
    let exponent : to_z w32 (of_z w32 e) ≡ e = search rules in
    ap₂ is_decimal coefficient exponent
    ∙ decimal-allowed c.args.value.now e k c.requires c.in-Decimal.is

pub put_value-returns-in_ok-item-in-Decimal-clause-means :
    goal.put_value-returns-in_ok-item-in-Decimal-clause-means
put_value-returns-in_ok-item-in-Decimal-clause-means t c =
    let k = c.in-Decimal.coefficient in
    let e = c.in-Decimal.exponent in
    let coefficient : to_z w128 (of_z w128 k) ≡ k = search rules in
    let exponent : to_z w32 (of_z w32 e) ≡ e = search rules in
    c.in_ok-item-in-Decimal.ensures.means c.args.depth
    ∙ ap Some (ap₂ decimal coefficient exponent
    ∙ sym (ap value_of c.in-Decimal.is ∙ decimal-is e k))
