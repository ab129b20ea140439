use Rattle.std.proofs.Common.{◌≡◌, ◌++◌, ◌∷◌, [], ◌<◌, Some, None, length, arith, rules, ap, refl}
use Rattle.std.proofs.Common.{◌∙◌, ◌≤◌, ◌⊎◌, drop, subst, sym, take}
use Rattle.json.specs.Json.{after_end_array, read_key}
use Rattle.json.specs.Token.{Token}
use Rattle.jp_flat.specs.Asked.{IsThinned}
use Rattle.jp_flat.specs.Flat.{Grows, shown}
use Rattle.jp_flat.specs.Private.Kept.{IsLeftOut, IsMemberKept, IsPushed, KeepsFlat}
use Rattle.jp_flat.specs.Private.Reading.{with_items}
use Rattle.jp_flat.specs.Private.Tokens.{ReadsName, token_of}
use Rattle.jp_flat.proofs.Leaves.{leaf-read}
use Rattle.jp_flat.proofs.Loops.{leaves_end}
use Rattle.jp_flat.proofs.PickedValues.{keeps-list, keeps-object}
use Rattle.jp_flat.proofs.ThinnedItems.{keeps-all, keeps-all_items}
use Rattle.jp_flat.proofs.ThinnedItems.{kept_items-begin, kept_items-end, kept_items-more}
use Rattle.jp_flat.proofs.ThinnedMembers.{kept_members-begin, kept_members-end, kept_members-put}
use Rattle.jp_flat.proofs.ThinnedMembers.{leaf-kept}
use Rattle.jp_flat.proofs.thinning.+thinning.Goals as goal

pub thin_value-returns-in_ok-item-in_default-clause-keeps :
    goal.thin_value-returns-in_ok-item-in_default-clause-keeps
thin_value-returns-in_ok-item-in_default-clause-keeps _ t c =
    let k = token_of c.in_ok-token.token in
    let done = c.in_ok-item-in_default.ensures in
    let first : c.args.reader.now.tokens ≡ k ∷ c.next.new.self.tokens =
    c.in_ok-token.ensures.reads done.good in
    keeps-all c.args.wanted.now c.args.depth c.args.reader.now.tokens c.next.new.self.tokens
    (shown c.leaf.new.tables) c.in_ok-item-in_default.item
    (leaf-read c.args.depth c.args.reader.now.tokens c.next.new.self.tokens k (shown c.leaf.new.tables)
    c.in_ok-item-in_default.item first done.leaf)

pub thin_container-returns-in_ok-item-in-BeginArray-clause-keeps :
    goal.thin_container-returns-in_ok-item-in-BeginArray-clause-keeps
thin_container-returns-in_ok-item-in-BeginArray-clause-keeps _ t c =
    let k = token_of c.args.token in
    let is : k ≡ Token.begin_array = grind arith in
    keeps-list (IsThinned c.args.wanted.now) c.args.depth (k ∷ c.args.reader.now.tokens)
    c.args.reader.now.tokens c.thin_items.new.reader.tokens (shown c.thin_items.new.tables)
    c.in_ok-item-in-BeginArray.item (omega arith)
    (ap (λ k. k ∷ c.args.reader.now.tokens) is) c.in_ok-item-in-BeginArray.ensures.keeps

pub thin_container-returns-in_ok-item-in-BeginObject-clause-keeps :
    goal.thin_container-returns-in_ok-item-in-BeginObject-clause-keeps
thin_container-returns-in_ok-item-in-BeginObject-clause-keeps _ t c =
    let k = token_of c.args.token in
    let is : k ≡ Token.begin_object = grind arith in
    keeps-object (IsThinned c.args.wanted.now) c.args.depth (k ∷ c.args.reader.now.tokens)
    c.args.reader.now.tokens c.thin_members.new.reader.tokens (shown c.thin_members.new.tables)
    c.in_ok-item-in-BeginObject.item
    (omega arith) (ap (λ k. k ∷ c.args.reader.now.tokens) is) c.in_ok-item-in-BeginObject.ensures.keeps

pub thin_items-returns-in-EndArray-clause-keeps : goal.thin_items-returns-in-EndArray-clause-keeps
thin_items-returns-in-EndArray-clause-keeps _ t c =
    let k = token_of c.in_ok-token.token in
    let r = c.leaves.new.reader.tokens in
    let is : k ≡ Token.end_array = grind arith in
    let over : after_end_array (k ∷ r) ≡ Some r = ap (λ k. after_end_array (k ∷ r)) is in
    let at : c.len-first.result ≡ length c.args.tables.now.items.items = search rules in
    keeps-all_items c.args.wanted.now c.args.depth c.args.reader.now.tokens r (shown c.leaves.new.tables)
    c.in_ok-list.list
    (leaves_end c.args.depth c.args.reader.now.tokens (k ∷ r) r (shown c.args.tables.now)
    (shown c.leaves.new.tables) c.len-first.result c.in_ok-list.list over at
    c.in_ok-list.ensures.few c.in_ok-list.ensures.list c.in_ok-token.ensures.reads)

pub thin_items-items-init : goal.thin_items-items-init
thin_items-items-init _ t c =
    let k = token_of c.in_ok-token.token in
    let s = c.leaves.new.tables in
    let q = c.leaves.new.reader.tokens in
    let r = c.thin_container.new.reader.tokens in
    let i = c.in_ok-item.item in
    let done = c.in_ok-item.ensures in
    let first = c.len-first.result in
    let old = c.args.pending.now.items.items in
    let moved = c.move_parts.new.table.items in
    let at : first ≡ length c.args.tables.now.items.items = search rules in
    let here : c.len-base.result ≡ length old = search rules in
    let leaf : length (k ∷ q) ≤ length c.args.reader.now.tokens =
    omega (arith, c.in_ok-token.ensures.shorter) in
    let less : length r < length (k ∷ q) = omega (arith, done.shorter) in
    let put : moved ≡ old ++ drop first s.items.items = search rules in
    let left : c.move_parts.new.parts.items ≡ take first s.items.items = search rules in
    let more : Grows (with_items (shown s) (take first s.items.items)) (shown c.thin_container.new.tables) =
    subst (λ xs. Grows (with_items (shown s) xs) (shown c.thin_container.new.tables)) left done.grows in
    let pushed : c.put.new.table.items ≡ moved ++ i ∷ [] = search rules in
    record {
      so = rw pushed
          (kept_items-begin c.args.wanted.now c.args.depth c.args.reader.now.tokens (k ∷ q) r
          (shown c.args.tables.now) (shown s) (shown c.thin_container.new.tables) first
          c.len-base.result old moved i at here leaf c.in_ok-token.ensures.reads put more less
          done.keeps);
      others = search rules;
      text = search rules;
    }

pub thin_items-items-preserved : goal.thin_items-items-preserved
thin_items-items-preserved _ t c =
    let l = c.items in
    let n = c.args.wanted.now in
    let same : c.take_end_array.new.self.tokens ≡ l.reader.tokens = grind arith in
    let done = c.in_ok-item-2.ensures in
    let i = c.in_ok-item-2.item in
    let r = c.thin_value.new.reader.tokens in
    let s = shown c.thin_value.new.tables in
    let less : length r < length l.reader.tokens = rw (← same) done.shorter in
    let pushed : c.put-in-items.new.table.items ≡ l.pending.items.items ++ i ∷ [] = search rules in
    let read : KeepsFlat (IsThinned n) c.args.depth l.reader.tokens r s i = rw (← same) done.keeps in
    record {
      so = rw pushed
          (kept_items-more n c.args.depth c.args.reader.now.tokens l.reader.tokens r
          (shown c.args.tables.now) (shown l.tables) s c.len-base.result
          c.args.pending.now.items.items l.pending.items.items i less read done.grows
          l.invariant.so);
      others = done.members ∙ l.invariant.others;
      text = search rules;
    }

pub thin_items-returns-clause-keeps : goal.thin_items-returns-clause-keeps
thin_items-returns-clause-keeps _ t c =
    let l = c.items in
    let over : after_end_array l.reader.tokens ≡ Some c.take_end_array.new.self.tokens = grind arith in
    kept_items-end c.args.wanted.now c.args.depth c.args.reader.now.tokens l.reader.tokens
    c.take_end_array.new.self.tokens (shown c.args.tables.now) (shown l.tables)
    (shown c.close_list.new.tables) c.len-base.result c.args.pending.now.items.items
    l.pending.items.items c.in_ok-list-2.list over c.in_ok-list-2.ensures.few
    c.in_ok-list-2.ensures.list c.in_ok-list-2.ensures.grows l.invariant.so

pub thin_members-members-init : goal.thin_members-members-init
thin_members-members-init _ t c = record {
  so =
      let at : c.len-base.result ≡ length c.args.pending.now.members.items = search rules in
      kept_members-begin c.args.wanted.now c.args.depth c.args.reader.now.tokens
      (shown c.args.tables.now) c.len-base.result c.args.pending.now.members.items at;
  others = search rules;
  text = search rules;
}

pub thin_members-members-preserved : goal.thin_members-members-preserved
thin_members-members-preserved _ t c =
    let l = c.members in
    let n = c.args.wanted.now in
    let name = c.in-Some.name in
    let k = token_of c.in_ok-token.token in
    let a = c.next_name.new.self.tokens in
    let q = c.next.new.self.tokens in
    let r = c.member_behind.new.reader.tokens in
    let w = shown c.member_behind.new.tables in
    let u = shown c.put_member.new.tables in
    let i = c.in_ok-item.item in
    let spare = c.in_ok-item.spare in
    let still = c.in_ok-rises.rises in
    let done = c.in_ok-item.ensures in
    let were = l.pending.members.items in
    let are = c.put_member.new.members.items in
    let first : a ≡ k ∷ q = c.in_ok-token.ensures.reads done.good in
    let fewer = done.shorter in
    let short : length r < length a = omega (arith, ap length first, fewer) in
    let value : KeepsFlat (IsMemberKept n name spare) c.args.depth a r w i =
    subst (λ ts. KeepsFlat (IsMemberKept n name spare) c.args.depth ts r w i) (sym first) done.keeps in
    let named : ReadsName l.reader.tokens a (Some name) =
    subst (ReadsName l.reader.tokens a) c.in-Some.is c.in_ok-name.ensures.reads in
    let puts : IsLeftOut spare l.rises still c.len-base.result were are
    ⊎ IsPushed w u name i l.rises still c.len-base.result were are =
    subst (λ ms. IsLeftOut spare l.rises still c.len-base.result ms are
    ⊎ IsPushed w u name i l.rises still c.len-base.result ms are) done.members
    c.in_ok-rises.ensures.puts in
    record {
      so =
          kept_members-put n c.args.depth c.args.reader.now.tokens l.reader.tokens a r
          (shown c.args.tables.now) (shown l.tables) w u c.len-base.result l.rises still spare
          c.args.pending.now.members.items were are name i named short value done.grows
          c.in_ok-rises.ensures.grows puts l.invariant.so;
      others = done.items ∙ l.invariant.others;
      text = search rules;
    }

pub thin_members-returns-clause-keeps : goal.thin_members-returns-clause-keeps
thin_members-returns-clause-keeps _ t c =
    let l = c.members in
    let over : read_key l.reader.tokens ≡ Some (None, c.next_name.new.self.tokens) = grind arith in
    kept_members-end c.args.wanted.now c.args.depth c.args.reader.now.tokens l.reader.tokens
    c.next_name.new.self.tokens (shown c.args.tables.now) (shown l.tables)
    (shown c.close_object.new.tables) c.len-base.result l.rises c.args.pending.now.members.items
    l.pending.members.items c.in_ok-object.object over c.in_ok-object.ensures.object
    c.in_ok-object.ensures.grows l.invariant.so

pub member_behind-returns-in_ok-item-in_default-clause-keeps :
    goal.member_behind-returns-in_ok-item-in_default-clause-keeps
member_behind-returns-in_ok-item-in_default-clause-keeps _ t c =
    let k = token_of c.args.token in
    let r = c.args.reader.now.tokens in
    let s = shown c.leaf.new.tables in
    let i = c.in_ok-item-in_default.item in
    let done = c.in_ok-item-in_default.ensures in
    leaf-kept c.args.wanted.now c.args.name c.may_be-in_default.result c.args.depth (k ∷ r) r s i
    (leaf-read c.args.depth (k ∷ r) r k s i refl done.leaf) done.bare c.may_be-in_default.ensures
