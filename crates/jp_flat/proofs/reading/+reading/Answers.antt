use Rattle.std.proofs.Common.{◌≡◌, ◌++◌, ◌∷◌, [], ◌<◌, Some, None, length, arith, rules, ap}
use Rattle.std.proofs.Common.{◌∙◌, ◌≤◌, drop, subst, take}
use Rattle.json.specs.Json.{after_end_array, read_key}
use Rattle.json.specs.Token.{Token}
use Rattle.json.proofs.Grammar.{read_key-shorter}
use Rattle.jp_flat.specs.Flat.{Grows, shown}
use Rattle.jp_flat.specs.Private.Reading.{ReadsFlat, with_items}
use Rattle.jp_flat.specs.Private.Tokens.{ReadsName, said, token_of}
use Rattle.jp_flat.specs.declared.item.Named.{Named}
use Rattle.jp_flat.proofs.Leaves.{flat-list, flat-object, leaf-read}
use Rattle.jp_flat.proofs.Loops.{items_begin, items_end, items_more, leaves_end, leaves_grow}
use Rattle.jp_flat.proofs.Alone.{members_lone, none-behind}
use Rattle.jp_flat.proofs.Loops.{above_said, members_begin, members_end, members_more}
use Rattle.jp_flat.proofs.reading.+reading.Goals as goal

pub value-returns-in_ok-item-in_default-clause-reads :
    goal.value-returns-in_ok-item-in_default-clause-reads
value-returns-in_ok-item-in_default-clause-reads _ t c =
    let k = token_of c.in_ok-token.token in
    let first : c.args.reader.now.tokens ≡ k ∷ c.next.new.self.tokens =
    c.in_ok-token.ensures.reads c.in_ok-item-in_default.ensures.good in
    leaf-read c.args.depth c.args.reader.now.tokens c.next.new.self.tokens k (shown c.leaf.new.tables)
    c.in_ok-item-in_default.item first c.in_ok-item-in_default.ensures.leaf

pub container-returns-in_ok-item-in-BeginArray-clause-reads :
    goal.container-returns-in_ok-item-in-BeginArray-clause-reads
container-returns-in_ok-item-in-BeginArray-clause-reads _ t c =
    let k = token_of c.args.token in
    let is : k ≡ Token.begin_array = grind arith in
    flat-list c.args.depth (k ∷ c.args.reader.now.tokens) c.args.reader.now.tokens c.items.new.reader.tokens
    (shown c.items.new.tables) _ (omega arith) (ap (λ k. k ∷ c.args.reader.now.tokens) is)
    c.in_ok-item-in-BeginArray.ensures.reads

pub container-returns-in_ok-item-in-BeginObject-clause-reads :
    goal.container-returns-in_ok-item-in-BeginObject-clause-reads
container-returns-in_ok-item-in-BeginObject-clause-reads _ t c =
    let k = token_of c.args.token in
    let is : k ≡ Token.begin_object = grind arith in
    flat-object c.args.depth (k ∷ c.args.reader.now.tokens) c.args.reader.now.tokens c.members.new.reader.tokens
    (shown c.members.new.tables) _ (omega arith) (ap (λ k. k ∷ c.args.reader.now.tokens) is)
    c.in_ok-item-in-BeginObject.ensures.reads

pub items-returns-in-EndArray-clause-reads : goal.items-returns-in-EndArray-clause-reads
items-returns-in-EndArray-clause-reads _ t c =
    let k = token_of c.in_ok-token.token in
    let r = c.leaves.new.reader.tokens in
    let is : k ≡ Token.end_array = grind arith in
    let over : after_end_array (k ∷ r) ≡ Some r = ap (λ k. after_end_array (k ∷ r)) is in
    let at : c.len-first.result ≡ length c.args.tables.now.items.items = search rules in
    leaves_end c.args.depth c.args.reader.now.tokens (k ∷ r) r (shown c.args.tables.now)
    (shown c.leaves.new.tables) c.len-first.result c.in_ok-list.list over at
    c.in_ok-list.ensures.few c.in_ok-list.ensures.list c.in_ok-token.ensures.reads

pub items-returns-in-EndArray-clause-grows : goal.items-returns-in-EndArray-clause-grows
items-returns-in-EndArray-clause-grows _ t c =
    leaves_grow c.args.reader.now.tokens (token_of c.in_ok-token.token ∷ c.leaves.new.reader.tokens)
    (shown c.args.tables.now) (shown c.leaves.new.tables) c.in_ok-token.ensures.reads

pub items-items-init : goal.items-items-init
items-items-init _ t c =
    let k = token_of c.in_ok-token.token in
    let s = c.leaves.new.tables in
    let q = c.leaves.new.reader.tokens in
    let r = c.container.new.reader.tokens in
    let i = c.in_ok-item.item in
    let done = c.in_ok-item.ensures in
    let first = c.len-first.result in
    let old = c.args.pending.now.items.items in
    let moved = c.move_parts.new.table.items in
    let at : first ≡ length c.args.tables.now.items.items = search rules in
    let here : c.len-base.result ≡ length old = search rules in
    let leaf : length (k ∷ q) ≤ length c.args.reader.now.tokens =
    omega (arith, c.in_ok-token.ensures.shorter) in
    let less : length r < length (k ∷ q) = omega (arith, done.shorter) in
    let put : moved ≡ old ++ drop first s.items.items = search rules in
    let left : c.move_parts.new.parts.items ≡ take first s.items.items = search rules in
    let more : Grows (with_items (shown s) (take first s.items.items)) (shown c.container.new.tables) =
    subst (λ xs. Grows (with_items (shown s) xs) (shown c.container.new.tables)) left done.grows in
    let pushed : c.put.new.table.items ≡ moved ++ i ∷ [] = search rules in
    record {
      so = rw pushed
          (items_begin c.args.depth c.args.reader.now.tokens (k ∷ q) r (shown c.args.tables.now) (shown s)
          (shown c.container.new.tables) first c.len-base.result old moved i at here leaf
          c.in_ok-token.ensures.reads put more less done.reads);
      others = search rules;
      text = search rules;
    }

pub items-items-preserved : goal.items-items-preserved
items-items-preserved _ t c =
    let l = c.items in
    let same : c.take_end_array.new.self.tokens ≡ l.reader.tokens = grind arith in
    let done = c.in_ok-item-2.ensures in
    let i = c.in_ok-item-2.item in
    let r = c.value.new.reader.tokens in
    let s = shown c.value.new.tables in
    let less : length r < length l.reader.tokens = rw (← same) done.shorter in
    let pushed : c.put-in-items.new.table.items ≡ l.pending.items.items ++ i ∷ [] = search rules in
    let read : ReadsFlat c.args.depth l.reader.tokens r s i = rw (← same) done.reads in
    record {
      so = rw pushed
          (items_more c.args.depth c.args.reader.now.tokens l.reader.tokens r (shown c.args.tables.now)
          (shown l.tables) s c.len-base.result c.args.pending.now.items.items l.pending.items.items i
          less read done.grows l.invariant.so);
      others = done.members ∙ l.invariant.others;
      text = search rules;
    }

pub items-returns-clause-reads : goal.items-returns-clause-reads
items-returns-clause-reads _ t c =
    let l = c.items in
    let over : after_end_array l.reader.tokens ≡ Some c.take_end_array.new.self.tokens = grind arith in
    items_end c.args.depth c.args.reader.now.tokens l.reader.tokens c.take_end_array.new.self.tokens
    (shown c.args.tables.now) (shown l.tables) (shown c.close_list.new.tables) c.len-base.result
    c.args.pending.now.items.items l.pending.items.items c.in_ok-list-2.list over
    c.in_ok-list-2.ensures.few c.in_ok-list-2.ensures.list c.in_ok-list-2.ensures.grows
    l.invariant.so

pub members-members-init : goal.members-members-init
members-members-init _ t c = record {
  so =
      let at : c.len-base.result ≡ length c.args.pending.now.members.items = search rules in
      members_begin c.args.depth c.args.reader.now.tokens (shown c.args.tables.now) c.len-base.result
      c.args.pending.now.members.items at;
  others = search rules;
  text = search rules;
}

pub members-returns-then-ends_alone-clause-reads : goal.members-returns-then-ends_alone-clause-reads
members-returns-then-ends_alone-clause-reads _ t c =
    let l = c.members in
    let spanned = c.in_ok-span.ensures.spanned in
    let k = spanned.text in
    let a = c.next_name.new.self.tokens in
    let r = c.value.new.reader.tokens in
    let done = c.in_ok-item.ensures in
    let p : Named = record { name = c.in_ok-span.span; item = c.in_ok-item.item } in
    let named : read_key l.reader.tokens ≡ Some (Some k, a) =
    subst (ReadsName l.reader.tokens a) c.in-Some.is c.in_ok-name.ensures.reads k spanned.says in
    let less = read_key-shorter l.reader.tokens (Some k) a named in
    let lesser = done.shorter in
    let shorter : length r < length l.reader.tokens = omega arith in
    let over : read_key r ≡ Some (None, c.ends_alone.new.reader.tokens) = grind arith in
    let alone : c.len-base.result ≡ length l.pending.members.items = grind arith in
    members_lone c.args.depth c.args.reader.now.tokens l.reader.tokens a r
    c.ends_alone.new.reader.tokens (shown c.args.tables.now) (shown l.tables)
    (shown c.text_span.new.tables) (shown c.value.new.tables) (shown c.object_of_one.new.tables)
    c.len-base.result l.rises c.args.pending.now.members.items l.pending.members.items k p
    c.in_ok-object.object named shorter done.reads spanned.there c.in_ok-span.ensures.grows done.grows
    over alone c.in_ok-object.ensures.object c.in_ok-object.ensures.grows l.invariant.so

pub members-returns-then-ends_alone-clause-members :
    goal.members-returns-then-ends_alone-clause-members
members-returns-then-ends_alone-clause-members _ t c =
    let l = c.members in
    let so = l.invariant.so in
    let alone : c.len-base.result ≡ length l.pending.members.items = grind arith in
    c.in_ok-item.ensures.members
    ∙ none-behind c.len-base.result c.args.pending.now.members.items so.new l.pending.members.items
    so.pushed so.at alone

pub members-members-preserved : goal.members-members-preserved
members-members-preserved _ t c =
    let l = c.members in
    let spanned = c.in_ok-span.ensures.spanned in
    let k = spanned.text in
    let a = c.next_name.new.self.tokens in
    let r = c.value.new.reader.tokens in
    let done = c.in_ok-item.ensures in
    let p : Named = record { name = c.in_ok-span.span; item = c.in_ok-item.item } in
    let named : read_key l.reader.tokens ≡ Some (Some k, a) =
    subst (ReadsName l.reader.tokens a) c.in-Some.is c.in_ok-name.ensures.reads k spanned.says in
    let less = read_key-shorter l.reader.tokens (Some k) a named in
    let lesser = done.shorter in
    let shorter : length r < length l.reader.tokens = omega arith in
    let same : c.ends_alone.new.reader.tokens ≡ r = grind arith in
    let pushed : c.put.new.table.items ≡ l.pending.members.items ++ p ∷ [] = search rules in
    record {
      so = rw pushed
          (rw same
          (members_more c.args.depth c.args.reader.now.tokens l.reader.tokens a r (shown c.args.tables.now)
          (shown l.tables) (shown c.text_span.new.tables) (shown c.value.new.tables) c.len-base.result
          l.rises c.still_rises-rises.result c.args.pending.now.members.items
          l.pending.members.items k p named shorter done.reads spanned.there
          c.in_ok-span.ensures.grows done.grows c.still_rises-rises.ensures.rose
          (λ rose. above_said (shown l.tables) (drop c.len-base.result l.pending.members.items)
          (said c.in-Some.name) k spanned.says
          (rw (← c.deref.ensures.value) (c.still_rises-rises.ensures.above rose))) l.invariant.so));
      others = done.items ∙ l.invariant.others;
      text = search rules;
    }

pub members-returns-clause-reads : goal.members-returns-clause-reads
members-returns-clause-reads _ t c =
    let l = c.members in
    let over : read_key l.reader.tokens ≡ Some (None, c.next_name.new.self.tokens) = grind arith in
    members_end c.args.depth c.args.reader.now.tokens l.reader.tokens c.next_name.new.self.tokens
    (shown c.args.tables.now) (shown l.tables) (shown c.close_object.new.tables) c.len-base.result
    l.rises c.args.pending.now.members.items l.pending.members.items c.in_ok-object-2.object over
    c.in_ok-object-2.ensures.object c.in_ok-object-2.ensures.grows l.invariant.so
