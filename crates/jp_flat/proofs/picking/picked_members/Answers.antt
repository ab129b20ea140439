use Rattle.std.proofs.Common.{◌≡◌, ◌++◌, ◌∷◌, [], ◌<◌, Some, None, true, false, length, arith, rules, ap}
use Rattle.std.proofs.Common.{◌∙◌, drop, subst, sym}
use Rattle.std.proofs.lemmas.Option.{same_Some}
use Rattle.json.specs.Json.{read_key}
use Rattle.json.proofs.Grammar.{read_key-shorter}
use Rattle.jp_flat.specs.Asked.{is_listed}
use Rattle.jp_flat.specs.Flat.{shown}
use Rattle.jp_flat.specs.Private.Tokens.{ReadsName, said}
use Rattle.jp_flat.specs.declared.item.Named.{Named}
use Rattle.jp_flat.proofs.Growth.{grows_same}
use Rattle.jp_flat.proofs.Loops.{above_said}
use Rattle.jp_flat.proofs.PickedParts.{members-begin, members-end, members_more, members_past}
use Rattle.jp_flat.proofs.picking.picked_members.Goals as goal

pub members-init : goal.members-init
members-init _ c = record {
  so =
      let at : c.len-base.result ≡ length c.args.pending.now.members.items = search rules in
      members-begin (is_listed c.args.names.now) c.args.depth c.args.reader.now.tokens
      (shown c.args.tables.now) c.len-base.result c.args.pending.now.members.items at;
  others = search rules;
  text = search rules;
}

pub members-preserved : goal.members-preserved
members-preserved _ c =
    let l = c.members in
    let names = c.args.names.now in
    let picked = c.in_ok-is_picked.ensures.picked in
    let spanned = c.in_ok-span.ensures.spanned in
    let done = c.in_ok-item.ensures in
    let k = spanned.text in
    let a = c.next_name.new.self.tokens in
    let r = c.value.new.reader.tokens in
    let u = shown c.value.new.tables in
    let m : Named = record { name = c.in_ok-span.span; item = c.in_ok-item.item } in
    let same : picked.text ≡ k = same_Some picked.text k (sym picked.says ∙ spanned.says) in
    let among : is_listed names k ≡ true =
    ap (is_listed names) (sym same) ∙ sym picked.told ∙ c.if-not-branch.false in
    let named : read_key l.reader.tokens ≡ Some (Some k, a) =
    subst (ReadsName l.reader.tokens a) c.in-Some.is c.in_ok-name.ensures.reads k spanned.says in
    let less = read_key-shorter l.reader.tokens (Some k) a named in
    let shorter : length r < length l.reader.tokens =
    omega (arith, less, done.shorter) in
    let pushed : c.put.new.table.items ≡ l.pending.members.items ++ m ∷ [] = search rules in
    record {
      so = rw pushed
          (members_more (is_listed names) c.args.depth c.args.reader.now.tokens l.reader.tokens a r
          (shown c.args.tables.now) (shown l.tables) (shown c.is_picked.new.tables)
          (shown c.text_span.new.tables) u c.len-base.result l.rises c.still_rises-rises.result
          c.args.pending.now.members.items l.pending.members.items k m named among shorter done.reads
          spanned.there c.in_ok-is_picked.ensures.grows c.in_ok-span.ensures.grows done.grows
          c.still_rises-rises.ensures.rose
          (λ rose. above_said (shown c.is_picked.new.tables)
          (drop c.len-base.result l.pending.members.items) (said c.in-Some.name) k spanned.says
          (rw (← c.deref.ensures.value) (c.still_rises-rises.ensures.above rose))) l.invariant.so);
      others = done.items ∙ l.invariant.others;
      text = search rules;
    }

pub members-preserved-then-not-branch : goal.members-preserved-then-not-branch
members-preserved-then-not-branch _ c =
    let l = c.members in
    let names = c.args.names.now in
    let picked = c.in_ok-is_picked.ensures.picked in
    let done = c.in_ok-pass_value.ensures in
    let k = picked.text in
    let a = c.next_name.new.self.tokens in
    let r = c.pass_value.new.reader.tokens in
    let w = shown c.is_picked.new.tables in
    let passed = done.passes in
    let other : is_listed names k ≡ false = sym picked.told ∙ c.if-not-branch.true in
    let named : read_key l.reader.tokens ≡ Some (Some k, a) =
    subst (ReadsName l.reader.tokens a) c.in-Some.is c.in_ok-name.ensures.reads k picked.says in
    let less = read_key-shorter l.reader.tokens (Some k) a named in
    let shorter : length r < length l.reader.tokens =
    omega (arith, less, done.shorter) in
    record {
      so = members_past (is_listed names) c.args.depth c.args.reader.now.tokens l.reader.tokens a r
          (shown c.args.tables.now) (shown l.tables) w w c.len-base.result l.rises
          c.args.pending.now.members.items l.pending.members.items k passed.value named other
          shorter passed.reads passed.short c.in_ok-is_picked.ensures.grows (grows_same w)
          l.invariant.so;
      others = l.invariant.others;
      text = search rules;
    }

pub returns-clause-keeps : goal.returns-clause-keeps
returns-clause-keeps _ c =
    let l = c.members in
    let over : read_key l.reader.tokens ≡ Some (None, c.next_name.new.self.tokens) = grind arith in
    members-end (is_listed c.args.names.now) c.args.depth c.args.reader.now.tokens l.reader.tokens
    c.next_name.new.self.tokens (shown c.args.tables.now) (shown l.tables)
    (shown c.close_object.new.tables) c.len-base.result l.rises c.args.pending.now.members.items
    l.pending.members.items c.in_ok-object.object over c.in_ok-object.ensures.object
    c.in_ok-object.ensures.grows l.invariant.so
