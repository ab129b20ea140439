use Rattle.std.proofs.Common.{◌≡◌, ◌∷◌, ◌<◌, ◌-◌, Some, None, arith, length, refl, rules, subst}
use Rattle.json.specs.Json.{after_end_array, read_key}
use Rattle.json.specs.Token.{Token}
use Rattle.json.proofs.Grammar.{read_key-shorter}
use Rattle.jp_flat.specs.Flat.{shown}
use Rattle.jp_flat.specs.Private.Found.{PassesItems, PassesMembers, PassesValue}
use Rattle.jp_flat.specs.Private.Tokens.{ReadsName, token_of}
use Rattle.jp_flat.proofs.FoundInside.{finds-list, finds-object, items_begin, items_end}
use Rattle.jp_flat.proofs.FoundInside.{items_more, members_begin, members_end, members_more}
use Rattle.jp_flat.proofs.Growth.{grows_same}
use Rattle.jp_flat.proofs.Passed.{on-some}
use Rattle.jp_flat.proofs.passing.+passing.Goals as goal

pub pass_items-items-init : goal.pass_items-items-init
pass_items-items-init _ t c = record {
  so = items_begin c.args.depth c.args.reader.now.tokens (shown c.args.tables.now) None;
  shorter = omega arith;
  text = refl;
}

pub pass_members-members-init : goal.pass_members-members-init
pass_members-members-init _ t c = record {
  so = members_begin c.args.depth c.args.reader.now.tokens (shown c.args.tables.now) None;
  shorter = omega arith;
  text = refl;
}

pub pass_items-items-preserved : goal.pass_items-items-preserved
pass_items-items-preserved _ t c =
    let l = c.items in
    let same : c.take_end_array.new.self.tokens ≡ l.reader.tokens = grind arith in
    let done = c.in_ok-pass_value.ensures in
    let r = c.pass_value.new.reader.tokens in
    let less : length r < length l.reader.tokens = rw (← same) done.shorter in
    let u = shown c.args.tables.now in
    let read : PassesValue u c.args.depth l.reader.tokens r = rw (← same) done.passes in
    record {
      so = rw c.in_ok-count.ensures.1
          (items_more c.args.depth c.args.reader.now.tokens l.reader.tokens r u u u None l.count None
          None None c.in_ok-count.ensures.0 refl less (grows_same u) read l.invariant.so);
      shorter = omega (arith, less, l.invariant.shorter);
      text = search rules;
    }

pub pass_items-returns-clause-passes : goal.pass_items-returns-clause-passes
pass_items-returns-clause-passes _ t c =
    let l = c.items in
    let over : after_end_array l.reader.tokens ≡ Some c.take_end_array.new.self.tokens = grind arith in
    let u = shown c.args.tables.now in
    items_end c.args.depth c.args.reader.now.tokens l.reader.tokens c.take_end_array.new.self.tokens u u
    None l.count None over l.invariant.so

pub pass_members-members-preserved : goal.pass_members-members-preserved
pass_members-members-preserved _ t c =
    let l = c.members in
    let said = c.in_ok-pass_text.ensures in
    let done = c.in_ok-pass_value.ensures in
    let k = said.text in
    let a = c.next_name.new.self.tokens in
    let r = c.pass_value.new.reader.tokens in
    let named : read_key l.reader.tokens ≡ Some (Some k, a) =
    subst (ReadsName l.reader.tokens a) c.in-Some.is c.in_ok-name.ensures.reads k said.says in
    let less = read_key-shorter l.reader.tokens (Some k) a named in
    let lesser = done.shorter in
    let u = shown c.args.tables.now in
    let shorter : length r < length l.reader.tokens = omega arith in
    record {
      so = members_more c.args.depth c.args.reader.now.tokens l.reader.tokens a r u u u u None k None None
          None named refl shorter (grows_same u) (grows_same u) done.passes l.invariant.so;
      shorter = omega (arith, shorter, l.invariant.shorter);
      text = search rules;
    }

pub pass_members-returns-clause-passes : goal.pass_members-returns-clause-passes
pass_members-returns-clause-passes _ t c =
    let l = c.members in
    let over : read_key l.reader.tokens ≡ Some (None, c.next_name.new.self.tokens) = grind arith in
    let u = shown c.args.tables.now in
    members_end c.args.depth c.args.reader.now.tokens l.reader.tokens c.next_name.new.self.tokens u u None
    None over l.invariant.so

pub pass_value-returns-in_ok-inside-in-BeginArray-clause-passes :
    goal.pass_value-returns-in_ok-inside-in-BeginArray-clause-passes
pass_value-returns-in_ok-inside-in-BeginArray-clause-passes _ t c =
    let k = token_of c.in_ok-token.token in
    let u = shown c.args.tables.now in
    let s = c.next.new.self.tokens in
    let r = c.pass_items.new.reader.tokens in
    let n = c.in_ok-inside-in-BeginArray.inside in
    let is : k ≡ Token.begin_array = grind arith in
    let first : c.args.reader.now.tokens ≡ Token.begin_array ∷ s = grind arith in
    let deep : 0 < c.args.depth = omega (arith, c.in_ok-inside-in-BeginArray.ensures) in
    let inside : n ≡ c.args.depth - 1 = omega (arith, c.in_ok-inside-in-BeginArray.ensures) in
    on-some c.pass_items.result
    (λ x. finds-list c.args.depth c.args.reader.now.tokens s r u None None deep first
    (subst (λ m. PassesItems u m s r) inside x)) c.pass_items.ensures.passes

pub pass_value-returns-in_ok-inside-in-BeginObject-clause-passes :
    goal.pass_value-returns-in_ok-inside-in-BeginObject-clause-passes
pass_value-returns-in_ok-inside-in-BeginObject-clause-passes _ t c =
    let k = token_of c.in_ok-token.token in
    let u = shown c.args.tables.now in
    let s = c.next.new.self.tokens in
    let r = c.pass_members.new.reader.tokens in
    let n = c.in_ok-inside-in-BeginObject.inside in
    let is : k ≡ Token.begin_object = grind arith in
    let first : c.args.reader.now.tokens ≡ Token.begin_object ∷ s = grind arith in
    let deep : 0 < c.args.depth = omega (arith, c.in_ok-inside-in-BeginObject.ensures) in
    let inside : n ≡ c.args.depth - 1 = omega (arith, c.in_ok-inside-in-BeginObject.ensures) in
    on-some c.pass_members.result
    (λ x. finds-object c.args.depth c.args.reader.now.tokens s r u None None deep first
    (subst (λ m. PassesMembers u m s r) inside x)) c.pass_members.ensures.passes

pub pass_value-pass_leaf-requires : goal.pass_value-pass_leaf-requires
pass_value-pass_leaf-requires _ t c = (c.args.reader.now.text, c.in_ok-token.ensures.stands)
