use Rattle.std.proofs.Common.{◌≡◌, ◌∷◌, ◌<◌, ◌∙◌, Some, None, arith, length, refl, rules, subst}
use Rattle.json.specs.Json.{after_end_array, read_key}
use Rattle.json.specs.Token.{Token}
use Rattle.json.proofs.Grammar.{read_key-shorter}
use Rattle.jp_flat.specs.Flat.{shown}
use Rattle.jp_flat.specs.Private.Found.{FindsAt, location_of}
use Rattle.jp_flat.specs.Private.Tokens.{ReadsName, token_of}
use Rattle.jp_flat.proofs.FoundInside.{finds-leaf, finds-list, finds-object, items_begin, items_end}
use Rattle.jp_flat.proofs.FoundInside.{items_more, members_begin, members_end, members_more}
use Rattle.jp_flat.proofs.finding.+finding.Goals as goal

pub find_inside-returns-in_ok-found-in-BeginArray-clause-finds :
    goal.find_inside-returns-in_ok-found-in-BeginArray-clause-finds
find_inside-returns-in_ok-found-in-BeginArray-clause-finds _ t c =
    let k = token_of c.in_ok-token.token in
    let is : k ≡ Token.begin_array = grind arith in
    let first : c.args.reader.now.tokens ≡ Token.begin_array ∷ c.next.new.self.tokens = grind arith in
    finds-list c.args.depth c.args.reader.now.tokens c.next.new.self.tokens
    c.find_item.new.reader.tokens (shown c.find_item.new.tables) _ c.in_ok-found-in-BeginArray.found
    c.if-depth-gt0.true first c.in_ok-found-in-BeginArray.ensures.finds

pub find_inside-returns-in_ok-found-in-BeginObject-clause-finds :
    goal.find_inside-returns-in_ok-found-in-BeginObject-clause-finds
find_inside-returns-in_ok-found-in-BeginObject-clause-finds _ t c =
    let k = token_of c.in_ok-token.token in
    let is : k ≡ Token.begin_object = grind arith in
    let first : c.args.reader.now.tokens ≡ Token.begin_object ∷ c.next.new.self.tokens = grind arith in
    finds-object c.args.depth c.args.reader.now.tokens c.next.new.self.tokens
    c.find_member.new.reader.tokens (shown c.find_member.new.tables) _
    c.in_ok-found-in-BeginObject.found c.if-depth-gt0-2.true first
    c.in_ok-found-in-BeginObject.ensures.finds

pub find_inside-returns-in_ok-leaf-in_default-clause-finds :
    goal.find_inside-returns-in_ok-leaf-in_default-clause-finds
find_inside-returns-in_ok-leaf-in_default-clause-finds _ t c =
    let done = c.in_ok-leaf-in_default.ensures in
    finds-leaf c.args.depth c.args.reader.now.tokens c.next.new.self.tokens
    (token_of c.in_ok-token.token) (shown c.leaf.new.tables) c.in_ok-leaf-in_default.field-0
    (Some c.args.sought) (c.in_ok-token.ensures.reads done.good) done.leaf

pub find_item-items-init : goal.find_item-items-init
find_item-items-init _ t c = record {
  so =
      items_begin c.args.depth c.args.reader.now.tokens (shown c.args.tables.now)
      (Some c.args.sought);
  items = refl;
  members = refl;
  text = search rules;
}

pub find_item-items-preserved : goal.find_item-items-preserved
find_item-items-preserved _ t c =
    let l = c.items in
    let same : c.take_end_array.new.self.tokens ≡ l.reader.tokens = grind arith in
    let done = c.in_ok-item.ensures in
    let i = c.in_ok-item.item in
    let here = location_of c.item_sought-inside.result in
    let r = c.find.new.reader.tokens in
    let w = shown c.find.new.tables in
    let less : length r < length l.reader.tokens = rw (← same) done.shorter in
    let read : FindsAt c.args.depth l.reader.tokens r w here i = rw (← same) done.finds in
    record {
      so = rw c.in_ok-index.ensures.1
          (rw c.found_later-found.ensures
          (items_more c.args.depth c.args.reader.now.tokens l.reader.tokens r (shown c.args.tables.now)
          (shown l.tables) w (Some c.args.sought) l.index here l.found i c.in_ok-index.ensures.0
          c.item_sought-inside.ensures less done.grows read l.invariant.so));
      items = done.items ∙ l.invariant.items;
      members = done.members ∙ l.invariant.members;
      text = search rules;
    }

pub find_item-returns-clause-finds : goal.find_item-returns-clause-finds
find_item-returns-clause-finds _ t c =
    let l = c.items in
    let over : after_end_array l.reader.tokens ≡ Some c.take_end_array.new.self.tokens = grind arith in
    items_end c.args.depth c.args.reader.now.tokens l.reader.tokens c.take_end_array.new.self.tokens
    (shown c.args.tables.now) (shown l.tables) (Some c.args.sought) l.index l.found over
    l.invariant.so

pub find_member-members-init : goal.find_member-members-init
find_member-members-init _ t c = record {
  so =
      members_begin c.args.depth c.args.reader.now.tokens (shown c.args.tables.now)
      (Some c.args.sought);
  items = refl;
  members = refl;
  text = search rules;
}

pub find_member-members-preserved : goal.find_member-members-preserved
find_member-members-preserved _ t c =
    let l = c.members in
    let sought = c.in_ok-inside.ensures.sought in
    let k = sought.text in
    let a = c.next_name.new.self.tokens in
    let r = c.find.new.reader.tokens in
    let done = c.in_ok-item.ensures in
    let i = c.in_ok-item.item in
    let here = location_of c.in_ok-inside.inside in
    let w = shown c.member_sought.new.tables in
    let named : read_key l.reader.tokens ≡ Some (Some k, a) =
    subst (ReadsName l.reader.tokens a) c.in-Some.is c.in_ok-name.ensures.reads k sought.says in
    let less = read_key-shorter l.reader.tokens (Some k) a named in
    let lesser = done.shorter in
    let shorter : length r < length l.reader.tokens = omega arith in
    record {
      so = rw c.found_later-found.ensures
          (members_more c.args.depth c.args.reader.now.tokens l.reader.tokens a r
          (shown c.args.tables.now) (shown l.tables) w (shown c.find.new.tables)
          (Some c.args.sought) k here l.found i named sought.is shorter
          c.in_ok-inside.ensures.grows done.grows done.finds l.invariant.so);
      items = done.items ∙ l.invariant.items;
      members = done.members ∙ l.invariant.members;
      text = search rules;
    }

pub find_member-returns-clause-finds : goal.find_member-returns-clause-finds
find_member-returns-clause-finds _ t c =
    let l = c.members in
    let over : read_key l.reader.tokens ≡ Some (None, c.next_name.new.self.tokens) = grind arith in
    members_end c.args.depth c.args.reader.now.tokens l.reader.tokens c.next_name.new.self.tokens
    (shown c.args.tables.now) (shown l.tables) (Some c.args.sought) l.found over l.invariant.so
