use Rattle.std.proofs.Common.{◌≡◌, ◌∷◌, ◌-◌, arith, rules, subst}
use Rattle.jp_flat.specs.Private.Kept.{KeepsFlatItems}
use Rattle.json.specs.Token.{Token}
use Rattle.jp_flat.specs.Asked.{is_listed, with_items_of}
use Rattle.jp_flat.specs.Flat.{shown}
use Rattle.jp_flat.specs.Private.Tokens.{token_of}
use Rattle.jp_flat.proofs.PickedValues.{keeps-list, keeps-no_list}
use Rattle.jp_flat.proofs.picking.picked_list.Goals as goal

pub returns-in_ok-list-in-BeginArray-clause-keeps :
    goal.returns-in_ok-list-in-BeginArray-clause-keeps
returns-in_ok-list-in-BeginArray-clause-keeps _ c =
    let k = token_of c.in_ok-token.token in
    let is : k ≡ Token.begin_array = grind arith in
    let first : c.args.reader.now.tokens ≡ Token.begin_array ∷ c.next.new.self.tokens = grind arith in
    let inside : c.in_ok-inside-in-BeginArray.inside ≡ c.args.depth - 1 = omega arith in
    let r = c.picked_items.new.reader.tokens in
    let u = shown c.picked_items.new.tables in
    let i = c.in_ok-list-in-BeginArray.list in
    keeps-list (λ v u. u ≡ with_items_of (is_listed c.args.names.now) v) c.args.depth
    c.args.reader.now.tokens c.next.new.self.tokens r u i (omega arith) first
    (subst (λ n. KeepsFlatItems (λ v u. u ≡ with_items_of (is_listed c.args.names.now) v) n
    c.next.new.self.tokens r u i) inside c.in_ok-list-in-BeginArray.ensures.keeps)

pub returns-in_ok-item-in_default : goal.returns-in_ok-item-in_default
returns-in_ok-item-in_default _ c =
    let done = c.in_ok-item-in_default.ensures in
    let first : c.args.reader.now.tokens ≡ token_of c.in_ok-token.token ∷ c.next.new.self.tokens =
    c.in_ok-token.ensures.reads done.good in
    record {
      keeps = keeps-no_list (is_listed c.args.names.now) c.args.depth c.args.reader.now.tokens
          c.next.new.self.tokens c.value_behind.new.reader.tokens c.in_ok-token.token
          (shown c.value_behind.new.tables) c.in_ok-item-in_default.item first
          c.in_default.not-BeginArray done.reads;
      exact = done.grows.exact;
      text = search rules;
    }
