use Rattle.std.proofs.Common.{◌≡◌, ap, arith, inl, inr, ◌∙◌}
use Rattle.json.specs.Lex.{string_token}
use Rattle.json.specs.Token.{Token}
use Rattle.jp_flat.specs.Flat.{shown}
use Rattle.jp_flat.specs.Private.Tokens.{said, token_of}
use Rattle.jp_flat.specs.declared.item.Item.TheVariants as code
use Rattle.jp_flat.proofs.Leaves.{leaf-boolean, leaf-null, leaf-whole}
use Rattle.jp_flat.proofs.Passed.{on-some, passes-held, passes-leaf, passes-text}
use Rattle.jp_flat.proofs.passing.pass_leaf.Goals as goal

pub returns-in-Null-clause-passes : goal.returns-in-Null-clause-passes
returns-in-Null-clause-passes _ c =
    let k = token_of c.args.token in
    let t = shown c.args.tables.now in
    elim c.in-Null.is [
      | inl is ↦ passes-leaf k code.Null t (leaf-null k t (ap token_of is))
      | inr (b, is) ↦ passes-leaf k (code.Bool b) t (leaf-boolean k t b (ap token_of is))
    ]

pub returns-in_ok-number-in-Number-clause-passes :
    goal.returns-in_ok-number-in-Number-clause-passes
returns-in_ok-number-in-Number-clause-passes _ c =
    let k = token_of c.args.token in
    let s = c.in-Number.text.now in
    let i = c.in_ok-number-in-Number.field-0 in
    let is : k ≡ Token.number s = grind arith in
    let t = shown c.args.tables.now in
    passes-leaf k i t (leaf-whole k t i s is c.in_ok-number-in-Number.ensures)

pub returns-in-Numeral-clause-passes : goal.returns-in-Numeral-clause-passes
returns-in-Numeral-clause-passes _ c =
    let k = token_of c.args.token in
    let is : k ≡ Token.number c.in-Numeral.text.now = grind arith in
    on-some c.passed.result
    (passes-held k (shown c.args.tables.now) c.in-Numeral.text.now is) c.passed.ensures

pub returns-in-Text-clause-passes : goal.returns-in-Text-clause-passes
returns-in-Text-clause-passes _ c =
    let k = token_of c.args.token in
    let is : k ≡ string_token (said c.in-Text.text) = grind arith in
    on-some c.pass_text.result
    (λ x. passes-text k (shown c.args.tables.now) x.text (is ∙ ap string_token x.says))
    c.pass_text.ensures
