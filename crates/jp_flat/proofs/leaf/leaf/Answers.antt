use Rattle.std.proofs.Common.{◌≡◌, ap, refl, ◌∙◌, arith}
use Rattle.json.specs.Lex.{string_token}
use Rattle.json.specs.Token.{Token}
use Rattle.jp_flat.specs.Flat.{shown}
use Rattle.jp_flat.specs.Private.Tokens.{said, token_of}
use Rattle.jp_document.specs.Value.{boolean, null, text, whole}
use Rattle.jp_flat.proofs.Leaves.{bare-by, boolean_means, null_means, text_means}
use Rattle.jp_flat.proofs.Leaves.{leaf-boolean, leaf-null, leaf-taken, leaf-text, leaf-whole}
use Rattle.jp_flat.proofs.leaf.leaf.Goals as goal

pub returns-in-Null-clause-leaf : goal.returns-in-Null-clause-leaf
returns-in-Null-clause-leaf _ c =
    let k = token_of c.args.token in
    let is : k ≡ Token.null = grind arith in leaf-null k (shown c.args.tables.now) is

pub returns-in-Bool-clause-leaf : goal.returns-in-Bool-clause-leaf
returns-in-Bool-clause-leaf _ c =
    let k = token_of c.args.token in
    let is : k ≡ Token.boolean c.in-Bool.truth = grind arith in
    leaf-boolean k (shown c.args.tables.now) c.in-Bool.truth is

pub returns-in_ok-item-in-Number-clause-leaf : goal.returns-in_ok-item-in-Number-clause-leaf
returns-in_ok-item-in-Number-clause-leaf _ c =
    let k = token_of c.args.token in
    let s = c.in-Number.text.now in
    let is : k ≡ Token.number s = grind arith in
    leaf-whole k (shown c.args.tables.now) c.in_ok-item-in-Number.item s is
    c.in_ok-item-in-Number.ensures

pub returns-in_ok-item-in-Numeral-clause-leaf : goal.returns-in_ok-item-in-Numeral-clause-leaf
returns-in_ok-item-in-Numeral-clause-leaf _ c =
    let k = token_of c.args.token in
    let s = c.in-Numeral.text.now in
    let is : k ≡ Token.number s = grind arith in
    leaf-taken k (shown c.args.tables.now) c.in_ok-item-in-Numeral.item s is
    c.in_ok-item-in-Numeral.ensures

pub returns-in_ok-span-in-Text-clause-leaf : goal.returns-in_ok-span-in-Text-clause-leaf
returns-in_ok-span-in-Text-clause-leaf _ c =
    let k = token_of c.args.token in
    let spanned = c.in_ok-span-in-Text.ensures.spanned in
    let is : k ≡ string_token (said c.in-Text.text) = grind arith in
    leaf-text k (shown c.text_span.new.tables) c.in_ok-span-in-Text.span spanned.text
    (is ∙ ap string_token spanned.says) spanned.there

pub returns-in-Null-clause-bare : goal.returns-in-Null-clause-bare
returns-in-Null-clause-bare _ c =
    let t = shown c.args.tables.now in bare-by t _ null (λ n. null_means n t) refl

pub returns-in-Bool-clause-bare : goal.returns-in-Bool-clause-bare
returns-in-Bool-clause-bare _ c =
    let t = shown c.args.tables.now in
    bare-by t _ (boolean c.in-Bool.truth) (λ n. boolean_means n t c.in-Bool.truth) refl

pub returns-in_ok-item-in-Number-clause-bare : goal.returns-in_ok-item-in-Number-clause-bare
returns-in_ok-item-in-Number-clause-bare _ c =
    let t = shown c.args.tables.now in
    let x = c.in_ok-item-in-Number.ensures in
    bare-by t c.in_ok-item-in-Number.item (whole x.number) (λ n. x.means n t) refl

pub returns-in_ok-span-in-Text-clause-bare : goal.returns-in_ok-span-in-Text-clause-bare
returns-in_ok-span-in-Text-clause-bare _ c =
    let t = shown c.text_span.new.tables in
    let spanned = c.in_ok-span-in-Text.ensures.spanned in
    bare-by t _ (text spanned.text)
    (λ n. text_means n t c.in_ok-span-in-Text.span spanned.text spanned.there) refl

pub returns-in_ok-item-in-Numeral-clause-bare : goal.returns-in_ok-item-in-Numeral-clause-bare
returns-in_ok-item-in-Numeral-clause-bare _ c =
    let t = shown c.args.tables.now in
    let x = c.in_ok-item-in-Numeral.ensures in
    bare-by t c.in_ok-item-in-Numeral.item x.value (λ n. x.means n t.items) x.alone
