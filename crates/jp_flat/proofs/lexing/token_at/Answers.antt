use Rattle.std.proofs.Common.{◌≡◌, ◌∷◌, ◌<◌, ◌∙◌, true, ap, get_or, length, refl, take, arith}
use Rattle.json.specs.Lex.{may_begin}
use Rattle.jp_flat.specs.Private.Tokens.{expected_of}
use Rattle.jp_flat.proofs.Lexed.{first_is}
use Rattle.jp_flat.proofs.Punctuated.{gives_array, gives_object, is_false, is_null, is_true}
use Rattle.jp_flat.proofs.Punctuated.{literal-there}
use Rattle.jp_flat.proofs.lexing.token_at.Goals as goal

pub literal-requires-clause-name : goal.literal-requires-clause-name
literal-requires-clause-name _ c =
    literal-there c.args.bytes.now c.args.from.at 4 _ _ (c.if-has_four.ensures.four refl) is_true

pub literal-requires-in-102-clause-name : goal.literal-requires-in-102-clause-name
literal-requires-in-102-clause-name _ c =
    let d = c.args.bytes.now in
    let room : c.args.from.at < length d = grind arith in
    literal-there d c.args.from.at 5 _ _
    (ap (take 5) (first_is d c.args.from.at 102 room c.in-102.is)
    ∙ ap (λ s. 102 ∷ s) (c.if-has_four-2.ensures.four refl)) is_false

pub literal-requires-in-110-clause-name : goal.literal-requires-in-110-clause-name
literal-requires-in-110-clause-name _ c =
    literal-there c.args.bytes.now c.args.from.at 4 _ _ (c.if-has_four-3.ensures.four refl) is_null

pub returns-in-123-clause-gives : goal.returns-in-123-clause-gives
returns-in-123-clause-gives _ c =
    let room : c.args.from.at < length c.args.bytes.now = grind arith in
    let byte : get_or c.args.bytes.now c.args.from.at 0 ≡ 123 = grind arith in
    let begins : may_begin (expected_of c.args.from.expected) ≡ true = grind arith in
    gives_object c.args.bytes.now c.args.from c.begun.result room byte begins c.begun.ensures.goes

pub returns-in-91-clause-gives : goal.returns-in-91-clause-gives
returns-in-91-clause-gives _ c =
    let room : c.args.from.at < length c.args.bytes.now = grind arith in
    let byte : get_or c.args.bytes.now c.args.from.at 0 ≡ 91 = grind arith in
    let begins : may_begin (expected_of c.args.from.expected) ≡ true = grind arith in
    gives_array c.args.bytes.now c.args.from c.begun-in-91.result room byte begins
    c.begun-in-91.ensures.goes
