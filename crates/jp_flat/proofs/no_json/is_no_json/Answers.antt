use Rattle.std.proofs.Common.{◌≡◌, ◌≢◌, arith, not, subst, true}
use Rattle.json.specs.Lex.{tokens}
use Rattle.jp_document.specs.OfJson.{most_levels}
use Rattle.jp_flat.specs.Private.NoJson.{Halts, IsMet, HasNoValue}
use Rattle.jp_flat.specs.Private.Tokens.{tokens_from}
use Rattle.jp_flat.specs.declared.met.Met.TheVariants.{Other}
use Rattle.jp_flat.specs.declared.no_json.Impasse.TheVariants.{Here}
use Rattle.jp_flat.proofs.NoValues.{met-none, no-json-of, no-text-of}
use Rattle.jp_flat.proofs.no_json.is_no_json.Goals as goal
use Rattle.jp_flat.proofs.no_json.is_no_json.Goals.{in-Other, in_default-matches}

pub returns-in-Err-NoValue : goal.returns-in-Err-NoValue
returns-in-Err-NoValue c =
    let d = c.args.bytes.now in
    let all : c.new-cursor.result.tokens ≡ tokens d = grind arith in
    let none : HasNoValue most_levels c.new-cursor.result.tokens = grind arith in
    record { whole = λ said. no-json-of d (rw (← all) none); text = λ said. no-text-of d (rw (← all) none) }

pub returns-after-matches : goal.returns-after-matches
returns-after-matches c =
    let d = c.args.bytes.now in
    let all : c.new-cursor.result.tokens ≡ tokens d = grind arith in
    let now = c.pass.new.cursor.tokens in
    let here : Halts Here now (HasNoValue most_levels c.new-cursor.result.tokens) =
    subst (λ h. Halts h now (HasNoValue most_levels c.new-cursor.result.tokens)) c.in-Err-Here.field-0-is
    c.in-Err-Here.ensures.halted in
    let there : now ≡ tokens_from d c.point.result = grind arith in
    let met : IsMet now c.what_stands.result = rw there c.what_stands.ensures in
    let other : not c.match-matches.matches ≡ true → c.what_stands.result ≢ Other =
    λ said. grind (arith, said) in
    let none : not c.match-matches.matches ≡ true → HasNoValue most_levels (tokens d) =
    λ said. rw (← all) (met-none c.what_stands.result now met (other said) here) in
    record { whole = λ said. no-json-of d (none said); text = λ said. no-text-of d (none said) }
