use Rattle.std.proofs.Common.{◌≡◌, ◌++◌, ◌∷◌, [], rules, string_bytes, subst, sym}
use Rattle.jp_reading.specs.Characters as char
use Rattle.jp_decimal.specs.Appended.{IsBegun}
use Rattle.jp_document.specs.Location.{step_of}
use Rattle.jp_document.specs.Text.{string_text}
use Rattle.jp_decimal.proofs.Begun.{after, first}
use Rattle.jp_lent.specs.Private.Printing.{name_text}
use Rattle.jp_lent.proofs.printing.push_name.Goals as goal

pub returns-in_err-push_text-in-Name-clause-kept :
    goal.returns-in_err-push_text-in-Name-clause-kept
returns-in_err-push_text-in-Name-clause-kept c =
    subst (λ s. IsBegun (string_bytes c.args.out.now) (name_text (step_of s))
    (string_bytes c.push_text.new.out)) (sym c.in-Name.is)
    (first _ (string_text c.in-Name.name.now) (char.colon ∷ []) _ c.in_err-push_text-in-Name.ensures.kept)

pub returns-in_ok-push_text-in-Name-clause-kept : goal.returns-in_ok-push_text-in-Name-clause-kept
returns-in_ok-push_text-in-Name-clause-kept c =
    let name : string_bytes c.push_text.new.out ≡ string_bytes c.args.out.now
    ++ string_text c.in-Name.name.now = search rules in
    let colon : IsBegun (string_bytes c.push_text.new.out) (char.colon ∷ [])
    (string_bytes c.push.new.self) = search rules in
    subst (λ s. IsBegun (string_bytes c.args.out.now) (name_text (step_of s))
    (string_bytes c.push.new.self)) (sym c.in-Name.is)
    (after _ (string_text c.in-Name.name.now) (char.colon ∷ []) _ _ name colon)
