use Rattle.std.proofs.Common.{◌≡◌, [], ◌∷◌, ◌++◌, string_bytes, rules, subst, sym}
use Rattle.jp_decimal.specs.Appended.{IsBegun}
use Rattle.jp_document.proofs.Writing.Appended.{between}
use Rattle.jp_document.proofs.spelling.push_plain.Goals as goal

pub returns-clause-kept : goal.returns-clause-kept
returns-clause-kept c =
    let quote = c.args.quote in
    let text = c.args.text.now in
    let opened : string_bytes c.push.new.self ≡ string_bytes c.args.out.now ++ quote ∷ [] =
    search rules in
    let written : string_bytes c.push_str.new.self ≡ string_bytes c.push.new.self ++ text =
    search rules in
    let closed : IsBegun (string_bytes c.push_str.new.self) (quote ∷ [])
    (string_bytes c.push-2.new.self) = search rules in
    subst (λ x. IsBegun (string_bytes c.args.out.now) (quote ∷ (x ++ quote ∷ []))
    (string_bytes c.push-2.new.self)) (sym c.requires.plain)
    (between _ text _ _ _ quote quote opened written closed)
