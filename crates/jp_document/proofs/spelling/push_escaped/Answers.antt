use Rattle.std.proofs.Common.{◌≡◌, [], ◌∷◌, ◌++◌, string_bytes, rules}
use Rattle.std.specs.List.{flat_map}
use Rattle.jp_decimal.specs.Appended.{IsBegun}
use Rattle.jp_document.specs.Spelling.{spelling}
use Rattle.jp_document.proofs.Writing.Appended.{between}
use Rattle.jp_document.proofs.spelling.push_escaped.Goals as goal

pub returns-clause-kept : goal.returns-clause-kept
returns-clause-kept c =
    let quote = c.args.quote in
    let spelled = flat_map (spelling quote) c.args.text.now in
    let opened : string_bytes c.push.new.self ≡ string_bytes c.args.out.now ++ quote ∷ [] =
    search rules in
    let written : string_bytes c.push_spelled.new.out ≡ string_bytes c.push.new.self ++ spelled =
    search rules in
    let closed : IsBegun (string_bytes c.push_spelled.new.out) (quote ∷ [])
    (string_bytes c.push-2.new.self) = search rules in
    between _ spelled _ _ _ quote quote opened written closed
