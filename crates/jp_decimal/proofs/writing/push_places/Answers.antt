-- For `push_places`.
use Rattle.std.proofs.Common.{◌≡◌, ◌-◌, ◌++◌, ℕ, List, [], ◌∷◌, length, string_bytes, arith, rules}
use Rattle.std.proofs.Common.{lt-ltb}
use Rattle.std.proofs.lemmas.Bool.{le-ltb}
use Rattle.jp_decimal.specs.Appended.{IsBegun}
use Rattle.jp_decimal.specs.NumberText.{zeros}
use Rattle.jp_decimal.proofs.Begun.{after}
use Rattle.jp_decimal.proofs.writing.push_places.Goals as goal

pub returns-then-missing-lt6-clause-kept : goal.returns-then-missing-lt6-clause-kept
returns-then-missing-lt6-clause-kept c =
    let before : List ℕ = string_bytes c.args.text.now in
    let ds : List ℕ = c.args.digits.now in
    let now : List ℕ = string_bytes c.push_str-then-missing-lt6.new.self in
    let opened : string_bytes c.push_str.new.self ≡ before ++ 48 ∷ 46 ∷ [] = search rules in
    let last : IsBegun (string_bytes c.push_zeros.new.text) ds now = search rules in
    let begun : IsBegun before (48 ∷ 46 ∷ (zeros (c.args.places - length ds) ++ ds)) now =
    after before (48 ∷ 46 ∷ []) (zeros (c.args.places - length ds) ++ ds) (string_bytes c.push_str.new.self) now opened
    (after (string_bytes c.push_str.new.self) (zeros (c.args.places - length ds)) ds (string_bytes c.push_zeros.new.text) now
    c.in_ok-push_zeros.ensures.ok last) in
    rw (
      le-ltb c.args.places (length ds) (omega (arith, c.if-behind-digits.false)),
      lt-ltb (c.args.places - length ds) 6 (omega (arith, c.if-missing-lt6.true)),
    ) begun
