use Rattle.std.proofs.Common.{◌≡◌, ◌+◌, ◌++◌, ◌∷◌, [], arith, get_or, rules, subst, sym, take}
use Rattle.std.proofs.lemmas.List.{take_more}
use Rattle.jp_flat.specs.Flat.{shown}
use Rattle.jp_flat.specs.Private.Keys.{AreKeyed}
use Rattle.jp_flat.specs.declared.item.Item.TheVariants as code
use Rattle.jp_flat.specs.declared.item.Named.{Named}
use Rattle.jp_flat.specs.declared.key.Keyed.{Keyed}
use Rattle.jp_flat.proofs.ByKeys.{keyed_more}
use Rattle.jp_flat.proofs.key.with_keys.Goals as goal

pub loop-member-preserved : goal.loop-member-preserved
loop-member-preserved c =
    let t = shown c.args.tables.now in
    let xs = c.args.members.now in
    let i = c.loop-member.member-index in
    let d : Named = record { name = record { first = 0; count = 0 }; item = code.Null } in
    let k : Keyed = record { key = c.key_behind-key.result; member = get_or xs i d } in
    let ks = c.loop-member.found.items in
    let grown : take (i + 1) xs ≡ take i xs ++ k.member ∷ [] = take_more xs i d (omega arith) in
    let pushed : c.push.new.self.items ≡ ks ++ k ∷ [] = search rules in
    subst (λ ms. AreKeyed t c.args.shared ms c.push.new.self.items) (sym grown)
    (subst (AreKeyed t c.args.shared (take i xs ++ k.member ∷ [])) (sym pushed)
    (keyed_more t c.args.shared (take i xs) ks k (search rules) c.loop-member.invariant))
