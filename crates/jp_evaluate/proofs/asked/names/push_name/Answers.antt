use Rattle.std.proofs.Common.{subst, true}
use Rattle.jp_evaluate.specs.Private.Asks.{Collects}
use Rattle.jp_evaluate.proofs.Kept.Told.{told-pushed}
use Rattle.jp_evaluate.proofs.asked.names.push_name.Goals as goal

pub returns : goal.returns
returns c =
    subst (λ m. Collects c.args.names.now.items c.push.new.self.items (λ p. p m) true)
    c.in_ok-name.ensures.ok
    (told-pushed c.args.names.now.items c.push.new.self.items c.in_ok-name.name
    c.in_ok-push.ensures.items)
