use Rattle.std.proofs.Common.{refl, subst, sym}
use Rattle.jp_c.specs.Names.{IsKindName}
use Rattle.jp_c.proofs.names.name_outcome.Goals as goal

pub returns-in_default : goal.returns-in_default
returns-in_default c = c.in_default.ensures.none refl

pub returns-in-Ok : goal.returns-in-Ok
returns-in-Ok c =
    subst (IsKindName c.args.status c.args.kind) (sym c.in-Ok.ensures.ok) c.in-Some.ensures.some
