use Rattle.std.proofs.Common.{refl}
use Rattle.jp_c.specs.Names.{of_query}
use Rattle.jp_c.proofs.names.query_kind_name.Goals as goal

pub returns-clause-some : goal.returns-clause-some
returns-clause-some c = of_query c.in_ok-kind.kind refl c.in_ok-kind.ensures.some c.name.ensures
