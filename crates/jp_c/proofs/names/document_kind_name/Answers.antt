use Rattle.std.proofs.Common.{refl}
use Rattle.jp_c.specs.Names.{of_document}
use Rattle.jp_c.proofs.names.document_kind_name.Goals as goal

pub returns-clause-some : goal.returns-clause-some
returns-clause-some c =
    of_document c.in_ok-fault.fault refl c.in_ok-fault.ensures.some c.name.ensures
