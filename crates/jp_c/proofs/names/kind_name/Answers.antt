use Rattle.std.proofs.Common.{subst}
use Rattle.jp_c.specs.Names.{IsKindName}
use Rattle.jp_c.proofs.names.kind_name.Goals as goal

pub returns-in-1-clause-none : goal.returns-in-1-clause-none
returns-in-1-clause-none c = λ none name is.
    c.query_kind_name.ensures.none none name
    (subst (λ s. IsKindName s c.args.kind name) c.in-1.is is)

pub returns-in-3-clause-none : goal.returns-in-3-clause-none
returns-in-3-clause-none c = λ none name is.
    c.document_kind_name.ensures.none none name
    (subst (λ s. IsKindName s c.args.kind name) c.in-3.is is)
