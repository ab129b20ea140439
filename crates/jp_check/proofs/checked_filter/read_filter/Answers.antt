use Rattle.std.proofs.Common.{IfErr, ◌≡◌, ◌⊎◌, arith}
use Rattle.std.proofs.lemmas.Grind.{common_steps}
use Rattle.std.specs.Str.{chars}
use Rattle.jp_query.specs.Levels.{filter_level_limit}
use Rattle.jp_query.specs.Spelled.{SpellsNoFilter}
use Rattle.jp_query.specs.declared.refusal.RefusalKind.TheVariants.{NoMemory}
use Rattle.jp_tree.specs.Views.{expr_of}
use Rattle.jp_check.proofs.Filters.{faulty-refused_filter, faulty-not_accepted, unspelt-result}
use Rattle.jp_check.proofs.checked_filter.read_filter.Goals as goal

pub returns-in_err-parsed-clause-only : goal.returns-in_err-parsed-clause-only
returns-in_err-parsed-clause-only c =
    let unspelt : IfErr c.from_residual.result
    (λ r. (r.kind ≡ NoMemory) ⊎ SpellsNoFilter filter_level_limit (chars c.args.text.now)) = grind
    (arith, common_steps) in
    unspelt-result c.args.profile (chars c.args.text.now) c.from_residual.result unspelt

pub returns-in-Some-clause-refused : goal.returns-in-Some-clause-refused
returns-in-Some-clause-refused c =
    faulty-refused_filter c.args.profile (chars c.args.text.now)
    (expr_of c.in_ok-parsed.parsed.expr) c.in_ok-parsed.parsed.spans c.in-Some.fault
    c.in_ok-parsed.ensures.found c.in-Some.ensures

pub returns-in-Some-clause-only : goal.returns-in-Some-clause-only
returns-in-Some-clause-only c =
    faulty-not_accepted c.args.profile (chars c.args.text.now)
    (expr_of c.in_ok-parsed.parsed.expr) c.in_ok-parsed.parsed.spans c.in-Some.fault
    c.in_ok-parsed.ensures.found c.in-Some.ensures
