use Rattle.std.proofs.Common.{IfErr, arith}
use Rattle.std.proofs.lemmas.Grind.{common_steps}
use Rattle.std.specs.Str.{chars}
use Rattle.jp_query.specs.Components.{components_of}
use Rattle.jp_query.specs.Grammar.{Spells}
use Rattle.jp_query.specs.Levels.{level_limit}
use Rattle.jp_query.proofs.OneRefusal.{one-refusal}
use Rattle.jp_query.proofs.Unique.{one-reading}
use Rattle.jp_tree.specs.Views.{query_of}
use Rattle.jp_check.specs.Refused.{IsRefused}
use Rattle.jp_check.proofs.Alone.{first-refused, refused-result}
use Rattle.jp_check.proofs.checked.read_query.Goals as goal

pub returns-in_err-parsed-clause-only : goal.returns-in_err-parsed-clause-only
returns-in_err-parsed-clause-only c =
    let refused : IfErr c.from_residual.result
    (IsRefused c.args.profile (chars c.args.text.now)) = grind
    (arith, common_steps) in
    refused-result c.args.profile one-reading one-refusal (chars c.args.text.now)
    c.from_residual.result refused

pub returns-clause-refused : goal.returns-clause-refused
returns-clause-refused c =
    first-refused Spells level_limit components_of c.args.profile (chars c.args.text.now)
    (query_of c.in_ok-parsed.parsed.query) c.in_ok-parsed.parsed.spans c.check.result
    c.in_ok-parsed.ensures.found c.check.ensures.first

pub returns-clause-only : goal.returns-clause-only
returns-clause-only c =
    refused-result c.args.profile one-reading one-refusal (chars c.args.text.now) c.check.result
    (returns-clause-refused c)
