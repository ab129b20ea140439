use Rattle.std.proofs.Common.{sym, ap, ◌∙◌}
use Rattle.std.specs.Str.{chars}
use Rattle.jp_query.specs.Levels.{level_limit}
use Rattle.jp_tree.specs.Views.{query_of}
use Rattle.jp_query.specs.Grammar.{Spells}
use Rattle.jp_query.specs.Private.Reading.{query_at}
use Rattle.jp_query.proofs.Soundness.Whole.{read-spells}
use Rattle.jp_query.proofs.WholeRules.{queries}
use Rattle.jp_query.proofs.Refusals.Refused.{refused-only, refused-kinds, refused-syntax}
use Rattle.jp_query.proofs.Refusals.Refused.{refused-deep}
use Rattle.jp_query.proofs.parsed.parse.Goals as goal

pub returns-in-Ok-clause-found : goal.returns-in-Ok-clause-found
returns-in-Ok-clause-found c =
    rw c.into_spans.ensures
    (read-spells level_limit (chars c.args.text.now) (query_of c.in-Ok.query) c.query.new.reader
    (ap (query_at level_limit) (sym c.new-reader.ensures) ∙ c.in-Ok.ensures))

pub invariant_of-result : goal.invariant_of-result
invariant_of-result c =
    let spells : Spells level_limit (query_of c.in-Ok.query) c.into_spans.result.items
    (chars c.args.text.now) = rw c.into_spans.ensures
    (read-spells level_limit (chars c.args.text.now) (query_of c.in-Ok.query) c.query.new.reader
    (ap (query_at level_limit) (sym c.new-reader.ensures) ∙ c.in-Ok.ensures)) in
    (chars c.args.text.now, spells)

pub returns-in-Err-clause-only : goal.returns-in-Err-clause-only
unfolding query_at
returns-in-Err-clause-only c =
    rw c.from.ensures (refused-only queries level_limit
    (chars c.args.text.now) c.new-reader.result c.in-Err.stop c.new-reader.ensures c.in-Err.ensures)

pub returns-in-Err-clause-kinds : goal.returns-in-Err-clause-kinds
returns-in-Err-clause-kinds c = rw c.from.ensures (refused-kinds c.in-Err.stop)

pub returns-in-Err-clause-syntax : goal.returns-in-Err-clause-syntax
unfolding query_at
returns-in-Err-clause-syntax c =
    rw c.from.ensures (refused-syntax queries level_limit
    (chars c.args.text.now) c.new-reader.result c.in-Err.stop c.new-reader.ensures c.in-Err.ensures)

pub returns-in-Err-clause-deep : goal.returns-in-Err-clause-deep
unfolding query_at
returns-in-Err-clause-deep c =
    rw c.from.ensures (refused-deep queries level_limit
    (chars c.args.text.now) c.new-reader.result c.in-Err.stop c.new-reader.ensures c.in-Err.ensures)
