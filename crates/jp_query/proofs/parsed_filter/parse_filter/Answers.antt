use Rattle.std.proofs.Common.{sym, ap, ◌∙◌}
use Rattle.std.specs.Str.{chars}
use Rattle.jp_query.specs.Levels.{filter_level_limit}
use Rattle.jp_query.specs.Grammar.{SpellsFilter}
use Rattle.jp_query.specs.Private.Parts.{boxed_expr}
use Rattle.jp_query.specs.Private.Reading.{filter_at}
use Rattle.jp_query.proofs.Soundness.Whole.{read-spelt}
use Rattle.jp_query.proofs.WholeRules.{filters}
use Rattle.jp_query.proofs.Refusals.Refused.{refused-only, refused-kinds, refused-syntax}
use Rattle.jp_query.proofs.Refusals.Refused.{refused-deep}
use Rattle.jp_query.proofs.parsed_filter.parse_filter.Goals as goal

pub returns-in-Ok-clause-found : goal.returns-in-Ok-clause-found
unfolding filter_at
returns-in-Ok-clause-found c =
    rw c.into_spans.ensures
    (read-spelt filters filter_level_limit (chars c.args.text.now) (boxed_expr c.in-Ok.expr)
    c.filter.new.reader
    (ap (filter_at filter_level_limit) (sym c.new-reader.ensures) ∙ c.in-Ok.ensures))

pub invariant_of-result : goal.invariant_of-result
unfolding filter_at
invariant_of-result c =
    let spells : SpellsFilter filter_level_limit (boxed_expr c.in-Ok.expr) c.into_spans.result.items
    (chars c.args.text.now) = rw c.into_spans.ensures
    (read-spelt filters filter_level_limit (chars c.args.text.now) (boxed_expr c.in-Ok.expr)
    c.filter.new.reader
    (ap (filter_at filter_level_limit) (sym c.new-reader.ensures) ∙ c.in-Ok.ensures)) in
    (chars c.args.text.now, spells)

pub returns-in-Err-clause-only : goal.returns-in-Err-clause-only
unfolding filter_at
returns-in-Err-clause-only c =
    rw c.from.ensures (refused-only filters filter_level_limit
    (chars c.args.text.now) c.new-reader.result c.in-Err.stop c.new-reader.ensures c.in-Err.ensures)

pub returns-in-Err-clause-kinds : goal.returns-in-Err-clause-kinds
returns-in-Err-clause-kinds c = rw c.from.ensures (refused-kinds c.in-Err.stop)

pub returns-in-Err-clause-syntax : goal.returns-in-Err-clause-syntax
unfolding filter_at
returns-in-Err-clause-syntax c =
    rw c.from.ensures (refused-syntax filters filter_level_limit
    (chars c.args.text.now) c.new-reader.result c.in-Err.stop c.new-reader.ensures c.in-Err.ensures)

pub returns-in-Err-clause-deep : goal.returns-in-Err-clause-deep
unfolding filter_at
returns-in-Err-clause-deep c =
    rw c.from.ensures (refused-deep filters filter_level_limit
    (chars c.args.text.now) c.new-reader.result c.in-Err.stop c.new-reader.ensures c.in-Err.ensures)
