use Rattle.std.proofs.Common.{◌≡◌, subst}
use Rattle.std.specs.Str.{chars}
use Rattle.jp_reading.specs.Outcome.{State, took}
use Rattle.jp_reading.specs.declared.reader.Stop.{Stop}
use Rattle.jp_reading.specs.declared.reader.Stop.TheVariants.{Syntax, TooDeep}
use Rattle.jp_reading.specs.Views.{Fails}
use Rattle.jp_reading.proofs.States.Again.{start}
use Rattle.jp_iregexp.specs.Groups.{group_limit}
use Rattle.jp_iregexp.specs.Tree.{tree}
use Rattle.jp_iregexp.specs.Private.Reading.{pattern_at}
use Rattle.jp_iregexp.proofs.WholeTexts.{read-spelt, fails-spelt, deep-spelt}
use Rattle.jp_iregexp.proofs.read.read_pattern.Goals as goal

pub returns-in-Ok-clause-found : goal.returns-in-Ok-clause-found
returns-in-Ok-clause-found c =
    let read : pattern_at group_limit (start (chars c.args.text.now)) ≡
    took (tree c.in-Ok.pattern) c.pattern.new.reader =
    rw (← c.new-reader.ensures) c.in-Ok.ensures in
    read-spelt group_limit (tree c.in-Ok.pattern) (chars c.args.text.now) c.pattern.new.reader read

pub returns-in-Err-Syntax-clause-only : goal.returns-in-Err-Syntax-clause-only
returns-in-Err-Syntax-clause-only c =
    λ e. fails-spelt group_limit (chars c.args.text.now) c.in-Err-Syntax.field-0-0
    (subst (λ (r : State). Fails (Syntax c.in-Err-Syntax.field-0-0) (pattern_at group_limit r))
    c.new-reader.ensures
    (subst (λ (s : Stop). Fails s (pattern_at group_limit c.new-reader.result))
    c.in-Err-Syntax.field-0-is c.in-Err-Syntax.ensures))

pub returns-clause-only : goal.returns-clause-only
returns-clause-only c =
    λ e. deep-spelt group_limit (chars c.args.text.now) c.in-Err-TooDeep.field-0-0
    (subst (λ (r : State). Fails (TooDeep c.in-Err-TooDeep.field-0-0) (pattern_at group_limit r))
    c.new-reader.ensures
    (subst (λ (s : Stop). Fails s (pattern_at group_limit c.new-reader.result))
    c.in-Err-TooDeep.field-0-is c.in-Err-TooDeep.ensures))
