use Rattle.std.proofs.Common.{Some, sym, ap, ◌∙◌}
use Rattle.std.specs.Str.{chars}
use Rattle.jp_iregexp.proofs.PatternOf.{others_have_none, spelt_is_found}
use Rattle.jp_iregexp.specs.Tree.{tree}
use Rattle.jp_evaluate.proofs.pattern.conforming.Goals as goal

pub returns-in-Ok : goal.returns-in-Ok
returns-in-Ok c =
    (spelt_is_found (chars c.args.text.now) (tree c.in-Ok.pattern)).1 c.in-Ok.ensures.found ∙
    ap Some (sym c.new.ensures)

pub returns-in-Err-NotConforming : goal.returns-in-Err-NotConforming
returns-in-Err-NotConforming c =
    (others_have_none (chars c.args.text.now)).1
    (c.in-Err-NotConforming.ensures.only c.in-Err-NotConforming.field-0-is)
