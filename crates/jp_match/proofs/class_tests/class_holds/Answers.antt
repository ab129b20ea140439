use Rattle.std.proofs.Common.{sym, ◌∙◌}
use Rattle.jp_match.proofs.Classes.{one_range, only_range}
use Rattle.jp_match.proofs.class_tests.class_holds.Goals as goal

pub returns-in-Range : goal.returns-in-Range
returns-in-Range c =
    let only = only_range c.as_slice.result.now _ _ c.in-len1.len_at_least c.in-len1.len_below
    c.in-Range.is in
    one_range c.args.class.now.negated c.args.class.now.elements.items _ _ c.args.c c.is_between.result
    (sym c.as_slice.ensures.value ∙ only) c.is_between.ensures
