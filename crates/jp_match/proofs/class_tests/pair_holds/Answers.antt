use Rattle.std.proofs.Common.{sym, ◌∙◌}
use Rattle.jp_match.proofs.Classes.{two_ranges, only_pair}
use Rattle.jp_match.proofs.class_tests.pair_holds.Goals as goal

pub returns-in-Range-Range : goal.returns-in-Range-Range
returns-in-Range-Range c =
    let both = only_pair c.as_slice.result.now _ _ _ c.in-len2.len_at_least c.in-len2.len_below
    c.in-Range-Range.is-0 c.in-Range-Range.is-1 in
    rw (c.is_between.ensures, c.is_between-in-Range-Range.ensures) (two_ranges c.args.class.now.negated
    c.args.class.now.elements.items _ _ _ _ c.args.c (sym c.as_slice.ensures.value ∙ both))
