use Rattle.std.proofs.Common.{sym, ap, ◌∙◌}
use Rattle.jp_query.specs.Private.HexDigits.{holds_value}
use Rattle.jp_query.proofs.Readers.HexKinds.{is_one_of-value, is_one_of-below}
use Rattle.jp_query.proofs.strings.digit.Goals as goal

pub value_of-requires : goal.value_of-requires
value_of-requires c =
    is_one_of-below c.args.kind c.in_ok-next.next c.in_ok-next.ensures.member

pub returns-clause-range : goal.returns-clause-range
returns-clause-range c =
    ap (holds_value c.args.kind) c.value_of.ensures
    ∙ sym (is_one_of-value c.args.kind c.in_ok-next.next) ∙ c.in_ok-next.ensures.member

pub returns-clause-below : goal.returns-clause-below
returns-clause-below c =
    rw c.value_of.ensures
    (is_one_of-below c.args.kind c.in_ok-next.next c.in_ok-next.ensures.member)
