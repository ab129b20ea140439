use Rattle.std.proofs.Common.{rules, ◌≡◌, ◌+◌}
use Rattle.jp_lines.specs.Closing.{lines_cut}
use Rattle.jp_lines.proofs.closing.summary_line.Goals as goal

pub returns : goal.returns
returns c =
    let more : c.in_ok-refused.refused ≡ c.args.ended.now.passed.tally.refused
    + lines_cut c.args.ended.now.end = search rules in
    let all : c.in_ok-lines.lines ≡ c.args.ended.now.passed.tally.documents
    + (c.args.ended.now.passed.tally.refused + lines_cut c.args.ended.now.end) = search rules in
    search rules
