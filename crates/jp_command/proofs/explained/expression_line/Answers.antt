use Rattle.std.proofs.Common.{rules, string_bytes}
use Rattle.jp_command.proofs.explained.expression_line.Goals as goal

pub returns : goal.returns
returns c = record {
  explanation = string_bytes c.in_ok-behind.behind;
  explains = c.in_ok-behind.ensures;
  is = search rules;
}
