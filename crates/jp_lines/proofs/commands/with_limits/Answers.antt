use Rattle.std.proofs.Common.{◌≡◌, ◌∙◌, ap, codes, rules}
use Rattle.std.proofs.lemmas.Result.{IfOk-weaker}
use Rattle.clap.specs.Words.{app_of}
use Rattle.clap.specs.declared.builder.value_parser.ValueParser.{ValueParser}
use Rattle.clap.specs.declared.builder.value_parser.ValueParser.TheVariants.{Unsigned}
use Rattle.jp_lines.specs.CommandLine.{greatest, with_number}
use Rattle.jp_lines.proofs.commands.with_limits.Goals as goal

pub returns-clause-shape : goal.returns-clause-shape
returns-clause-shape c =
    let from_one : ValueParser = Unsigned 1 greatest in
    let steps : c.range.result ≡ from_one = search rules in
    let nodes : c.range-2.result ≡ from_one = search rules in
    let bytes : c.range-3.result ≡ from_one = search rules in
    let first = c.in_ok-command.ensures.shape
    ∙ ap (with_number (app_of c.args.command) (codes "limit")) steps in
    let second = c.in_ok-command-2.ensures.shape
    ∙ ap (with_number (app_of c.in_ok-command.command) (codes "max-nodes")) nodes
    ∙ ap (λ a. with_number a (codes "max-nodes") from_one) first in
    IfOk-weaker c.with_number-3.result _ _
    (λ more same. same
    ∙ ap (with_number (app_of c.in_ok-command-2.command) (codes "max-bytes")) bytes
    ∙ ap (λ a. with_number a (codes "max-bytes") from_one) second)
    c.with_number-3.ensures.shape
