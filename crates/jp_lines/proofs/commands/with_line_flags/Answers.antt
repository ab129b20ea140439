use Rattle.std.proofs.Common.{◌∙◌, ap, codes}
use Rattle.std.proofs.lemmas.Result.{IfOk-weaker}
use Rattle.jp_command.specs.CommandLine.{with_flag}
use Rattle.jp_lines.specs.CommandLine.{with_line_numbers, with_tellings}
use Rattle.jp_lines.proofs.commands.with_line_flags.Goals as goal

pub returns-clause-shape : goal.returns-clause-shape
returns-clause-shape c =
    let numbered = c.in_ok-command-2.ensures.shape
    ∙ ap (λ a. with_flag a (codes "number")) c.in_ok-command.ensures.shape in
    let going = c.in_ok-command-3.ensures.shape
    ∙ ap (λ a. with_flag a (codes "keep-going")) numbered in
    let buffered = c.in_ok-command-4.ensures.shape
    ∙ ap (λ a. with_flag a (codes "line-buffered")) going in
    let told = c.in_ok-command-5.ensures.shape ∙ ap with_tellings buffered in
    IfOk-weaker c.with_line_numbers.result _ _ (λ more same. same ∙ ap with_line_numbers told)
    c.with_line_numbers.ensures.shape
