use Rattle.std.proofs.Common.{◌∙◌, ap, codes}
use Rattle.std.proofs.lemmas.Result.{IfOk-weaker}
use Rattle.jp_command.specs.CommandLine.{with_flag}
use Rattle.jp_lines.specs.CommandLine.{columns_app, with_line_flags}
use Rattle.jp_lines.proofs.commands.columns_command.Goals as goal

pub returns-clause-shape : goal.returns-clause-shape
unfolding columns_app
returns-clause-shape c =
    let lines = c.in_ok-command-2.ensures.shape ∙ ap with_line_flags c.in_ok-command.ensures.shape in
    let csv = c.in_ok-command-3.ensures.shape ∙ ap (λ a. with_flag a (codes "csv")) lines in
    let raw = c.in_ok-command-4.ensures.shape ∙ ap (λ a. with_flag a (codes "raw")) csv in
    IfOk-weaker c.with_flag-3.result _ _
    (λ more same. same ∙ ap (λ a. with_flag a (codes "names")) raw) c.with_flag-3.ensures.shape
