use Rattle.std.proofs.Common.{◌∙◌, ap, codes}
use Rattle.std.proofs.lemmas.Result.{IfOk-weaker}
use Rattle.jp_command.specs.CommandLine.{with_flag}
use Rattle.jp_lines.proofs.commands.with_tellings.Goals as goal

pub returns-clause-shape : goal.returns-clause-shape
returns-clause-shape c =
    let ended = c.in_ok-command-2.ensures.shape
    ∙ ap (λ a. with_flag a (codes "exit-status")) c.in_ok-command.ensures.shape in
    IfOk-weaker c.with_flag-3.result _ _
    (λ more same. same ∙ ap (λ a. with_flag a (codes "summary")) ended) c.with_flag-3.ensures.shape
