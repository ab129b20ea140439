use Rattle.std.proofs.Common.{◌≡◌, ◌∙◌, ap, IfOk, codes, subst}
use Rattle.clap.specs.Words.{app_of}
use Rattle.jp_command.specs.CommandLine.{with_flag}
use Rattle.jp_command.proofs.words.nodes_command.Goals as goal

pub returns-clause-shape : goal.returns-clause-shape
returns-clause-shape c =
    subst (λ app. IfOk c.with_flag-2.result (λ more. app_of more ≡ with_flag app (codes "exit-status")))
    (c.in_ok-command-2.ensures.shape ∙ ap (λ app. with_flag app (codes "first")) c.in_ok-command.ensures.shape)
    c.with_flag-2.ensures.shape
