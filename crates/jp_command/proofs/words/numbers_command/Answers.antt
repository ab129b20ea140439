use Rattle.std.proofs.Common.{◌≡◌, IfOk, codes, subst}
use Rattle.clap.specs.Words.{app_of}
use Rattle.jp_command.specs.CommandLine.{with_flag}
use Rattle.jp_command.proofs.words.numbers_command.Goals as goal

pub returns-clause-shape : goal.returns-clause-shape
returns-clause-shape c =
    subst (λ app. IfOk c.with_flag.result (λ more. app_of more ≡ with_flag app (codes "decimals")))
    c.in_ok-command.ensures.shape c.with_flag.ensures.shape
